pub mod Answering
pub mod Lists
pub mod Names
pub mod Options
pub mod Paths
pub mod Results
