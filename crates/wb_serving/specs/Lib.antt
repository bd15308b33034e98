pub mod Machines
pub mod Turns
pub mod Counts
pub mod Talk
pub mod Replies
pub mod Responses
pub mod Connections
pub mod Runs
