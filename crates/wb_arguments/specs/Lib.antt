pub mod Arguments
pub mod Variables
