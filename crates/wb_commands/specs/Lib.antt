pub mod Body
pub mod Forms
pub mod Keys
