pub mod Form
pub mod Json
pub mod NoFloats
pub mod Place
pub mod Refusals
pub mod ToJson
