pub mod BoundedServices
pub mod Choices
pub mod Climbing
pub mod Climbs
pub mod FirstLooks
pub mod Handed
pub mod Sequencing
pub mod ServedValues
