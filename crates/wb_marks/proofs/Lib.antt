pub mod SameOnes
pub mod Settled
pub mod Apart
