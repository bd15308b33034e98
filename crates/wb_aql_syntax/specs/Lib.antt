pub mod Canonical
pub mod Printed
