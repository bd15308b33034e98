pub mod Selves
