pub mod Visits
pub mod Coming
pub mod MemoryDoors
pub mod Sockets
pub mod TcpDoors
