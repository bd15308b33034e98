pub mod MemoryKeepers
