pub mod Replying
pub mod Turning
pub mod Going
pub mod Running
pub mod Counting
