pub mod Loops
pub mod Heads
