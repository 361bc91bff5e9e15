pub mod Positions
pub mod Heads
