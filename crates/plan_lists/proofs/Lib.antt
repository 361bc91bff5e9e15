pub mod Weights
pub mod Steps
pub mod Counting
pub mod Ends
