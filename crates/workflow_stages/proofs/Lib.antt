mod ToldLemmas
mod Paths
mod Given
pub mod Counts
pub mod Joined
pub mod Started
