pub mod Documents
pub mod Alone
pub mod Preparing
pub mod Counting
pub mod Paths
