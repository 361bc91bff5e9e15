pub mod Blocks
pub mod Calls
pub mod Counts
pub mod Flows
pub mod Given
pub mod Items
pub mod Numbers
pub mod Tasks
