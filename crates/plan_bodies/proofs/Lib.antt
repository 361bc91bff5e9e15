pub mod Counts
mod Dones
mod EnteredItems
pub mod Reach
mod Rooms
