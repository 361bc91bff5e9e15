pub mod Needs
pub mod Bounds
pub mod Rooms
