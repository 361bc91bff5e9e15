pub mod Gets
pub mod Moves
pub mod Looks
pub mod Growth
pub mod Seen
