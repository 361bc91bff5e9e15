pub mod Depths
pub mod Levels
