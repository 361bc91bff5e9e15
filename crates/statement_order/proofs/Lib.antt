pub mod Arguments
pub mod Slots
