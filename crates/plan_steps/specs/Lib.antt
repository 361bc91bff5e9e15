pub mod Arriving
pub mod Askings
pub mod Doing
pub mod Passes
pub mod Stepping
pub mod Values
