pub mod Parts
pub mod Expressions
pub mod Renamed
pub mod Calls
