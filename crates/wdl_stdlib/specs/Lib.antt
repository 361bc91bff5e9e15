pub mod Gives
pub mod Glob
pub mod Groups
pub mod Laws
pub mod PathParts
pub mod Trims
