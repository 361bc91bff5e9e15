pub mod Resolve
pub mod Keeping
