pub mod Begun
pub mod Blocks
pub mod Entering
pub mod Growth
pub mod Keeps
pub mod Laws
pub mod Meaning
pub mod News
