pub mod Reading
pub mod Writing
pub mod Formed
pub mod Laws
pub mod Objects
