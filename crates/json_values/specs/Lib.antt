pub mod Reading
pub mod Writing
pub mod Ordered
pub mod Formed
pub mod Laws
