pub mod Reached
pub mod Room
pub mod Laws
