pub mod Cells
pub mod Laid
pub mod Laws
pub mod Paths
pub mod Sees
pub mod Spots
pub mod Steps
