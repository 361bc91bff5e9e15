pub mod Binds
pub mod Found
pub mod Laws
pub mod Marks
pub mod Meets
pub mod Nodes
pub mod PartMaps
pub mod Ready
