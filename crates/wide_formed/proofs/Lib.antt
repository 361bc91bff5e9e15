pub mod Elements
mod Fields
mod Paths
pub mod Naming
pub mod Mains
mod Swapping
pub mod Givens
mod Wides
mod Backs
pub mod Meant
pub mod Standing
pub mod Plain
pub mod Objects
