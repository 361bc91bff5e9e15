pub mod Sooner
pub mod Inputs
pub mod Outputs
pub mod Laws
