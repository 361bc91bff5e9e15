pub mod Exact
pub mod Parts
pub mod Values
pub mod Tools
pub mod Flows
pub mod Formed
