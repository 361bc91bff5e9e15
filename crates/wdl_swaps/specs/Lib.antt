pub mod Agreement
pub mod Chains
pub mod Strays
pub mod Swaps
