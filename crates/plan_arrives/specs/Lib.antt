pub mod Arrivals
pub mod Concluding
