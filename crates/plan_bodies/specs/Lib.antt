pub mod Bases
pub mod Joined
pub mod Plots
