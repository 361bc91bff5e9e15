pub mod Plain
mod Works
mod Commands
mod Agreeing
mod Outcomes
mod Completes
mod Counts
mod Forms
mod Simulated
mod Kept
pub mod Starting
pub mod Left
mod Ends
mod Opened
mod Loaded
