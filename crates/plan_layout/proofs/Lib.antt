pub mod Around
mod Blocks
mod Called
mod Finding
mod Laying
mod Names
mod Parts
mod Workflows
pub mod Bound
pub mod Given
pub mod Needed
pub mod Typed
