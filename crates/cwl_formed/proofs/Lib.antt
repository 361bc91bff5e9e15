mod Lists
mod Presets
mod Pieces
mod Ascending
mod Slashes
mod Processes
mod Sources
mod Tools
pub mod Whole
mod Values
mod Given
pub mod Orders
