pub mod Asks
mod Concluding
pub mod Lists
mod OutputRuns
mod Setting
mod Standing
