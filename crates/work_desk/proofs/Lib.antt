pub mod Due
pub mod Flows
pub mod Greed
pub mod Kept
pub mod Looks
pub mod Paying
pub mod Runs
