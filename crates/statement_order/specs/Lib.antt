pub mod Members
pub mod Outcome
