pub mod Laws
pub mod Least
pub mod Names
pub mod Outcome
pub mod Positions
pub mod Rows
pub mod Working
