pub mod Outcome
pub mod Places
pub mod Written
pub mod Laws
