pub mod FieldLoops
pub mod Places
pub mod Readings
pub mod Renewals
