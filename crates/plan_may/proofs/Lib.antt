pub mod Callers
pub mod Apart
pub mod Jobs
pub mod Places
pub mod Statements
pub mod Steps
