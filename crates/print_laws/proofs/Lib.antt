pub mod Stack
pub mod Places
pub mod Longest
pub mod Copied
pub mod Written
