pub mod Wants
pub mod Circles
