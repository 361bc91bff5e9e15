pub mod Plain
pub mod Values
pub mod Names
pub mod Lines
pub mod Rows
