pub mod Turns
pub mod Steps
pub mod Says
pub mod Tables
pub mod Strings
