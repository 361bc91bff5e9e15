pub mod Types
pub mod Literals
pub mod Form
