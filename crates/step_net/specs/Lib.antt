pub mod Nets
pub mod Views
