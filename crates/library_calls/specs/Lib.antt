pub mod Fields
pub mod Parsing
pub mod Renewals
