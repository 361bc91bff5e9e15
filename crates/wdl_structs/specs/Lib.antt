pub mod Faults
pub mod Tables
pub mod Classes
pub mod Nodes
pub mod Members
pub mod Kept
pub mod Ready
