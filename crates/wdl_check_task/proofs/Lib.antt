pub mod Counts
pub mod Distinct
pub mod Loops
pub mod Made
pub mod WellTyped
