pub mod ListLaws
pub mod Placed
pub mod WellTyped
pub mod WriteLaws
