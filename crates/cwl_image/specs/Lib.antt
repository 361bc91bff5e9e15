-- Definitions of the CWL process of a checked form, and of the subset of checked forms that have one.
pub mod Image
pub mod Expressions
pub mod Subset
pub mod Named
pub mod Kept
