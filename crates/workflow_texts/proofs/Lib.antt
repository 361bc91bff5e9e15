mod Bundles
mod Formed
pub mod Excluded
