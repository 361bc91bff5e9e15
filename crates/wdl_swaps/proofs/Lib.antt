pub mod Chained
pub mod Moved
pub mod Names
pub mod StrayBodies
pub mod SwapLaws
pub mod Values
