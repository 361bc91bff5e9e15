pub mod WalkOnce
pub mod WalkPaths
pub mod TokenLaws
pub mod LinkLaws
pub mod CircleLaws
pub mod ReadLaws
pub mod CollectLaws
