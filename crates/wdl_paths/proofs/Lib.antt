pub mod Slashes
pub mod SegmentLemmas
