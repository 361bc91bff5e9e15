pub mod JsonViews
pub mod Numerals
pub mod Members
pub mod KeySets
pub mod OrderLemmas
pub mod ReadsFit
pub mod RoundTrip
