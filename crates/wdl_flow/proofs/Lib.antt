pub mod GivenNames
pub mod MarkLemmas
pub mod Skip
