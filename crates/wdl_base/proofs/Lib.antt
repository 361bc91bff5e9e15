pub mod Options
pub mod PlainLemmas
pub mod PlaceLemmas
