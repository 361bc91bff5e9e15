pub mod RowLemmas
pub mod PlaceLemmas
pub mod TableLemmas
