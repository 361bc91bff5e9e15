pub mod WantLemmas
pub mod CircleLemmas
