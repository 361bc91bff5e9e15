mod DistinctLemmas
mod GivenLemmas
mod InputLemmas
mod ItemsLemmas
mod ListLemmas
mod NumberLemmas
