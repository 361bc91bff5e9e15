mod FirstLemmas
pub mod FreshLemmas
mod KeyLemmas
pub mod KeySets
mod NameLemmas
mod PlaceLemmas
