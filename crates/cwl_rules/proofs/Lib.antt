mod CastsOut
mod CommandLemmas
pub mod ListLemmas
pub mod LowestLemmas
mod WidensOut
