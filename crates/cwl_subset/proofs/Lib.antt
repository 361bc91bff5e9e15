mod PartLemmas
mod ReachLemmas
mod RuleLemmas
mod TableLemmas
mod WalkLemmas
