-- Counting by a filter.
use Rattle.std.proofs.lemmas.List.Sums.{length-filter}

pub ruleset counting = (length-filter)
