use Rattle.std.proofs.Common.{◌≡◌, ◌++◌, drop, Some, option_and_then}
use Rattle.wdl_plain.specs.Gathered.{values_at}
use Rattle.wdl_plain.proofs.gathering.values_of.Given as goal

abbrev pub invariant-loop-names : goal.invariant-loop-names
invariant-loop-names l = option_and_then (λ more. Some (l.values ++ more)) (values_at (drop l.names-index l.items) l.key) ≡ values_at l.items l.key
