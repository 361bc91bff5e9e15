use Rattle.std.proofs.Common.{◌≡◌, ◌++◌, drop}
use Rattle.given_types.proofs.given.enter_names.Given as goal

abbrev pub invariant-loop-bound : goal.invariant-loop-bound
invariant-loop-bound l = l.names ++ drop l.bound-index l.bounds ≡ l.initial.names ++ l.bounds
