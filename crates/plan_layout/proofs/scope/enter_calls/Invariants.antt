use Rattle.std.proofs.Common.{◌≡◌, ◌++◌, drop}
use Rattle.plan_layout.specs.Spots.{plain_keys, spots_from}
use Rattle.plan_layout.proofs.scope.enter_calls.Given as goal

abbrev pub invariant-loop-call : goal.invariant-loop-call
invariant-loop-call l = l.spots ++ spots_from l.level l.slot (plain_keys (drop l.call-index l.calls)) ≡ l.initial.spots ++ spots_from l.level l.first (plain_keys l.calls)
