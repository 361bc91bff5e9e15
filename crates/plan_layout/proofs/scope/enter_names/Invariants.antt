use Rattle.std.proofs.Common.{◌≡◌, ◌++◌, drop}
use Rattle.plan_layout.specs.Spots.{spots_from}
use Rattle.plan_layout.proofs.scope.enter_names.Given as goal

abbrev pub invariant-loop-key : goal.invariant-loop-key
invariant-loop-key l = l.spots ++ spots_from l.level l.slot (drop l.key-index l.keys) ≡ l.initial.spots ++ spots_from l.level l.first l.keys
