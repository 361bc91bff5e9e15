use Rattle.std.proofs.Common.{◌≡◌, drop}
use Rattle.wdl_same.specs.Tasks.{same_inputs}
use Rattle.wdl_same.proofs.declared.same_inputs.Given as goal

abbrev pub invariant-loop-x : goal.invariant-loop-x
invariant-loop-x l = same_inputs (drop l.x-index l.xs) l.left ≡ same_inputs l.xs l.ys
