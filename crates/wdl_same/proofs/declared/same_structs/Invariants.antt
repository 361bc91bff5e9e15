use Rattle.std.proofs.Common.{◌≡◌, drop}
use Rattle.wdl_same.specs.Tasks.{same_structs}
use Rattle.wdl_same.proofs.declared.same_structs.Given as goal

abbrev pub invariant-loop-x : goal.invariant-loop-x
invariant-loop-x l = same_structs (drop l.x-index l.xs) l.left ≡ same_structs l.xs l.ys
