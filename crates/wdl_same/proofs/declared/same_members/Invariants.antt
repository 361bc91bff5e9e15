use Rattle.std.proofs.Common.{◌≡◌, drop}
use Rattle.wdl_same.specs.Tasks.{same_members}
use Rattle.wdl_same.proofs.declared.same_members.Given as goal

abbrev pub invariant-loop-x : goal.invariant-loop-x
invariant-loop-x l = same_members (drop l.x-index l.xs) l.left ≡ same_members l.xs l.ys
