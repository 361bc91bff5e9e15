use Rattle.std.proofs.Common.{◌≡◌, drop}
use Rattle.wdl_same.specs.Forms.{same_names}
use Rattle.wdl_same.proofs.bodies.same_names.Given as goal

abbrev pub invariant-loop-x : goal.invariant-loop-x
invariant-loop-x l = same_names (drop l.x-index l.xs) l.left ≡ same_names l.xs l.ys
