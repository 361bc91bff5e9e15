use Rattle.std.proofs.Common.{◌≡◌, drop}
use Rattle.wdl_same.specs.Forms.{same_body}
use Rattle.wdl_same.proofs.bodies.+bodies.Given as goal

abbrev pub invariant-same_body-loop-x : goal.invariant-same_body-loop-x
invariant-same_body-loop-x l = same_body l.partners l.owners (drop l.x-index l.xs) l.left ≡ same_body l.partners l.owners l.xs l.ys
