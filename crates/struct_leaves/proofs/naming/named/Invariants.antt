use Rattle.std.proofs.Common.{◌≡◌, drop}
use Rattle.leaf_image.specs.Leaves.{named}
use Rattle.struct_leaves.proofs.NamingLaws.{before}
use Rattle.struct_leaves.proofs.naming.named.Given as goal

abbrev pub invariant-loop-place : goal.invariant-loop-place
invariant-loop-place l = before l.leaves (named l.taken (drop l.place-index l.places)) ≡ named l.initial.taken l.places
