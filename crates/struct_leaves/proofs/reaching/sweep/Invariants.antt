use Rattle.std.proofs.Common.{◌≡◌, drop}
use Rattle.leaf_image.specs.Reached.{sweep}
use Rattle.struct_leaves.proofs.reaching.sweep.Given as goal

abbrev pub invariant-loop-number : goal.invariant-loop-number
invariant-loop-number l = sweep (drop l.number l.flows) l.number l.marks ≡ sweep l.flows 0 l.initial.marks
