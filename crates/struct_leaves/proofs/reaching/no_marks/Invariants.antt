use Rattle.std.proofs.Common.{◌≡◌, take}
use Rattle.leaf_image.specs.Reached.{no_marks}
use Rattle.struct_leaves.proofs.reaching.no_marks.Given as goal

abbrev pub invariant-loop-flow : goal.invariant-loop-flow
invariant-loop-flow l = l.marks ≡ no_marks (take l._flow-index l.flows)
