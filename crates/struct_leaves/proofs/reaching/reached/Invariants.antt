use Rattle.std.proofs.Common.{◌≡◌}
use Rattle.leaf_image.specs.Reached.{mark, no_marks, swept}
use Rattle.struct_leaves.proofs.reaching.reached.Given as goal

abbrev pub invariant-loop-level : goal.invariant-loop-level
invariant-loop-level l = l.marks ≡ swept l.flows l._level (mark l.main (no_marks l.flows))
