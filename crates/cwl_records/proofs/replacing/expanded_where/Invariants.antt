use Rattle.std.proofs.Common.{◌≡◌, ◌++◌, drop}
use Rattle.leaf_image.specs.Replaced.{expanded_where}
use Rattle.cwl_records.proofs.replacing.expanded_where.Given as goal

abbrev pub invariant-loop-flow : goal.invariant-loop-flow
invariant-loop-flow l = l.all ++ expanded_where l.flows l.leaves (drop l.flow-index l.flows) l.marks_left l.leaves_left ≡ expanded_where l.flows l.leaves l.flows l.marks l.leaves
