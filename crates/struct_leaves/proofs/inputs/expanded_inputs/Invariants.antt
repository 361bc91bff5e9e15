use Rattle.std.proofs.Common.{◌≡◌, ◌++◌, drop}
use Rattle.leaf_image.specs.Records.{all_inputs}
use Rattle.struct_leaves.proofs.inputs.expanded_inputs.Given as goal

abbrev pub invariant-loop-input : goal.invariant-loop-input
invariant-loop-input l = l.all ++ all_inputs l.leaves (drop l.input-index l.inputs) ≡ all_inputs l.leaves l.inputs
