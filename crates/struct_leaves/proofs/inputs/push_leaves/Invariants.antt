use Rattle.std.proofs.Common.{◌≡◌, ◌++◌, drop, map}
use Rattle.leaf_image.specs.Records.{leaf_input, of_input}
use Rattle.struct_leaves.proofs.inputs.push_leaves.Given as goal

abbrev pub invariant-loop-leaf : goal.invariant-loop-leaf
invariant-loop-leaf l = l.inputs ++ map (leaf_input l.span) (of_input l.name (drop l.leaf-index l.leaves)) ≡ l.initial.inputs ++ map (leaf_input l.span) (of_input l.name l.leaves)
