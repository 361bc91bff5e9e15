use Rattle.std.proofs.Common.{◌≡◌, ◌++◌, drop, map}
use Rattle.leaf_image.specs.Records.{leaf_arg, of_input}
use Rattle.struct_leaves.proofs.arguments.push_leaf_args.Given as goal

abbrev pub invariant-loop-leaf : goal.invariant-loop-leaf
invariant-loop-leaf l = l.args ++ map (leaf_arg l.swaps l.chain) (of_input l.name (drop l.leaf-index l.leaves)) ≡ l.initial.args ++ map (leaf_arg l.swaps l.chain) (of_input l.name l.leaves)
