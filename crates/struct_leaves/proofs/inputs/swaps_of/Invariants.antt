use Rattle.std.proofs.Common.{◌≡◌, take}
use Rattle.leaf_image.specs.Records.{swaps_of}
use Rattle.struct_leaves.proofs.inputs.swaps_of.Given as goal

abbrev pub invariant-loop-leaf : goal.invariant-loop-leaf
invariant-loop-leaf l = l.all ≡ swaps_of (take l.leaf-index l.leaves)
