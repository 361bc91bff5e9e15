use Rattle.std.proofs.Common.{◌≡◌, map, take}
use Rattle.cwl_records.specs.Lowered.{record_leaf}
use Rattle.cwl_records.proofs.replacing.record_leaves.Given as goal

abbrev pub invariant-loop-leaf : goal.invariant-loop-leaf
invariant-loop-leaf l = l.all ≡ map record_leaf (take l.leaf-index l.leaves)
