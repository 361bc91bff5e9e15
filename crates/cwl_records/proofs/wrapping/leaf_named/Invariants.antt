use Rattle.std.proofs.Common.{◌≡◌, drop}
use Rattle.cwl_records.specs.Wrapping.{leaf_named}
use Rattle.cwl_records.proofs.wrapping.leaf_named.Given as goal

abbrev pub invariant-loop-leaf : goal.invariant-loop-leaf
invariant-loop-leaf l = leaf_named (drop l.leaf-index l.records) l.id ≡ leaf_named l.records l.id
