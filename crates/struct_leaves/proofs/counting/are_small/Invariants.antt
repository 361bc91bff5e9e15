use Rattle.std.proofs.Common.{◌≡◌, drop}
use Rattle.std.specs.List.{list_all}
use Rattle.leaf_image.specs.Leaves.{is_small}
use Rattle.struct_leaves.proofs.counting.are_small.Given as goal

abbrev pub invariant-loop-input : goal.invariant-loop-input
invariant-loop-input l = list_all (is_small l.structs) (drop l.input-index l.inputs) ≡ list_all (is_small l.structs) l.inputs
