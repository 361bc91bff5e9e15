use Rattle.std.proofs.Common.{◌≡◌, map, take}
use Rattle.wdl_swaps.specs.Swaps.{swapped_decl}
use Rattle.struct_leaves.proofs.expanding.swapped_outputs.Given as goal

abbrev pub invariant-loop-output : goal.invariant-loop-output
invariant-loop-output l = l.all ≡ map (swapped_decl l.swaps) (take l.output-index l.outputs)
