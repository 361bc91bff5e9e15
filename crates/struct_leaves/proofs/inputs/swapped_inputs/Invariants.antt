use Rattle.std.proofs.Common.{◌≡◌, map, take}
use Rattle.wdl_swaps.specs.Swaps.{swapped_input}
use Rattle.struct_leaves.proofs.inputs.swapped_inputs.Given as goal

abbrev pub invariant-loop-input : goal.invariant-loop-input
invariant-loop-input l = l.all ≡ map (swapped_input l.swaps) (take l.input-index l.inputs)
