use Rattle.std.proofs.Common.{◌≡◌, ◌++◌, map, take}
use Rattle.cwl_image.specs.Image.{input_of}
use Rattle.cwl_flow.proofs.blocks.add_inputs.Given as goal

abbrev pub invariant-loop-linkage : goal.invariant-loop-linkage
invariant-loop-linkage l = l.inputs ≡ l.initial.inputs ++ map input_of (take l.linkage-index l.linkages)
