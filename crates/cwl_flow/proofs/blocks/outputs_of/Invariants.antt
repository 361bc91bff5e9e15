use Rattle.std.proofs.Common.{◌≡◌, map, take}
use Rattle.cwl_image.specs.Image.{block_out}
use Rattle.cwl_flow.proofs.blocks.outputs_of.Given as goal

abbrev pub invariant-loop-linkage : goal.invariant-loop-linkage
invariant-loop-linkage l = l.outputs ≡ map block_out (take l.linkage-index l.linkages)
