use Rattle.std.proofs.Common.{◌≡◌, map, take}
use Rattle.cwl_image.specs.Image.{tool_out}
use Rattle.cwl_tool.proofs.outputs.outputs_of.Given as goal

abbrev pub invariant-loop-output : goal.invariant-loop-output
invariant-loop-output l = l.all ≡ map tool_out (take l.output-index l.outputs)
