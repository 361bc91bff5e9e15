use Rattle.std.proofs.Common.{◌≡◌, map, take}
use Rattle.cwl_image.specs.Image.{cwl_in}
use Rattle.cwl_tool.proofs.inputs.inputs_of.Given as goal

abbrev pub invariant-loop-input : goal.invariant-loop-input
invariant-loop-input l = l.all ≡ map cwl_in (take l.input-index l.inputs)
