use Rattle.std.proofs.Common.{◌≡◌, map, take}
use Rattle.cwl_image.specs.Image.{input_linkage}
use Rattle.cwl_flow.proofs.flow.input_scope.Given as goal

abbrev pub invariant-loop-input : goal.invariant-loop-input
invariant-loop-input l = l.scope ≡ map input_linkage (take l.input-index l.inputs)
