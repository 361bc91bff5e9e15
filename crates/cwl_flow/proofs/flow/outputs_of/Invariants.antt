use Rattle.std.proofs.Common.{◌≡◌, map, take}
use Rattle.cwl_image.specs.Image.{flow_out}
use Rattle.cwl_flow.proofs.flow.outputs_of.Given as goal

abbrev pub invariant-loop-output : goal.invariant-loop-output
invariant-loop-output l = l.all ≡ map (flow_out l.scope) (take l.output-index l.outputs)
