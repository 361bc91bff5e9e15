use Rattle.std.proofs.Common.{◌≡◌, map, take}
use Rattle.serde_json.specs.View.{view}
use Rattle.cwl_emit.specs.Writing.{input_json}
use Rattle.cwl_emit.proofs.inputs.inputs_json.Given as goal

abbrev pub invariant-loop-input : goal.invariant-loop-input
invariant-loop-input l = map view l.items.items ≡ map input_json (take l.input-index l.inputs)
