use Rattle.std.proofs.Common.{◌≡◌, map, take}
use Rattle.serde_json.specs.View.{view}
use Rattle.cwl_emit.specs.Writing.{tool_out_json}
use Rattle.cwl_emit.proofs.tool.outputs_json.Given as goal

abbrev pub invariant-loop-output : goal.invariant-loop-output
invariant-loop-output l = map view l.items.items ≡ map tool_out_json (take l.output-index l.outputs)
