use Rattle.std.proofs.Common.{◌≡◌, map, take}
use Rattle.serde_json.specs.View.{view}
use Rattle.cwl_emit.specs.Writing.{wire_json}
use Rattle.cwl_emit.proofs.workflow.wires_json.Given as goal

abbrev pub invariant-loop-wire : goal.invariant-loop-wire
invariant-loop-wire l = map view l.items.items ≡ map wire_json (take l.wire-index l.wires)
