use Rattle.std.proofs.Common.{◌≡◌, map, take}
use Rattle.serde_json.specs.View.{view}
use Rattle.cwl_records.specs.WideWriting.{wide_wire_json}
use Rattle.cwl_records.proofs.writing.wires_json.Given as goal

abbrev pub invariant-loop-wire : goal.invariant-loop-wire
invariant-loop-wire l = map view l.items.items ≡ map wide_wire_json (take l.wire-index l.wires)
