use Rattle.std.proofs.Common.{◌≡◌, map, take}
use Rattle.serde_json.specs.View.{view}
use Rattle.cwl_records.specs.WideWriting.{wide_in_json}
use Rattle.cwl_records.proofs.writing.inputs_json.Given as goal

abbrev pub invariant-loop-input : goal.invariant-loop-input
invariant-loop-input l = map view l.items.items ≡ map wide_in_json (take l.input-index l.inputs)
