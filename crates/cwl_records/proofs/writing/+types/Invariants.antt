use Rattle.std.proofs.Common.{◌≡◌, map, take}
use Rattle.serde_json.specs.View.{view}
use Rattle.cwl_records.specs.WideWriting.{field_json, with_json}
use Rattle.cwl_records.proofs.writing.+types.Given as goal

abbrev pub invariant-fields_json-loop-field : goal.invariant-fields_json-loop-field
invariant-fields_json-loop-field l = map view l.items.items ≡ map field_json (map with_json (take l.field-index l.fields))
