use Rattle.std.proofs.Common.{◌≡◌, map, take, drop}
use Rattle.serde_json.specs.Data.{no_members}
use Rattle.serde_json.specs.View.{view, members_view}
use Rattle.cwl_emit.specs.Objects.{value_object, with_fields}
use Rattle.cwl_emit.proofs.object.+values.Given as goal

abbrev pub invariant-list_json-loop-value : goal.invariant-list_json-loop-value
invariant-list_json-loop-value l = map view l.items.items ≡ map value_object (take l.value-index l.values)

abbrev pub invariant-fields_json-loop-field : goal.invariant-fields_json-loop-field
invariant-fields_json-loop-field l = with_fields (drop l.field-index l.fields) (members_view l.members.entries) ≡ with_fields l.fields no_members
