use Rattle.std.proofs.Common.{◌≡◌, map, take, drop}
use Rattle.serde_json.specs.Data.{no_members}
use Rattle.serde_json.specs.View.{view, members_view}
use Rattle.json_values.specs.Writing.{Written, written, with_rows, with_fields}
use Rattle.json_values.proofs.writing.+writing.Given as goal

abbrev pub invariant-json_list-loop-value : goal.invariant-json_list-loop-value
invariant-json_list-loop-value l = map view l.items.items ≡ map (λ (w : Written). w.json) (map written (take l.value-index l.values))

abbrev pub invariant-json_rows-loop-row : goal.invariant-json_rows-loop-row
invariant-json_rows-loop-row l = with_rows (drop l.row-index l.rows) (members_view l.members.entries) ≡ with_rows l.rows no_members

abbrev pub invariant-json_fields-loop-field : goal.invariant-json_fields-loop-field
invariant-json_fields-loop-field l = with_fields (drop l.field-index l.fields) (members_view l.members.entries) ≡ with_fields l.fields no_members
