use Rattle.std.proofs.Common.{◌≡◌, ◌++◌, option_map, drop}
use Rattle.serde_json.specs.View.{items_view, members_view}
use Rattle.json_values.specs.Reading.{all_read, rows_read, fields_read, item_readers, member_readers}
use Rattle.json_values.proofs.reading.+reading.Given as goal

abbrev pub invariant-item_values-loop-item : goal.invariant-item_values-loop-item
invariant-item_values-loop-item l =
    option_map (λ rest. l.values ++ rest) (all_read (item_readers l.structs (items_view (drop l.item-index l.items))) l.t) ≡ all_read (item_readers l.structs (items_view l.items)) l.t

abbrev pub invariant-row_values-loop-name : goal.invariant-row_values-loop-name
invariant-row_values-loop-name l =
    option_map (λ rest. l.rows ++ rest) (rows_read (member_readers l.structs (members_view l.name-iterator)) l.t l.u) ≡ rows_read (member_readers l.structs (members_view l.members.entries)) l.t l.u

abbrev pub invariant-field_values-loop-member : goal.invariant-field_values-loop-member
invariant-field_values-loop-member l =
    option_map (λ rest. l.fields ++ rest) (fields_read (member_readers l.structs (members_view l.members.entries)) (drop l.member-index l.declared)) ≡ fields_read (member_readers l.structs (members_view l.members.entries)) l.declared
