use Rattle.std.proofs.Common.{◌≡◌, ◌+◌, ◌<◌, ◌^◌, min, drop}
use Rattle.wdl_value.specs.Size.{size_list, size_row_list, size_field_list}
use Rattle.wdl_value.proofs.measure.+size.Given as goal

abbrev pub invariant-size_of_items-loop-item : goal.invariant-size_of_items-loop-item
invariant-size_of_items-loop-item l =
    (l.total < 2 ^ 64)
    × (min (l.total + size_list (drop l.item-index l.items)) 18446744073709551615 ≡ min (size_list l.items) 18446744073709551615)

abbrev pub invariant-size_of_rows-loop-row : goal.invariant-size_of_rows-loop-row
invariant-size_of_rows-loop-row l =
    (l.total < 2 ^ 64)
    × (min (l.total + size_row_list (drop l.row-index l.rows)) 18446744073709551615 ≡ min (size_row_list l.rows) 18446744073709551615)

abbrev pub invariant-size_of_fields-loop-field : goal.invariant-size_of_fields-loop-field
invariant-size_of_fields-loop-field l =
    (l.total < 2 ^ 64)
    × (min (l.total + size_field_list (drop l.field-index l.fields)) 18446744073709551615 ≡ min (size_field_list l.fields) 18446744073709551615)
