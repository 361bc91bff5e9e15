use Rattle.std.proofs.Common.{◌≡◌, drop}
use Rattle.wdl_value.specs.Limits.{list_is_short, rows_are_short, fields_are_short}
use Rattle.wdl_value.proofs.limits.+short.Given as goal

abbrev pub invariant-list_is_short-loop-item : goal.invariant-list_is_short-loop-item
invariant-list_is_short-loop-item l = list_is_short (drop l.item-index l.items) ≡ list_is_short l.items

abbrev pub invariant-rows_are_short-loop-row : goal.invariant-rows_are_short-loop-row
invariant-rows_are_short-loop-row l = rows_are_short (drop l.row-index l.rows) ≡ rows_are_short l.rows

abbrev pub invariant-fields_are_short-loop-field : goal.invariant-fields_are_short-loop-field
invariant-fields_are_short-loop-field l = fields_are_short (drop l.field-index l.fields) ≡ fields_are_short l.fields
