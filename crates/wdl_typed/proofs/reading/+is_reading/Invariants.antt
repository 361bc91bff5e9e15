use Rattle.std.proofs.Common.{◌≡◌, drop}
use Rattle.wdl_typed.specs.Reading.{any_reading, fields_reading, parts_reading, rows_reading}
use Rattle.wdl_typed.proofs.reading.+is_reading.Given as goal

abbrev pub invariant-is_any_reading-loop-expr : goal.invariant-is_any_reading-loop-expr
invariant-is_any_reading-loop-expr l = any_reading (drop l.expr-index l.exprs) ≡ any_reading l.exprs

abbrev pub invariant-is_row_reading-loop-row : goal.invariant-is_row_reading-loop-row
invariant-is_row_reading-loop-row l = rows_reading (drop l.row-index l.rows) ≡ rows_reading l.rows

abbrev pub invariant-is_field_reading-loop-field : goal.invariant-is_field_reading-loop-field
invariant-is_field_reading-loop-field l = fields_reading (drop l.field-index l.fields) ≡ fields_reading l.fields

abbrev pub invariant-is_part_reading-loop-part : goal.invariant-is_part_reading-loop-part
invariant-is_part_reading-loop-part l = parts_reading (drop l.part-index l.parts) ≡ parts_reading l.parts
