use Rattle.std.proofs.Common.{◌≡◌, drop, map}
use Rattle.input_form.specs.Literals.{all_true, fields_by, fields_true, is_literal, rows_by, rows_true}
use Rattle.input_form.proofs.literal.+is_literal.Given as goal

abbrev pub invariant-are_literals-loop-expr : goal.invariant-are_literals-loop-expr
invariant-are_literals-loop-expr l = all_true (map is_literal (drop l.expr-index l.exprs)) ≡ all_true (map is_literal l.exprs)

abbrev pub invariant-are_literal_rows-loop-row : goal.invariant-are_literal_rows-loop-row
invariant-are_literal_rows-loop-row l = rows_true (rows_by is_literal (drop l.row-index l.rows)) ≡ rows_true (rows_by is_literal l.rows)

abbrev pub invariant-are_literal_fields-loop-field : goal.invariant-are_literal_fields-loop-field
invariant-are_literal_fields-loop-field l = fields_true (fields_by is_literal (drop l.field-index l.fields)) ≡ fields_true (fields_by is_literal l.fields)
