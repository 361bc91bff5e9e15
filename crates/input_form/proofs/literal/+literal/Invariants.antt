use Rattle.std.proofs.Common.{◌≡◌, map, take}
use Rattle.input_form.specs.Literals.{field_of, fields_by, literal, row_of, rows_by}
use Rattle.input_form.proofs.literal.+literal.Given as goal

abbrev pub invariant-literals_of-loop-expr : goal.invariant-literals_of-loop-expr
invariant-literals_of-loop-expr l = l.values ≡ map literal (take l.expr-index l.exprs)

abbrev pub invariant-rows_of-loop-row : goal.invariant-rows_of-loop-row
invariant-rows_of-loop-row l = l.values ≡ map row_of (rows_by literal (take l.row-index l.rows))

abbrev pub invariant-fields_of-loop-field : goal.invariant-fields_of-loop-field
invariant-fields_of-loop-field l = l.values ≡ map field_of (fields_by literal (take l.field-index l.fields))
