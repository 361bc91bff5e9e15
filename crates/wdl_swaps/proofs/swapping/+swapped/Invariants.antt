use Rattle.std.proofs.Common.{◌≡◌, ◌++◌, drop, map}
use Rattle.wdl_swaps.specs.Swaps.{fields_with, parts_with, rows_with, swapped}
use Rattle.wdl_swaps.proofs.swapping.+swapped.Given as goal

abbrev pub invariant-items-loop-expr : goal.invariant-items-loop-expr
invariant-items-loop-expr l = l.done ++ map (swapped l.swaps) (drop l.expr-index l.exprs) ≡ map (swapped l.swaps) l.exprs

abbrev pub invariant-rows-loop-row : goal.invariant-rows-loop-row
invariant-rows-loop-row l = l.done ++ rows_with (swapped l.swaps) (drop l.row-index l.rows) ≡ rows_with (swapped l.swaps) l.rows

abbrev pub invariant-swapped_fields-loop-field : goal.invariant-swapped_fields-loop-field
invariant-swapped_fields-loop-field l = l.done ++ fields_with (swapped l.swaps) (drop l.field-index l.fields) ≡ fields_with (swapped l.swaps) l.fields

abbrev pub invariant-parts-loop-part : goal.invariant-parts-loop-part
invariant-parts-loop-part l = l.done ++ parts_with (swapped l.swaps) (drop l.part-index l.parts) ≡ parts_with (swapped l.swaps) l.parts
