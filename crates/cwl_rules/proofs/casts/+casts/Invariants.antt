use Rattle.std.proofs.Common.{◌≡◌, drop}
use Rattle.wdl_typing.specs.Types.{context_of}
use Rattle.cwl_rules.specs.Casts.{fields_widen, items_widen, parts_widen, rows_widen}
use Rattle.cwl_rules.proofs.casts.+casts.Given as goal

abbrev pub invariant-items_widen-loop-e : goal.invariant-items_widen-loop-e
invariant-items_widen-loop-e l =
    items_widen (context_of l.seen) (drop l.e-index l.es) l.placeholder ≡ items_widen (context_of l.seen) l.es l.placeholder

abbrev pub invariant-rows_widen-loop-row : goal.invariant-rows_widen-loop-row
invariant-rows_widen-loop-row l =
    rows_widen (context_of l.seen) (drop l.row-index l.rows) l.placeholder ≡ rows_widen (context_of l.seen) l.rows l.placeholder

abbrev pub invariant-fields_widen-loop-field : goal.invariant-fields_widen-loop-field
invariant-fields_widen-loop-field l =
    fields_widen (context_of l.seen) (drop l.field-index l.fields) l.placeholder
    ≡ fields_widen (context_of l.seen) l.fields l.placeholder

abbrev pub invariant-parts_widen-loop-part : goal.invariant-parts_widen-loop-part
invariant-parts_widen-loop-part l = parts_widen (context_of l.seen) (drop l.part-index l.parts) ≡ parts_widen (context_of l.seen) l.parts
