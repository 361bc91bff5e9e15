use Rattle.std.proofs.Common.{◌≡◌, ◌++◌, drop, Some, option_and_then}
use Rattle.wdl_typing.specs.Types.{context_of, fields_fit, items_types, key_types, parts_fit, value_types}
use Rattle.wdl_typing.proofs.typing.+typing.Given as goal

abbrev pub invariant-types_of-loop-e : goal.invariant-types_of-loop-e
invariant-types_of-loop-e l =
    option_and_then (λ rest. Some (l.types ++ rest)) (items_types (context_of l.seen) (drop l.e-index l.es) l.placeholder)
    ≡ items_types (context_of l.seen) l.es l.placeholder

abbrev pub invariant-key_types-loop-row : goal.invariant-key_types-loop-row
invariant-key_types-loop-row l =
    option_and_then (λ rest. Some (l.types ++ rest)) (key_types (context_of l.seen) (drop l.row-index l.rows) l.placeholder)
    ≡ key_types (context_of l.seen) l.rows l.placeholder

abbrev pub invariant-value_types-loop-row : goal.invariant-value_types-loop-row
invariant-value_types-loop-row l =
    option_and_then (λ rest. Some (l.types ++ rest)) (value_types (context_of l.seen) (drop l.row-index l.rows) l.placeholder)
    ≡ value_types (context_of l.seen) l.rows l.placeholder

abbrev pub invariant-fields_fit-loop-field : goal.invariant-fields_fit-loop-field
invariant-fields_fit-loop-field l =
    fields_fit (context_of l.seen) (drop l.field-index l.fields) l.left l.placeholder
    ≡ fields_fit (context_of l.seen) l.fields l.members l.placeholder

abbrev pub invariant-parts_fit-loop-part : goal.invariant-parts_fit-loop-part
invariant-parts_fit-loop-part l = parts_fit (context_of l.seen) (drop l.part-index l.parts) ≡ parts_fit (context_of l.seen) l.parts
