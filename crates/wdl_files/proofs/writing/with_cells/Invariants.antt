use Rattle.std.proofs.Common.{◌≡◌, ◌++◌, ◌∷◌, [], drop}
use Rattle.std.specs.List.{flat_map, join_by, list_all}
use Rattle.wdl_value.specs.ValueText.{text_of}
use Rattle.wdl_value.specs.Written.{is_short_text}
use Rattle.wdl_files.proofs.writing.with_cells.Given as goal

abbrev pub invariant-loop-cell : goal.invariant-loop-cell
invariant-loop-cell l =
    (list_all is_short_text (drop l.cell-index l.rest) ≡ list_all is_short_text l.cells)
    × (l.text ++ flat_map (λ y. (9 ∷ []) ++ text_of y) (drop l.cell-index l.rest) ≡ l.fn.text ++ join_by text_of (9 ∷ []) l.cells)
