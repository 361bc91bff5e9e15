use Rattle.std.proofs.Common.{◌≡◌, ◌++◌, drop}
use Rattle.std.specs.List.{flat_map, list_all}
use Rattle.wdl_value.specs.Parts.{items_in}
use Rattle.wdl_value.specs.Written.{cells_line, is_short_text}
use Rattle.wdl_files.proofs.writing.rows.Given as goal

abbrev pub invariant-loop-row : goal.invariant-loop-row
invariant-loop-row l =
    (list_all (λ row. list_all is_short_text (items_in row)) (drop l.row-index l.rows) ≡ list_all (λ row. list_all is_short_text (items_in row)) l.rows)
    × (l.text ++ flat_map cells_line (drop l.row-index l.rows) ≡ flat_map cells_line l.rows)
