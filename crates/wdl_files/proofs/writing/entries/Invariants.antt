use Rattle.std.proofs.Common.{◌≡◌, ◌++◌, drop}
use Rattle.std.specs.List.{flat_map, list_all}
use Rattle.wdl_value.specs.Written.{entry_line, short_row}
use Rattle.wdl_files.proofs.writing.entries.Given as goal

abbrev pub invariant-loop-row : goal.invariant-loop-row
invariant-loop-row l =
    (list_all short_row (drop l.row-index l.rows) ≡ list_all short_row l.rows)
    × (l.text ++ flat_map entry_line (drop l.row-index l.rows) ≡ flat_map entry_line l.rows)
