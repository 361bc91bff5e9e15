use Rattle.std.proofs.Common.{◌≡◌, ◌++◌, drop}
use Rattle.std.specs.List.{flat_map, list_all}
use Rattle.wdl_value.specs.Written.{is_short_text, text_line}
use Rattle.wdl_files.proofs.writing.lines.Given as goal

abbrev pub invariant-loop-item : goal.invariant-loop-item
invariant-loop-item l =
    (list_all is_short_text (drop l.item-index l.items) ≡ list_all is_short_text l.items)
    × (l.text ++ flat_map text_line (drop l.item-index l.items) ≡ flat_map text_line l.items)
