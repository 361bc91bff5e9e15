use Rattle.std.proofs.Common.{◌≡◌, drop}
use Rattle.wdl_library.specs.Sections.{imports_in}
use Rattle.wdl_structs.specs.Tables.{names_of, with_names, imported_by}
use Rattle.wdl_structs.proofs.seen.add_imported.Given as goal

abbrev pub invariant-loop-section : goal.invariant-loop-section
invariant-loop-section l =
    with_names l.table (imported_by (names_of l.tables) (imports_in (drop l.section-index l.sections)) l.left)
    ≡ with_names l.initial.table (imported_by (names_of l.tables) (imports_in l.sections) l.links)
