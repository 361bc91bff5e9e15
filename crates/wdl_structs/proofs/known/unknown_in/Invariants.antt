use Rattle.std.proofs.Common.{◌≡◌, drop}
use Rattle.wdl_base.specs.declared.span.Span.{Span}
use Rattle.wdl_library.specs.Sections.{imports_in}
use Rattle.wdl_structs.specs.Faults.{ImportUnknown}
use Rattle.wdl_structs.specs.Tables.{names_of, knows_by}
use Rattle.wdl_structs.proofs.known.unknown_in.Given as goal

abbrev pub invariant-loop-section : goal.invariant-loop-section
invariant-loop-section l =
    ((s : Span) → ImportUnknown (names_of l.tables) (imports_in (drop l.section-index l.sections)) l.left s → ImportUnknown (names_of l.tables) (imports_in l.sections) l.links s)
    × (knows_by (names_of l.tables) (imports_in (drop l.section-index l.sections)) l.left ≡ knows_by (names_of l.tables) (imports_in l.sections) l.links)
