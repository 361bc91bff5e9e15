use Rattle.std.proofs.Common.{◌≡◌, true, drop}
use Rattle.wdl_library.specs.Sections.{imports_in}
use Rattle.wdl_structs.specs.Tables.{names_of, imported_by}
use Rattle.wdl_structs.specs.Nodes.{label_by, along_by, all_among}
use Rattle.wdl_structs.proofs.NodeLaws.{IsJoining}
use Rattle.wdl_structs.proofs.identity.join_imports.Given as goal

abbrev pub invariant-loop-section : goal.invariant-loop-section
invariant-loop-section l =
    IsJoining l.initial.parents l.parents (λ g. along_by (label_by l.tables g) (names_of l.tables) l.number (imports_in l.sections) l.links)
    (λ g. along_by (label_by l.tables g) (names_of l.tables) l.number (imports_in (drop l.section-index l.sections)) l.left)
    × (all_among (names_of l.tables l.number) (imported_by (names_of l.tables) (imports_in (drop l.section-index l.sections)) l.left) ≡ true)
