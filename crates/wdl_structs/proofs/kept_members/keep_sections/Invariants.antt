use Rattle.std.proofs.Common.{◌≡◌, true, drop, map}
use Rattle.wdl_library.specs.Names.{names_in}
use Rattle.wdl_library.specs.Sections.{structs_in}
use Rattle.wdl_library.specs.Structs.{stand_in}
use Rattle.wdl_structs.specs.Nodes.{all_among}
use Rattle.wdl_structs.specs.Kept.{Keeps, DiffersIn}
use Rattle.wdl_structs.proofs.KeptLaws.{IsKeeping}
use Rattle.wdl_structs.proofs.kept_members.keep_sections.Given as goal

abbrev pub invariant-loop-section : goal.invariant-loop-section
invariant-loop-section l =
    IsKeeping l.initial.kept l.kept (Keeps l.parents l.start (names_in l.names) (stand_in l.names) (structs_in l.sections))
    (Keeps l.parents l.start (names_in l.names) (stand_in l.names) (structs_in (drop l.section-index l.sections)))
    (DiffersIn l.parents l.start (names_in l.names) (stand_in l.names) (structs_in l.sections))
    (DiffersIn l.parents l.start (names_in l.names) (stand_in l.names) (structs_in (drop l.section-index l.sections)))
    × (all_among (names_in l.names) (map (λ s. s.name.name) (structs_in (drop l.section-index l.sections))) ≡ true)
