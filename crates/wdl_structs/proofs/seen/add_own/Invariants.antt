use Rattle.std.proofs.Common.{◌≡◌, drop, map}
use Rattle.wdl_library.specs.Sections.{structs_in}
use Rattle.wdl_structs.specs.Tables.{with_names}
use Rattle.wdl_structs.proofs.seen.add_own.Given as goal

abbrev pub invariant-loop-section : goal.invariant-loop-section
invariant-loop-section l = with_names l.table (map (λ s. s.name.name) (structs_in (drop l.section-index l.sections))) ≡ with_names l.initial.table (map (λ s. s.name.name) (structs_in l.sections))
