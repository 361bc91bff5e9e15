use Rattle.std.proofs.Common.{◌≡◌, ◌++◌, [], drop, Ok}
use Rattle.wdl_library.specs.Sections.{imports_in}
use Rattle.wdl_links.specs.Wants.{and_then, wants_of}
use Rattle.wdl_links.proofs.want.wants_of.Given as goal

abbrev pub invariant-loop-section : goal.invariant-loop-section
invariant-loop-section l =
    and_then (wants_of l.base l.taken (imports_in (drop l.section-index l.sections))) (λ rest. Ok (l.wants ++ rest))
    ≡ wants_of l.base [] (imports_in l.sections)
