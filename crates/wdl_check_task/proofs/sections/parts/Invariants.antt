use Rattle.std.proofs.Common.{◌≡◌, ◌++◌, drop, map}
use Rattle.wdl_check_task.specs.Sections.{parts_of}
use Rattle.wdl_check_task.proofs.sections.parts.Given as goal

abbrev pub invariant-loop-element : goal.invariant-loop-element
invariant-loop-element l =
    map (λ p. p.now) l.parts.items ++ parts_of (drop l.element-index l.section.elements) ≡ parts_of l.section.elements
