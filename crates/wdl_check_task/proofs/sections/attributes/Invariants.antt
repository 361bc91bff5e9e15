use Rattle.std.proofs.Common.{◌≡◌, ◌++◌, drop, map}
use Rattle.wdl_check_task.specs.Sections.{attributes_of}
use Rattle.wdl_check_task.proofs.sections.attributes.Given as goal

abbrev pub invariant-loop-element : goal.invariant-loop-element
invariant-loop-element l =
    map (λ p. p.now) l.attributes.items ++ attributes_of (drop l.element-index l.section.elements) ≡ attributes_of l.section.elements
