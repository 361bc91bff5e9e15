use Rattle.std.proofs.Common.{◌≡◌, ◌++◌, drop, map}
use Rattle.wdl_check_task.specs.Sections.{privates_of}
use Rattle.wdl_check_task.proofs.sections.privates.Given as goal

abbrev pub invariant-loop-element : goal.invariant-loop-element
invariant-loop-element l =
    map (λ p. p.now) l.privates.items ++ privates_of (drop l.element-index l.section.elements) ≡ privates_of l.section.elements
