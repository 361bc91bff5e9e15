use Rattle.std.proofs.Common.{◌≡◌, ◌++◌, drop, map}
use Rattle.wdl_check_task.specs.Sections.{inputs_of}
use Rattle.wdl_check_task.proofs.sections.inputs.Given as goal

abbrev pub invariant-loop-element : goal.invariant-loop-element
invariant-loop-element l =
    map (λ p. p.now) l.inputs.items ++ inputs_of (drop l.element-index l.section.elements) ≡ inputs_of l.section.elements
