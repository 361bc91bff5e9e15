use Rattle.std.proofs.Common.{◌≡◌, ◌++◌, drop, map}
use Rattle.wdl_check_task.specs.Sections.{outputs_of}
use Rattle.wdl_check_task.proofs.sections.outputs.Given as goal

abbrev pub invariant-loop-element : goal.invariant-loop-element
invariant-loop-element l =
    map (λ p. p.now) l.outputs.items ++ outputs_of (drop l.element-index l.section.elements) ≡ outputs_of l.section.elements
