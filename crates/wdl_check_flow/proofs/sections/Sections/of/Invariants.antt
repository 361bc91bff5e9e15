use Rattle.std.proofs.Common.{◌≡◌, ◌++◌, drop, map}
use Rattle.wdl_check_flow.specs.Sections.{inputs_of, outputs_of, statements_of}
use Rattle.wdl_check_flow.proofs.sections.Sections.of.Given as goal

abbrev pub invariant-loop-element : goal.invariant-loop-element
invariant-loop-element l = record {
  inputs : map (λ i. i.now) l.sections.inputs.items ++ inputs_of (drop l.element-index l.elements) ≡ inputs_of l.elements;
  statements : map (λ s. s.now) l.sections.statements.items ++ statements_of (drop l.element-index l.elements) ≡ statements_of l.elements;
  outputs : map (λ d. d.now) l.sections.outputs.items ++ outputs_of (drop l.element-index l.elements) ≡ outputs_of l.elements;
}
