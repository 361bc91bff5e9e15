use Rattle.std.proofs.Common.{◌≡◌, ◌++◌, drop, map}
use Rattle.wdl_ast.specs.declared.section.Declaration.{Declaration}
use Rattle.wdl_ast.specs.declared.section.InputDeclaration.{InputDeclaration}
use Rattle.wdl_check_flow.specs.Sections.{all_declared}
use Rattle.wdl_check_flow.proofs.declared.idents_of.Given as goal

abbrev pub invariant-loop-input : goal.invariant-loop-input
invariant-loop-input l =
    map (λ n. n.now) l.idents.items ++ map (λ (i : InputDeclaration). i.name) (map (λ i. i.now) (drop l.input-index l.sections.inputs.items))
    ≡ map (λ (i : InputDeclaration). i.name) (map (λ i. i.now) l.sections.inputs.items)

abbrev pub invariant-loop-statement : goal.invariant-loop-statement
invariant-loop-statement l =
    map (λ n. n.now) l.idents.items ++ all_declared (map (λ s. s.now) (drop l.statement-index l.sections.statements.items))
    ≡ map (λ n. n.now) l.initial.idents.items ++ all_declared (map (λ s. s.now) l.sections.statements.items)

abbrev pub invariant-loop-output : goal.invariant-loop-output
invariant-loop-output l =
    map (λ n. n.now) l.idents.items ++ map (λ (d : Declaration). d.name) (map (λ d. d.now) (drop l.output-index l.sections.outputs.items))
    ≡ map (λ n. n.now) l.initial.idents.items ++ map (λ (d : Declaration). d.name) (map (λ d. d.now) l.sections.outputs.items)
