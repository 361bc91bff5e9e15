use Rattle.std.proofs.Common.{◌≡◌, List, Some, Err, map, ap, ◌∙◌, sym, subst, arith}
use Rattle.wdl_ast.specs.declared.section.Declaration.{Declaration}
use Rattle.wdl_ast.specs.declared.section.InputDeclaration.{InputDeclaration}
use Rattle.wdl_ast.specs.declared.workflow.Statement.{Statement}
use Rattle.wdl_check_types.specs.Outcome.{Answers}
use Rattle.wdl_check_decls.specs.Declarations.{inputs_typed}
use Rattle.wdl_check_decls.specs.Expressions.{world}
use Rattle.wdl_check_flow.specs.Flows.{head_typed, results_typed, shape_typed}
use Rattle.wdl_check_flow.specs.Sections.{inputs_of, outputs_of, statements_of}
use Rattle.wdl_check_flow.proofs.FlowLaws.{results_refused}
use Rattle.wdl_check_flow.proofs.flow.check_head.Goals as goal

pub returns-in_err-outputs : goal.returns-in_err-outputs
returns-in_err-outputs c =
    let w = world c.args.seeing.now in
    let f = c.args.workflow.now in
    let s = c.in_ok-sections.sections in
    let e = c.in_err-outputs.field-0.0 in
    let gone : c.from_residual-in_err-outputs.result ≡ Err e = grind arith in
    let inputs = c.in_ok-sections.ensures.inputs ∙ ap inputs_of c.as_slice.ensures in
    let statements = c.in_ok-sections.ensures.statements ∙ ap statements_of c.as_slice.ensures in
    let outputs = c.in_ok-sections.ensures.outputs ∙ ap outputs_of c.as_slice.ensures in
    subst (λ r. Answers (head_typed w f) r) (sym gone)
    (results_refused w f c.in_ok-check_shape.field-0 c.in_ok-inputs.inputs e
    (subst (λ (is : List InputDeclaration). (shape_typed is (statements_of f.elements) (outputs_of f.elements)).typed ≡ Some c.in_ok-check_shape.field-0) inputs
    (subst (λ (ss : List Statement). (shape_typed (map (λ i. i.now) s.inputs.items) ss (outputs_of f.elements)).typed ≡ Some c.in_ok-check_shape.field-0) statements
    (subst (λ (ds : List Declaration). (shape_typed (map (λ i. i.now) s.inputs.items) (map (λ s. s.now) s.statements.items) ds).typed ≡ Some c.in_ok-check_shape.field-0) outputs
    c.in_ok-check_shape.ensures)))
    (subst (λ (is : List InputDeclaration). (inputs_typed w is).typed ≡ Some c.in_ok-inputs.inputs) (ap (map (λ i. i.now)) c.as_slice-2.ensures.value ∙ inputs) c.in_ok-inputs.ensures)
    (subst (λ (ds : List Declaration). Answers (results_typed w ds) (Err e)) (ap (map (λ d. d.now)) c.as_slice-3.ensures.value ∙ outputs) c.in_err-outputs.ensures))
