use Rattle.std.proofs.Common.{◌≡◌, List, ◌++◌, Some, Err, map, ap, ◌∙◌, sym, subst, arith}
use Rattle.wdl_ast.specs.declared.section.Declaration.{Declaration}
use Rattle.wdl_ast.specs.declared.workflow.Statement.{Statement}
use Rattle.wdl_typed.specs.declared.scope.Bound.{Bound}
use Rattle.wdl_typed.specs.Bodies.{Seen}
use Rattle.wdl_typed.specs.Declarations.{inputs_bound}
use Rattle.wdl_check_types.specs.Outcome.{Answers}
use Rattle.wdl_check_decls.specs.declared.standing.Standing.TheVariants.{Body}
use Rattle.wdl_check_decls.specs.Declarations.{decls_typed}
use Rattle.wdl_check_decls.specs.Expressions.{World, with_calls, world}
use Rattle.wdl_check_flow.specs.Bodies.{Typed_body, statements_typed}
use Rattle.wdl_check_flow.specs.Flows.{rest_typed}
use Rattle.wdl_check_flow.specs.Given.{seen_of}
use Rattle.wdl_check_flow.specs.Sections.{outputs_of, statements_of}
use Rattle.wdl_check_flow.specs.Targets.{place_of, world_at}
use Rattle.wdl_check_flow.proofs.FlowLaws.{flow_done, outputs_refused}
use Rattle.wdl_check_flow.proofs.flow.check_rest.Goals as goal

pub returns-in_err-outputs : goal.returns-in_err-outputs
returns-in_err-outputs c =
    let p = place_of c.args.context.now in
    let f = c.args.workflow.now in
    let is = c.args.inputs.now in
    let e = c.in_err-outputs.field-0.0 in
    let b : Typed_body = record { statements = c.in_ok-body.body; given = c.in_ok-body.ensures.0 } in
    let gone : c.from_residual-in_err-outputs.result ≡ Err e = grind arith in
    let statements = ap (map (λ s. s.now)) c.as_slice-2.ensures.value ∙ (c.in_ok-sections.ensures.statements ∙ ap statements_of c.as_slice.ensures) in
    let outputs = ap (map (λ d. d.now)) c.as_slice-3.ensures.value ∙ (c.in_ok-sections.ensures.outputs ∙ ap outputs_of c.as_slice.ensures) in
    let names = ap (λ (s : Seen). s.names) c.in_ok-body.ensures.2 ∙ ap (λ (s : Seen). s.names ++ b.given.names) c.in_ok-visible.ensures in
    let calls : c.check_body.new.visible.calls ≡ b.given.calls =
    ap (λ (s : Seen). s.calls) c.in_ok-body.ensures.2 ∙ ap (λ (s : Seen). s.calls ++ b.given.calls) c.in_ok-visible.ensures in
    let worlds : world c.with_calls-seeing.result ≡ world_at p b.given = ap world c.with_calls-seeing.ensures ∙ ap (with_calls p.world) calls in
    subst (λ r. Answers (rest_typed p is f) r) (sym gone)
    (outputs_refused p is f b
    (subst (λ (seen : Seen). (statements_typed p (statements_of f.elements) seen).typed ≡ Some b) c.in_ok-visible.ensures
    (subst (λ (ss : List Statement). (statements_typed p ss (seen_of c.in_ok-visible.visible)).typed ≡ Some b) statements c.in_ok-body.ensures.1))
    e
    (subst (λ (w : World). Answers (decls_typed Body w (inputs_bound is ++ b.given.names) (outputs_of f.elements)) (Err e)) worlds
    (subst (λ (ns : List Bound). Answers (decls_typed Body (world c.with_calls-seeing.result) ns (outputs_of f.elements)) (Err e)) names
    (subst (λ (ds : List Declaration). Answers (decls_typed Body (world c.with_calls-seeing.result) c.check_body.new.visible.names ds) (Err e)) outputs c.in_err-outputs.ensures.value))))

pub returns : goal.returns
returns c =
    let p = place_of c.args.context.now in
    let f = c.args.workflow.now in
    let is = c.args.inputs.now in
    let b : Typed_body = record { statements = c.in_ok-body.body; given = c.in_ok-body.ensures.0 } in
    let statements = ap (map (λ s. s.now)) c.as_slice-2.ensures.value ∙ (c.in_ok-sections.ensures.statements ∙ ap statements_of c.as_slice.ensures) in
    let outputs = ap (map (λ d. d.now)) c.as_slice-3.ensures.value ∙ (c.in_ok-sections.ensures.outputs ∙ ap outputs_of c.as_slice.ensures) in
    let names = ap (λ (s : Seen). s.names) c.in_ok-body.ensures.2 ∙ ap (λ (s : Seen). s.names ++ b.given.names) c.in_ok-visible.ensures in
    let calls : c.check_body.new.visible.calls ≡ b.given.calls =
    ap (λ (s : Seen). s.calls) c.in_ok-body.ensures.2 ∙ ap (λ (s : Seen). s.calls ++ b.given.calls) c.in_ok-visible.ensures in
    let worlds : world c.with_calls-seeing.result ≡ world_at p b.given = ap world c.with_calls-seeing.ensures ∙ ap (with_calls p.world) calls in
    flow_done p is f b
    (subst (λ (seen : Seen). (statements_typed p (statements_of f.elements) seen).typed ≡ Some b) c.in_ok-visible.ensures
    (subst (λ (ss : List Statement). (statements_typed p ss (seen_of c.in_ok-visible.visible)).typed ≡ Some b) statements c.in_ok-body.ensures.1))
    c.in_ok-outputs.outputs
    (subst (λ (w : World). (decls_typed Body w (inputs_bound is ++ b.given.names) (outputs_of f.elements)).typed ≡ Some c.in_ok-outputs.outputs) worlds
    (subst (λ (ns : List Bound). (decls_typed Body (world c.with_calls-seeing.result) ns (outputs_of f.elements)).typed ≡ Some c.in_ok-outputs.outputs) names
    (subst (λ (ds : List Declaration). (decls_typed Body (world c.with_calls-seeing.result) c.check_body.new.visible.names ds).typed ≡ Some c.in_ok-outputs.outputs) outputs c.in_ok-outputs.ensures.value)))
