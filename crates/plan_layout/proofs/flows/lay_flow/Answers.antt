use Rattle.std.proofs.Common.{◌≡◌, List, [], ap, ◌∙◌, subst}
use Rattle.wdl_typed.specs.declared.flow.Statement.{Statement}
use Rattle.wdl_typed.specs.declared.task.TInput.{TInput}
use Rattle.plan_layout.specs.declared.scope.CellScope.{CellScope}
use Rattle.plan_layout.specs.Laid.{input_needs, output_needs, with_inputs}
use Rattle.plan_layout.specs.Steps.{LaysBody, scope_behind}
use Rattle.plan_layout.proofs.Parts.{path_same}
use Rattle.plan_layout.proofs.Workflows.{behind_inputs, flow_laid, inputs_scope}
use Rattle.plan_layout.proofs.flows.lay_flow.Goals as goal

pub lay_outputs-requires : goal.lay_outputs-requires
lay_outputs-requires c =
    ap (λ (s : CellScope). s.path) c.in_ok-body.ensures.behind ∙ path_same c.args.origin.now c.as_slice-body.result.now c.lay_inputs.new.scope c.len-before.result c.len-after.result
    ∙ ap (λ (s : CellScope). s.path) c.in_ok-inputs.ensures.seen

pub returns : goal.returns
returns c =
    let o = c.args.origin.now in
    let f = c.args.def.now in
    let s = c.lay_inputs.new.scope in
    let start : s ≡ inputs_scope f =
    c.in_ok-inputs.ensures.seen ∙ ap (λ (x : CellScope). behind_inputs x c.as_slice.result.now) c.empty-scope.ensures ∙ ap (λ (is : List TInput). record { names = with_inputs [] is; calls = []; path = [] }) c.as_slice.ensures in
    let inputs =
    c.in_ok-inputs.ensures.needs ∙ ap (λ (x : CellScope). input_needs x.names c.as_slice.result.now) c.empty-scope.ensures ∙ ap (input_needs []) c.as_slice.ensures in
    let body =
    subst (λ (ss : List Statement). LaysBody o ss s.names s.calls s.path c.len-before.result c.len-after.result c.args.bodies.now c.lay_body.new.bodies c.in_ok-body.body) c.as_slice-body.ensures c.in_ok-body.ensures.laid in
    let behind =
    c.in_ok-body.ensures.behind ∙ ap (λ (ss : List Statement). scope_behind o ss s c.len-before.result c.len-after.result) c.as_slice-body.ensures in
    let outputs = c.in_ok-outputs.ensures ∙ ap (output_needs c.lay_body.new.scope.names) c.as_slice-2.ensures in
    flow_laid o f s c.lay_body.new.scope c.len-before.result c.len-after.result start c.len-before.ensures c.len-after.ensures c.args.bodies.now c.lay_body.new.bodies c.in_ok-body.body c.len-first_output.result
    c.in_ok-inputs.inputs c.in_ok-outputs.outputs c.requires inputs body behind c.len-first_output.ensures outputs
