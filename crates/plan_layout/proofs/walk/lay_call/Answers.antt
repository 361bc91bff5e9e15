use Rattle.std.proofs.Common.{List, ap, ◌∙◌}
use Rattle.std.proofs.lemmas.Result.{IfOk-weaker}
use Rattle.wdl_typed.specs.declared.expr.TExpr.{TExpr}
use Rattle.wdl_typed.specs.declared.expr.TField.{TField}
use Rattle.wdl_flow.specs.Views.{given_of}
use Rattle.net_laws.specs.Rules.{arg_keys}
use Rattle.plan_layout.specs.declared.layout.StatementLayout.{StatementLayout}
use Rattle.plan_layout.specs.Spots.{needs_of, plain_keys}
use Rattle.plan_layout.specs.Steps.{Settles}
use Rattle.plan_layout.proofs.Parts.{lays_call}
use Rattle.plan_layout.proofs.walk.lay_call.Goals as goal

pub returns : goal.returns
returns c =
    let settled = λ (l : StatementLayout). Settles c.in_ok-needs.needs c.in_ok-after.after 0 c.args.next.now.call 0 (given_of c.in_ok-given.given) c.args.scope.now c.args.next.now c.settle.new.scope c.settle.new.next l in
    let needs = c.in_ok-needs.ensures ∙ ap (λ (xs : List (TField TExpr)). needs_of c.args.scope.now.names (arg_keys xs)) c.as_slice.ensures in
    let behind = c.in_ok-after.ensures ∙ ap (λ xs. needs_of c.args.scope.now.calls (plain_keys xs)) c.as_slice-2.ensures in
    IfOk-weaker c.settle.result settled _ (λ l p.
    lays_call c.args.origin.now c.args.index c.args.scope.now c.settle.new.scope c.args.next.now c.settle.new.next l c.in_ok-needs.needs c.in_ok-after.after (given_of c.in_ok-given.given) c.args.call.now c.args.bodies.now p
    c.in_ok-given.ensures needs behind)
    c.settle.ensures
