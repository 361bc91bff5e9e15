use Rattle.std.proofs.Common.{rules, ◌≡◌, ◌+◌, ◌<◌, ◌≤◌, List, [], ◌∷◌, ◌++◌, append-nil, length, sym, ap, ◌∙◌, subst}
use Rattle.std.proofs.lemmas.Result.{IfOk-weaker}
use Rattle.wdl_typed.specs.declared.flow.Statement.{Statement}
use Rattle.wdl_typed.specs.Declarations.{plain_key}
use Rattle.wdl_typed.specs.Scope.{names_of}
use Rattle.net_laws.specs.Growing.{body_given}
use Rattle.plan_layout.specs.declared.layout.BodyLayout.{BodyLayout}
use Rattle.plan_layout.specs.declared.layout.StatementLayout.{StatementLayout}
use Rattle.plan_layout.specs.declared.scope.CellScope.{CellScope}
use Rattle.plan_layout.specs.Laid.{item_spot}
use Rattle.plan_layout.specs.Spots.{needs_of}
use Rattle.plan_layout.specs.Steps.{LaysBody, LaysOne, Settles, lib_of}
use Rattle.plan_layout.proofs.Blocks.{both_ok, entered, left_again, named, with_item}
use Rattle.plan_layout.proofs.Parts.{Laying, added, begins, lays_body, lays_if, lays_next, lays_none, lays_scatter}
use Rattle.plan_layout.proofs.walk.+laying.Goals as goal

-- ---- blocks

pub lay_items-returns-clause-same : goal.lay_items-returns-clause-same
lay_items-returns-clause-same t c =
    let inside : c.add_name.new.self ≡ named (entered c.args.scope.now c.args.index) c.args.item.now =
    with_item c.args.scope.now c.enter.new.self c.add_name.new.self c.args.index c.args.item.now c.in_ok-enter.ensures c.in_ok-add_name.ensures in
    left_again c.args.origin.now c.args.body.now c.args.scope.now c.add_name.new.self c.lay_body.new.scope c.leave.new.self 1 0 c.args.index c.len-names.result c.len-calls.result
    (record { key = plain_key c.args.item.now; level = length (c.args.scope.now.path ++ c.args.index ∷ []); slot = 0 } ∷ []) (ap (λ (s : CellScope). s.names) inside) (ap (λ (s : CellScope). s.calls) inside)
    (ap (λ (s : CellScope). s.path) inside) c.in_ok-number.ensures.behind c.len-names.ensures c.len-calls.ensures c.leave.ensures.names c.leave.ensures.calls c.leave.ensures.path

pub lay_choice-returns-clause-same : goal.lay_choice-returns-clause-same
lay_choice-returns-clause-same t c =
    let inside : c.enter.new.self ≡ entered c.args.scope.now c.args.index = c.in_ok-enter.ensures in
    left_again c.args.origin.now c.args.body.now c.args.scope.now c.enter.new.self c.lay_body.new.scope c.leave.new.self 0 0 c.args.index c.len-names.result c.len-calls.result []
    (ap (λ (s : CellScope). s.names) inside ∙ sym (append-nil c.args.scope.now.names)) (ap (λ (s : CellScope). s.calls) inside) (ap (λ (s : CellScope). s.path) inside) c.in_ok-number.ensures.behind c.len-names.ensures
    c.len-calls.ensures c.leave.ensures.names c.leave.ensures.calls c.leave.ensures.path

-- ---- statements

pub lay_statement-returns-in_ok-inner-in-Scatter : goal.lay_statement-returns-in_ok-inner-in-Scatter
lay_statement-returns-in_ok-inner-in-Scatter t c =
    let o = c.args.origin.now in
    let x = c.in-Scatter.block in
    let s = c.args.scope.now in
    let path = s.path ++ c.args.index ∷ [] in
    let laid =
    subst (λ (ss : List Statement). LaysBody o ss (s.names ++ item_spot path x.item ∷ []) s.calls path 1 0 c.args.bodies.now c.lay_items.new.bodies c.in_ok-inner-in-Scatter.inner) c.as_slice-body.ensures c.in_ok-inner-in-Scatter.ensures.laid in
    let settled = λ (ss : List Statement) (u : CellScope) (l : StatementLayout).
    Settles (needs_of u.names (names_of x.over)) [] c.in_ok-inner-in-Scatter.inner c.args.next.now.done 1 (body_given (lib_of o) ss) u c.args.next.now c.settle_block.new.scope c.settle_block.new.next l in
    let as_laid = λ (st : Statement) (l : StatementLayout). LaysOne o st c.args.index s c.args.next.now c.args.bodies.now c.settle_block.new.scope c.settle_block.new.next c.lay_items.new.bodies l in
    IfOk-weaker c.settle_block.result (settled c.as_slice-body.result.now c.lay_items.new.scope) (as_laid c.args.statement.now) (λ l p.
    subst (λ (st : Statement). as_laid st l) (sym c.in-Scatter.is)
    (lays_scatter o c.args.index s c.settle_block.new.scope c.args.next.now c.settle_block.new.next l c.args.bodies.now c.lay_items.new.bodies c.in_ok-inner-in-Scatter.inner x
    (subst (λ (u : CellScope). settled x.body u l) c.in_ok-inner-in-Scatter.ensures.same (subst (λ (ss : List Statement). settled ss c.lay_items.new.scope l) c.as_slice-body.ensures p)) laid))
    c.settle_block.ensures

pub lay_statement-returns-in_ok-inner-in-If : goal.lay_statement-returns-in_ok-inner-in-If
lay_statement-returns-in_ok-inner-in-If t c =
    let o = c.args.origin.now in
    let x = c.in-If.block in
    let s = c.args.scope.now in
    let path = s.path ++ c.args.index ∷ [] in
    let inner = c.in_ok-inner-in-If.inner in
    let laid =
    subst (λ (ss : List Statement). LaysBody o ss s.names s.calls path 0 0 c.args.bodies.now c.lay_choice.new.bodies inner) c.as_slice-body-in-If.ensures c.in_ok-inner-in-If.ensures.laid in
    let settled = λ (ss : List Statement) (u : CellScope) (l : StatementLayout).
    Settles (needs_of u.names (names_of x.cond)) [] inner c.args.next.now.done 1 (body_given (lib_of o) ss) u c.args.next.now c.settle_block-in-If.new.scope c.settle_block-in-If.new.next l in
    let as_laid = λ (st : Statement) (l : StatementLayout). LaysOne o st c.args.index s c.args.next.now c.args.bodies.now c.settle_block-in-If.new.scope c.settle_block-in-If.new.next c.lay_choice.new.bodies l in
    IfOk-weaker c.settle_block-in-If.result (settled c.as_slice-body-in-If.result.now c.lay_choice.new.scope) (as_laid c.args.statement.now) (λ l p.
    subst (λ (st : Statement). as_laid st l) (sym c.in-If.is)
    (lays_if o c.args.index s c.settle_block-in-If.new.scope c.args.next.now c.settle_block-in-If.new.next l c.args.bodies.now c.lay_choice.new.bodies inner x
    (subst (λ (u : CellScope). settled x.body u l) c.in_ok-inner-in-If.ensures.same (subst (λ (ss : List Statement). settled ss c.lay_choice.new.scope l) c.as_slice-body-in-If.ensures p)) laid))
    c.settle_block-in-If.ensures

-- ---- bodies

pub lay_body-loop-index-init : goal.lay_body-loop-index-init
lay_body-loop-index-init t c =
    let o = c.args.origin.now in
    let start = begins o c.args.body.now c.args.scope.now c.args.before c.args.after c.in_ok-runs.runs c.in_ok-next.next c.in_ok-runs.ensures c.in_ok-next.ensures in
    subst (Laying o c.args.body.now c.args.scope.now c.args.before c.args.after c.args.bodies.now 0 c.args.scope.now c.in_ok-next.next c.args.bodies.now) (sym c.new-statements.ensures)
    (lays_none o c.args.body.now c.args.scope.now c.args.before c.args.after c.args.bodies.now c.in_ok-next.next start)

pub lay_body-loop-index-preserved : goal.lay_body-loop-index-preserved
lay_body-loop-index-preserved t c =
    let o = c.args.origin.now in
    let below : c.loop-index.index < length c.args.body.now = search rules in
    subst (Laying o c.args.body.now c.args.scope.now c.args.before c.args.after c.args.bodies.now (c.loop-index.index + 1) c.lay_statement.new.scope c.lay_statement.new.next c.lay_statement.new.bodies) (sym c.in_ok-push.ensures.ok)
    (lays_next o c.args.body.now c.args.scope.now c.args.before c.args.after c.args.bodies.now c.loop-index.index c.loop-index.scope c.lay_statement.new.scope c.loop-index.next c.lay_statement.new.next c.loop-index.bodies
    c.lay_statement.new.bodies c.loop-index.statements c.in_ok-layout.layout c.index-body-index.result below c.index-body-index.is c.loop-index.invariant c.in_ok-layout.ensures)

pub lay_body-returns-clause-laid : goal.lay_body-returns-clause-laid
lay_body-returns-clause-laid t c =
    let o = c.args.origin.now in
    let most : length c.args.body.now ≤ c.loop-index.index = search rules in
    let last : BodyLayout = added o c.args.body.now c.args.scope.now c.args.before c.args.after c.in_ok-runs.runs c.loop-index.scope c.loop-index.next c.loop-index.statements in
    both_ok c.put_body.result (λ n. n ≡ length c.loop-index.bodies) _ (c.put_body.new.bodies ≡ c.loop-index.bodies ++ last ∷ []) (λ n k e.
    lays_body o c.args.body.now c.args.scope.now c.args.before c.args.after c.args.bodies.now c.loop-index.index c.loop-index.scope c.loop-index.next c.loop-index.bodies c.put_body.new.bodies c.loop-index.statements
    c.in_ok-runs.runs n most c.loop-index.invariant c.in_ok-runs.ensures k e)
    c.put_body.ensures.number c.put_body.ensures.put
