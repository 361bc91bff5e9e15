use Rattle.std.proofs.Common.{rules, ◌≡◌, ℕ, ◌+◌, ◌-◌, ◌<◌, true, List, [], ◌∷◌, ◌++◌, length, drop, map, codes, Some, Ok, Err, refl, sym, ap, ◌∙◌, subst, arith}
use Rattle.std.specs.List.{slice_get}
use Rattle.std.proofs.lemmas.Bool.{and_parts}
use Rattle.std.proofs.lemmas.Option.{slice_get_read}
use Rattle.wdl_base.specs.declared.place.Segment.{Segment}
use Rattle.wdl_base.specs.declared.place.Segment.TheVariants as segment
use Rattle.wdl_value.specs.declared.value.Value.{Value}
use Rattle.wdl_value.specs.declared.value.Value.TheVariants as v
use Rattle.wdl_typed.specs.declared.flow.Statement.{Statement}
use Rattle.wdl_typed.specs.declared.flow.Statement.TheVariants as stmt
use Rattle.wdl_typed.specs.declared.task.TDecl.{TDecl}
use Rattle.wdl_typed.specs.declared.task.TInput.{TInput}
use Rattle.wdl_typed.specs.declared.expr.TExpr.{TExpr}
use Rattle.wdl_typed.specs.declared.expr.TField.{TField}
use Rattle.wdl_typed.specs.Flow as flow
use Rattle.wdl_flow.specs.Views.{given_of}
use Rattle.wdl_plain.specs.Views.{env_in, flowing_of, run_of, sight_of}
use Rattle.flow_soundness.specs.Readiness.{AreArgsReady, AreDeclsReady, AreInputsReady, AreItemsReady, IsBodyReady, IsCalleeReady, IsStatementReady}
use Rattle.flow_soundness.specs.StatementFlow.{statement_flow}
use Rattle.wdl_plain.specs.Walk as spec
use Rattle.flow_soundness.proofs.BlockReady.{if_body_ready, if_cond_ready, if_inside, scatter_items_ready, scatter_over_ready}
use Rattle.wdl_plain.proofs.Few.{few_decl}
use Rattle.flow_soundness.proofs.FlowReady.{flow_body_ready, flow_inputs_ready, flow_outputs_ready}
use Rattle.wdl_plain.proofs.Items.{gathered_more, item_is_many, items_are_many}
use Rattle.wdl_plain.proofs.Loops.{cut, part_is_many, runs_on, sum_is_many}
use Rattle.flow_soundness.proofs.Ready.{call_args_ready, callee_is_ready, decl_is_ready, first_ready, rest_ready}
use Rattle.wdl_plain.proofs.Statements.{as_flow, both_past, failed_as, flow_below, gives_decl, handed_on, if_as, if_false, if_waits, made_is, made_past, none_of, ran_is, ready_as, scatter_as, scatter_waits, scattered_none, sees_both, taken_is, taken_past, told_is, told_past}
use Rattle.wdl_plain.proofs.walk.+walk.Goals as goal

-- ---- statements

pub statement_flow-declaration-requires : goal.statement_flow-declaration-requires
statement_flow-declaration-requires g t c =
    let lib = (run_of c.args.ground.now).library in
    record {
      ready =
          decl_is_ready lib c.args.reach.levels c.in-Decl.d (sight_of c.args.sight.now)
          (ready_as lib c.args.reach.levels c.args.statement.now (stmt.Decl c.in-Decl.d) (sight_of c.args.sight.now) c.in-Decl.is c.requires.ready);
    }

pub statement_flow-returns-in_ok-declaration-in-Decl-clause-flow : goal.statement_flow-returns-in_ok-declaration-in-Decl-clause-flow
statement_flow-returns-in_ok-declaration-in-Decl-clause-flow g t c =
    let s = sight_of c.args.sight.now in
    let d = c.in-Decl.d in
    as_flow _ (flow.declaration s d.name d.value) (Ok c.in_ok-declaration-in-Decl.field-0) (gives_decl (run_of c.args.ground.now) c.args.reach.calls s c.args.statement.now d c.in-Decl.is)
    (c.in_ok-declaration-in-Decl.ensures, few_decl s d.name d.value)

-- ---- calls

pub call_flow-args_met-requires-clause-ready : goal.call_flow-args_met-requires-clause-ready
call_flow-args_met-requires-clause-ready g t c =
    let may = and_parts _ _ (sym c.in_ok-may.ensures ∙ c.if-not-may.false) in
    subst (λ (as_ : List (TField TExpr)). AreArgsReady (env_in c.args.sight.now.names) as_) (sym c.as_slice.ensures)
    (call_args_ready (run_of c.args.ground.now).library c.args.reach.levels c.args.call.now (sight_of c.args.sight.now) c.requires.ready may.0)

pub call_flow-called-requires : goal.call_flow-called-requires
call_flow-called-requires g t c κs within =
    let may = and_parts _ _ (sym c.in_ok-may.ensures ∙ c.if-not-may.false) in
    let ready : IsCalleeReady (run_of c.args.ground.now).library c.args.reach.levels c.args.call.now.target c.in-Ok.args =
    callee_is_ready (run_of c.args.ground.now).library c.args.reach.levels c.args.call.now (sight_of c.args.sight.now) c.in-Ok.args c.requires.ready may.0
    (ap (λ (as_ : List (TField TExpr)). flow.args_met (env_in c.args.sight.now.names) as_) (sym c.as_slice.ensures) ∙ c.in-Ok.ensures) in
    search (rules, ready)

pub called-task_called-requires : goal.called-task_called-requires
called-task_called-requires g t c = record { ready = λ task there. c.requires.ready.tasks c.in-Task.k task c.in-Task.is there }

-- ---- scatters

pub scatter_flow-returns-then-not-known-clause-flow : goal.scatter_flow-returns-then-not-known-clause-flow
scatter_flow-returns-then-not-known-clause-flow g t c =
    let r = run_of c.args.ground.now in
    let n = flow.body_names (spec.parts_of r c.args.reach.calls c.args.scatter.now.body) in
    let names : given_of c.in_ok-given.given ≡ n = c.in_ok-given.ensures c.args.reach.calls ∙ ap (λ (ss : List Statement). flow.body_names (spec.parts_of r c.args.reach.calls ss)) c.as_slice.ensures in
    as_flow _ (flow.missing n) (Ok c.in_ok-missing.field-0)
    (scatter_waits r c.args.reach.calls (sight_of c.args.sight.now) c.args.scatter.now (sym c.in_ok-known.ensures ∙ c.if-not-known.true))
    (c.in_ok-missing.ensures ∙ ap flow.missing names, refl)

pub scatter_flow-value_now-requires-clause-ready : goal.scatter_flow-value_now-requires-clause-ready
scatter_flow-value_now-requires-clause-ready g t c =
    scatter_over_ready (run_of c.args.ground.now).library c.args.reach.levels c.args.scatter.now (sight_of c.args.sight.now) c.requires.ready (sym c.in_ok-known.ensures ∙ c.if-not-known.false)

pub scatter_flow-scattered-requires : goal.scatter_flow-scattered-requires
scatter_flow-scattered-requires g t c κs within =
    let r = run_of c.args.ground.now in
    let names : given_of c.in_ok-given.given ≡ flow.body_names (spec.parts_of r c.args.reach.calls c.args.scatter.now.body) =
    c.in_ok-given.ensures c.args.reach.calls ∙ ap (λ (ss : List Statement). flow.body_names (spec.parts_of r c.args.reach.calls ss)) c.as_slice.ensures in
    let ready : AreItemsReady r.library c.args.reach.levels c.args.scatter.now c.items_in-items.result.now (sight_of c.args.sight.now) =
    subst (λ (xs : List Value). AreItemsReady r.library c.args.reach.levels c.args.scatter.now xs (sight_of c.args.sight.now)) (sym c.items_in-items.ensures)
    (scatter_items_ready r.library c.args.reach.levels c.args.scatter.now (sight_of c.args.sight.now) c.in-Ok.value c.requires.ready (sym c.in_ok-known.ensures ∙ c.if-not-known.false) c.in-Ok.ensures) in
    search (rules, names, ready)

pub scatter_flow-returns-in-Ok-clause-flow : goal.scatter_flow-returns-in-Ok-clause-flow
scatter_flow-returns-in-Ok-clause-flow g t c =
    let r = run_of c.args.ground.now in
    let s = sight_of c.args.sight.now in
    as_flow _ (spec.scattered r c.args.reach.calls c.args.scatter.now c.items_in-items.result.now s) c.scattered.result
    (scatter_as r c.args.reach.calls s c.args.scatter.now (Ok c.in-Ok.value) (sym c.in_ok-known.ensures ∙ c.if-not-known.false) c.in-Ok.ensures
    ∙ ap (λ (xs : List Value). spec.scattered r c.args.reach.calls c.args.scatter.now xs s) (sym c.items_in-items.ensures))
    c.scattered.ensures.flow

pub scatter_flow-returns-in_ok-failed_scatter-in-Err-Code-clause-flow : goal.scatter_flow-returns-in_ok-failed_scatter-in-Err-Code-clause-flow
scatter_flow-returns-in_ok-failed_scatter-in-Err-Code-clause-flow g t c =
    let r = run_of c.args.ground.now in
    let s = sight_of c.args.sight.now in
    let n = flow.body_names (spec.parts_of r c.args.reach.calls c.args.scatter.now.body) in
    let names : given_of c.in_ok-given.given ≡ n = c.in_ok-given.ensures c.args.reach.calls ∙ ap (λ (ss : List Statement). flow.body_names (spec.parts_of r c.args.reach.calls ss)) c.as_slice.ensures in
    as_flow _ (flow.scattered n (spec.body_flow r c.args.reach.calls c.args.scatter.now.body) s c.args.scatter.now.number c.args.scatter.now.item (Err c.in-Err-Code.code)) (Ok c.in_ok-failed_scatter-in-Err-Code.field-0)
    (scatter_as r c.args.reach.calls s c.args.scatter.now (Err c.in-Err-Code.code) (sym c.in_ok-known.ensures ∙ c.if-not-known.false)
    (c.in-Err-Code.ensures c.in-Err-Code.code c.in-Err-Code.field-0-is)) (
      failed_as (flowing_of c.in_ok-failed_scatter-in-Err-Code.field-0) (s.place ++ segment.Scatter c.args.scatter.now.number ∷ []) c.args.scatter.now.item c.in-Err-Code.code (given_of c.in_ok-given.given) n _
          c.in_ok-failed_scatter-in-Err-Code.ensures (sym c.in-Err-Code.code-is) names,
      refl,
    )

pub scattered-returns-then-len-eq0-clause-flow : goal.scattered-returns-then-len-eq0-clause-flow
scattered-returns-then-len-eq0-clause-flow g t c =
    let e : length c.args.scatter.now.body ≡ 0 = omega arith in
    as_flow _ _ (Ok c.counted.result)
    (scattered_none (run_of c.args.ground.now) c.args.reach.calls (sight_of c.args.sight.now) c.args.scatter.now c.args.items.now (none_of c.args.scatter.now.body e)) (c.counted.ensures, refl)

pub scattered-item_flow-requires : goal.scattered-item_flow-requires
scattered-item_flow-requires g t c κs within =
    let below : c.loop-i.i < length c.args.items.now = omega arith in
    let ready : IsBodyReady (run_of c.args.ground.now).library (c.args.reach.levels - 1) c.args.scatter.now.body (spec.item_sight c.args.scatter.now c.loop-i.i c.index-items-i.result (sight_of c.loop-i.sight)) =
    subst (λ (z : flow.Sight). IsBodyReady (run_of c.args.ground.now).library (c.args.reach.levels - 1) c.args.scatter.now.body (spec.item_sight c.args.scatter.now c.loop-i.i c.index-items-i.result z))
    (sym c.loop-i.invariant.2)
    (c.requires.ready.each c.loop-i.i c.index-items-i.result (slice_get_read c.args.items.now (length c.args.items.now) c.loop-i.i c.index-items-i.result refl below c.index-items-i.is)) in
    let inside : 0 < c.args.reach.levels = c.requires.ready.inside in
    search (rules, ready, inside)

pub scattered-returns-in_err-flow-clause-flow : goal.scattered-returns-in_err-flow-clause-flow
scattered-returns-in_err-flow-clause-flow g t c =
    let r = run_of c.args.ground.now in
    let s = sight_of c.args.sight.now in
    let sc = c.args.scatter.now in
    let below : c.loop-i.i < length c.args.items.now = omega arith in
    handed_on _ c.from_residual.result c.in_err-flow.field-0.0 c.from_residual.ensures (λ is.
    item_is_many (spec.body_flow r c.args.reach.calls sc.body) s sc.number sc.item c.args.items.now c.loop-i.i c.index-items-i.result below c.index-items-i.is
    (ap (λ (z : flow.Sight). flow.too_many (spec.body_flow r c.args.reach.calls sc.body (spec.item_sight sc c.loop-i.i c.index-items-i.result z))) (sym c.loop-i.invariant.2)
    ∙ c.in_err-flow.ensures.flow is))

pub scattered-returns-in_err-gathering-clause-flow : goal.scattered-returns-in_err-gathering-clause-flow
scattered-returns-in_err-gathering-clause-flow g t c =
    let r = run_of c.args.ground.now in
    let s = sight_of c.args.sight.now in
    let sc = c.args.scatter.now in
    let below : c.loop-i.i < length c.args.items.now = omega arith in
    handed_on _ c.from_residual-in_err-gathering.result c.in_err-gathering.field-0.0 c.from_residual-in_err-gathering.ensures (λ is.
    items_are_many (spec.body_flow r c.args.reach.calls sc.body) s sc.number sc.item c.args.items.now c.loop-i.i c.index-items-i.result below c.index-items-i.is
    c.loop-i.gathering (flowing_of c.in_ok-flow.flow) c.loop-i.invariant.0
    (c.in_ok-flow.ensures.flow.0 ∙ ap (λ (z : flow.Sight). spec.body_flow r c.args.reach.calls sc.body (spec.item_sight sc c.loop-i.i c.index-items-i.result z)) c.loop-i.invariant.2)
    (c.in_err-gathering.ensures.refused (ap (λ e. Err e) is)))

pub scattered-loop-i-preserved : goal.scattered-loop-i-preserved
scattered-loop-i-preserved g t c =
    let r = run_of c.args.ground.now in
    let s = sight_of c.args.sight.now in
    let sc = c.args.scatter.now in
    let below : c.loop-i.i < length c.args.items.now = omega arith in (
      gathered_more (spec.body_flow r c.args.reach.calls sc.body) s sc.number sc.item c.args.items.now c.loop-i.i c.index-items-i.result below c.index-items-i.is
          c.loop-i.gathering c.in_ok-gathering.gathering (flowing_of c.in_ok-flow.flow)
          (c.in_ok-flow.ensures.flow.0 ∙ ap (λ (z : flow.Sight). spec.body_flow r c.args.reach.calls sc.body (spec.item_sight sc c.loop-i.i c.index-items-i.result z)) c.loop-i.invariant.2)
          c.in_ok-gathering.ensures.gathered c.loop-i.invariant.0,
      c.in_ok-gathering.ensures.within,
      c.in_ok-flow.ensures.kept ∙ c.loop-i.invariant.2,
    )

pub item_flow-returns-in_err-flow-clause-flow : goal.item_flow-returns-in_err-flow-clause-flow
item_flow-returns-in_err-flow-clause-flow g t c =
    let r = run_of c.args.ground.now in
    let same = ap (λ n. spec.body_flow r n c.as_slice.result.now (sight_of c.enter_item.new.sight)) c.inward.ensures.calls
    ∙ ap (λ (ss : List Statement). spec.body_flow r c.args.reach.calls ss (sight_of c.enter_item.new.sight)) c.as_slice.ensures
    ∙ ap (spec.body_flow r c.args.reach.calls c.args.scatter.now.body) c.in_ok-enter_item.ensures in
    handed_on _ c.from_residual-in_err-flow.result c.in_err-flow.field-0.0 c.from_residual-in_err-flow.ensures (λ is. sym (ap flow.too_many same) ∙ c.in_err-flow.ensures.flow is)

pub item_flow-returns-clause-flow : goal.item_flow-returns-clause-flow
item_flow-returns-clause-flow g t c =
    let r = run_of c.args.ground.now in
    let same = ap (λ n. spec.body_flow r n c.as_slice.result.now (sight_of c.enter_item.new.sight)) c.inward.ensures.calls
    ∙ ap (λ (ss : List Statement). spec.body_flow r c.args.reach.calls ss (sight_of c.enter_item.new.sight)) c.as_slice.ensures
    ∙ ap (spec.body_flow r c.args.reach.calls c.args.scatter.now.body) c.in_ok-enter_item.ensures in
    as_flow _ _ (Ok c.in_ok-flow.flow) (sym same) c.in_ok-flow.ensures.flow

-- ---- conditions

pub if_flow-returns-then-not-known-clause-flow : goal.if_flow-returns-then-not-known-clause-flow
if_flow-returns-then-not-known-clause-flow g t c =
    let r = run_of c.args.ground.now in
    let n = flow.body_names (spec.parts_of r c.args.reach.calls c.args.condition.now.body) in
    let names : given_of c.in_ok-given.given ≡ n = c.in_ok-given.ensures c.args.reach.calls ∙ ap (λ (ss : List Statement). flow.body_names (spec.parts_of r c.args.reach.calls ss)) c.as_slice.ensures in
    as_flow _ (flow.missing n) (Ok c.in_ok-missing.field-0)
    (if_waits r c.args.reach.calls (sight_of c.args.sight.now) c.args.condition.now (sym c.in_ok-known.ensures ∙ c.if-not-known.true))
    (c.in_ok-missing.ensures ∙ ap flow.missing names, refl)

pub if_flow-value_now-requires-clause-ready : goal.if_flow-value_now-requires-clause-ready
if_flow-value_now-requires-clause-ready g t c =
    if_cond_ready (run_of c.args.ground.now).library c.args.reach.levels c.args.condition.now (sight_of c.args.sight.now) c.requires.ready (sym c.in_ok-known.ensures ∙ c.if-not-known.false)

pub if_flow-returns-then-not-is_true-clause-flow : goal.if_flow-returns-then-not-is_true-clause-flow
if_flow-returns-then-not-is_true-clause-flow g t c =
    let r = run_of c.args.ground.now in
    let n = flow.body_names (spec.parts_of r c.args.reach.calls c.args.condition.now.body) in
    let names : given_of c.in_ok-given.given ≡ n = c.in_ok-given.ensures c.args.reach.calls ∙ ap (λ (ss : List Statement). flow.body_names (spec.parts_of r c.args.reach.calls ss)) c.as_slice.ensures in
    as_flow _ _ (Ok c.in_ok-giving-in-Ok.field-0)
    (if_false r c.args.reach.calls (sight_of c.args.sight.now) c.args.condition.now c.in-Ok.value (sym c.in_ok-known.ensures ∙ c.if-not-known.false) c.in-Ok.ensures (sym c.is_true.ensures ∙ c.if-not-is_true.true))
    (c.in_ok-giving-in-Ok.ensures ∙ ap (λ m. flow.giving (Some v.Absent) true m) names, refl)

pub if_flow-chosen-requires : goal.if_flow-chosen-requires
if_flow-chosen-requires g t c κs within =
    let lib = (run_of c.args.ground.now).library in
    let inside : 0 < c.args.reach.levels = if_inside lib c.args.reach.levels c.args.condition.now (sight_of c.args.sight.now) c.requires.ready in
    let ready : IsBodyReady lib (c.args.reach.levels - 1) c.args.condition.now.body (flow.inside (sight_of c.args.sight.now) (segment.If c.args.condition.now.number)) =
    if_body_ready lib c.args.reach.levels c.args.condition.now (sight_of c.args.sight.now) c.requires.ready in
    search (rules, inside, ready)

pub if_flow-returns-in_ok-failed_if-in-Err-Code-clause-flow : goal.if_flow-returns-in_ok-failed_if-in-Err-Code-clause-flow
if_flow-returns-in_ok-failed_if-in-Err-Code-clause-flow g t c =
    let r = run_of c.args.ground.now in
    let s = sight_of c.args.sight.now in
    let n = flow.body_names (spec.parts_of r c.args.reach.calls c.args.condition.now.body) in
    let names : given_of c.in_ok-given.given ≡ n = c.in_ok-given.ensures c.args.reach.calls ∙ ap (λ (ss : List Statement). flow.body_names (spec.parts_of r c.args.reach.calls ss)) c.as_slice.ensures in
    as_flow _ (flow.conditional n (spec.body_flow r c.args.reach.calls c.args.condition.now.body) s c.args.condition.now.number (Err c.in-Err-Code.code)) (Ok c.in_ok-failed_if-in-Err-Code.field-0)
    (if_as r c.args.reach.calls s c.args.condition.now (Err c.in-Err-Code.code) (sym c.in_ok-known.ensures ∙ c.if-not-known.false)
    (c.in-Err-Code.ensures c.in-Err-Code.code c.in-Err-Code.field-0-is)) (
      failed_as (flowing_of c.in_ok-failed_if-in-Err-Code.field-0) (s.place ++ segment.If c.args.condition.now.number ∷ []) (codes "if") c.in-Err-Code.code (given_of c.in_ok-given.given) n _
          c.in_ok-failed_if-in-Err-Code.ensures (sym c.in-Err-Code.code-is) names,
      refl,
    )

abbrev below_if : flow.Run → ℕ → List Statement → flow.Sight → List Segment → flow.Flowing
below_if r depth ss s place = spec.body_flow r depth ss (record { names = s.names; calls = s.calls; place = place })

pub chosen-returns-in_err-flow-clause-flow : goal.chosen-returns-in_err-flow-clause-flow
chosen-returns-in_err-flow-clause-flow g t c =
    let r = run_of c.args.ground.now in
    let s = sight_of c.args.sight.now in
    let same = ap (λ n. below_if r n c.as_slice.result.now s c.push.new.self) c.inward.ensures.calls
    ∙ ap (λ (ss : List Statement). below_if r c.args.reach.calls ss s c.push.new.self) c.as_slice.ensures
    ∙ ap (below_if r c.args.reach.calls c.args.condition.now.body s) c.in_ok-push.ensures.ok in
    handed_on _ c.from_residual-in_err-flow.result c.in_err-flow.field-0.0 c.from_residual-in_err-flow.ensures (λ is. sym (ap flow.too_many same) ∙ c.in_err-flow.ensures.flow is)

pub chosen-returns-clause-flow : goal.chosen-returns-clause-flow
chosen-returns-clause-flow g t c =
    let r = run_of c.args.ground.now in
    let s = sight_of c.args.sight.now in
    let same = ap (λ n. below_if r n c.as_slice.result.now s c.push.new.self) c.inward.ensures.calls
    ∙ ap (λ (ss : List Statement). below_if r c.args.reach.calls ss s c.push.new.self) c.as_slice.ensures
    ∙ ap (below_if r c.args.reach.calls c.args.condition.now.body s) c.in_ok-push.ensures.ok in
    as_flow _ _ (Ok c.in_ok-flow.flow) (sym same) c.in_ok-flow.ensures.flow

-- ---- bodies

abbrev runs : flow.Run → ℕ → List Statement → List flow.Runner
runs r depth ss = map flow.run_of_part (spec.parts_of r depth ss)

pub body_flow-statement_flow-requires : goal.body_flow-statement_flow-requires
body_flow-statement_flow-requires g t c κs within =
    let lib = (run_of c.args.ground.now).library in
    let s = sight_of c.loop-statement.sight in
    let ready : IsStatementReady lib c.args.reach.levels c.statement-item.result s =
    first_ready lib c.args.reach.levels c.statement-item.result (drop (c.loop-statement.statement-index + 1) c.args.body.now) s
    (subst (λ (ss : List Statement). IsBodyReady lib c.args.reach.levels ss s)
    (cut c.args.body.now c.loop-statement.statement-index c.statement-item.result c.loop-statement-test.true c.statement-item.is) c.loop-statement.invariant.1) in
    search (rules, ready)

pub body_flow-returns-in_err-more-clause-flow : goal.body_flow-returns-in_err-more-clause-flow
body_flow-returns-in_err-more-clause-flow g t c =
    let r = run_of c.args.ground.now in
    handed_on _ c.from_residual-in_err-more.result c.in_err-more.field-0.0 c.from_residual-in_err-more.ensures (λ is.
    part_is_many (statement_flow r c.args.reach.calls) (runs r c.args.reach.calls) (λ x xs. refl) c.args.body.now c.loop-statement.statement-index c.statement-item.result
    (flowing_of c.loop-statement.total) (spec.body_flow r c.args.reach.calls c.args.body.now (sight_of c.args.sight.now)) (sight_of c.loop-statement.sight) (sight_of c.args.sight.now)
    c.loop-statement-test.true c.statement-item.is (c.in_err-more.ensures.flow is) c.loop-statement.invariant.0)

pub body_flow-returns-in_err-total-2-clause-flow : goal.body_flow-returns-in_err-total-2-clause-flow
body_flow-returns-in_err-total-2-clause-flow g t c =
    let r = run_of c.args.ground.now in
    handed_on _ c.from_residual-in_err-total-2.result c.in_err-total-2.field-0.0 c.from_residual-in_err-total-2.ensures (λ is.
    sum_is_many (statement_flow r c.args.reach.calls) (runs r c.args.reach.calls) (λ x xs. refl) c.args.body.now c.loop-statement.statement-index c.statement-item.result
    (flowing_of c.loop-statement.total) (flowing_of c.in_ok-more.more) (spec.body_flow r c.args.reach.calls c.args.body.now (sight_of c.args.sight.now)) (sight_of c.loop-statement.sight) (sight_of c.args.sight.now)
    c.loop-statement-test.true c.statement-item.is c.in_ok-more.ensures.flow.0 (c.in_err-total-2.ensures is) c.loop-statement.invariant.0)

pub body_flow-loop-statement-preserved : goal.body_flow-loop-statement-preserved
body_flow-loop-statement-preserved g t c =
    let r = run_of c.args.ground.now in
    let s = sight_of c.loop-statement.sight in
    let st = c.statement-item.result in
    let rest = drop (c.loop-statement.statement-index + 1) c.args.body.now in
    let body = subst (λ (ss : List Statement). IsBodyReady r.library c.args.reach.levels ss s) (cut c.args.body.now c.loop-statement.statement-index st c.loop-statement-test.true c.statement-item.is) c.loop-statement.invariant.1 in
    let seen : sight_of c.enter.new.self ≡ flow.seeing s (flowing_of c.in_ok-more.more) =
    c.in_ok-enter.ensures ∙ ap (λ (z : flow.Sight). flow.seeing z (flowing_of c.in_ok-more.more)) c.in_ok-more.ensures.kept in (
      runs_on (statement_flow r c.args.reach.calls) (runs r c.args.reach.calls) (λ x xs. refl) c.args.body.now c.loop-statement.statement-index st
          (flowing_of c.loop-statement.total) (flowing_of c.in_ok-more.more) (flowing_of c.in_ok-total-2.total) (spec.body_flow r c.args.reach.calls c.args.body.now (sight_of c.args.sight.now))
          s (sight_of c.enter.new.self) (sight_of c.args.sight.now) c.loop-statement-test.true c.statement-item.is c.in_ok-more.ensures.flow.0 seen
          c.in_ok-total-2.ensures.0 c.in_ok-total-2.ensures.1 c.loop-statement.invariant.0,
      subst (λ (z : flow.Sight). IsBodyReady r.library c.args.reach.levels rest z) (sym (seen ∙ ap (flow.seeing s) c.in_ok-more.ensures.flow.0))
          (rest_ready r.library c.args.reach.levels st rest s body r refl c.args.reach.calls),
    )

-- ---- workflows

pub flow_of-returns : goal.flow_of-returns
flow_of-returns g t c =
    let r = run_of c.args.ground.now in
    let there : slice_get r.library.flows c.args.k ≡ Some c.in-Some.def.now = search rules in
    let some : 0 < c.args.reach.calls = omega arith in
    as_flow _ _ c.flow_in.result (flow_below r c.args.reach.calls c.args.k (env_in c.args.given.now) c.args.place (Some c.in-Some.def.now) some there) c.flow_in.ensures

pub flow_in-inputs-requires : goal.flow_in-inputs-requires
flow_in-inputs-requires g t c =
    let r = run_of c.args.ground.now in
    let f = c.args.def.now in
    record {
      ready =
          subst (λ (is : List TInput). AreInputsReady (env_in c.args.given.now) is (sight_of c.beginning-sight.result)) (sym c.as_slice.ensures)
          (subst (λ (z : flow.Sight). AreInputsReady (env_in c.args.given.now) f.inputs z) (sym c.beginning-sight.ensures)
          (flow_inputs_ready r c.args.reach.levels c.args.reach.calls c.args.k f (env_in c.args.given.now) c.args.place c.requires.ready c.requires.there));
    }

pub flow_in-returns-in_err-taken : goal.flow_in-returns-in_err-taken
flow_in-returns-in_err-taken g t c =
    let r = run_of c.args.ground.now in
    let f = c.args.def.now in
    let is_taken = taken_is r c.args.reach.calls f (env_in c.args.given.now) c.args.place c.as_slice.result.now (sight_of c.beginning-sight.result) _ c.as_slice.ensures c.beginning-sight.ensures refl in
    handed_on _ c.from_residual.result c.in_err-taken.field-0.0 c.from_residual.ensures (λ is.
    taken_past r c.args.reach.calls f (env_in c.args.given.now) c.args.place (sym (ap flow.too_many is_taken) ∙ c.in_err-taken.ensures.flow is))

pub flow_in-body_flow-requires : goal.flow_in-body_flow-requires
flow_in-body_flow-requires g t c κs within =
    let r = run_of c.args.ground.now in
    let f = c.args.def.now in
    let is_taken = taken_is r c.args.reach.calls f (env_in c.args.given.now) c.args.place c.as_slice.result.now (sight_of c.beginning-sight.result) _ c.as_slice.ensures c.beginning-sight.ensures c.in_ok-taken.ensures.flow.0 in
    let seen = sees_both r c.args.reach.calls f (env_in c.args.given.now) c.args.place _ _ _ _ _ c.in_ok-taken.ensures.seen c.beginning-sight.ensures is_taken in
    let ready : IsBodyReady r.library c.args.reach.levels c.as_slice-2.result.now (sight_of c.inputs.new.sight) =
    subst (λ (ss : List Statement). IsBodyReady r.library c.args.reach.levels ss (sight_of c.inputs.new.sight)) (sym c.as_slice-2.ensures)
    (subst (λ (z : flow.Sight). IsBodyReady r.library c.args.reach.levels f.body z) (sym seen)
    (flow_body_ready r c.args.reach.levels c.args.reach.calls c.args.k f (env_in c.args.given.now) c.args.place c.requires.ready c.requires.there)) in
    search (rules, ready)

pub flow_in-returns-in_err-made : goal.flow_in-returns-in_err-made
flow_in-returns-in_err-made g t c =
    let r = run_of c.args.ground.now in
    let f = c.args.def.now in
    let is_taken = taken_is r c.args.reach.calls f (env_in c.args.given.now) c.args.place c.as_slice.result.now (sight_of c.beginning-sight.result) _ c.as_slice.ensures c.beginning-sight.ensures c.in_ok-taken.ensures.flow.0 in
    let seen = sees_both r c.args.reach.calls f (env_in c.args.given.now) c.args.place _ _ _ _ _ c.in_ok-taken.ensures.seen c.beginning-sight.ensures is_taken in
    let is_made = made_is r c.args.reach.calls f (env_in c.args.given.now) c.args.place c.as_slice-2.result.now (sight_of c.inputs.new.sight) _ c.as_slice-2.ensures seen refl in
    handed_on _ c.from_residual-in_err-made.result c.in_err-made.field-0.0 c.from_residual-in_err-made.ensures (λ is.
    made_past r c.args.reach.calls f (env_in c.args.given.now) c.args.place (sym (ap flow.too_many is_made) ∙ c.in_err-made.ensures.flow is))

pub flow_in-outputs-requires : goal.flow_in-outputs-requires
flow_in-outputs-requires g t c =
    let r = run_of c.args.ground.now in
    let f = c.args.def.now in
    let is_taken = taken_is r c.args.reach.calls f (env_in c.args.given.now) c.args.place c.as_slice.result.now (sight_of c.beginning-sight.result) _ c.as_slice.ensures c.beginning-sight.ensures c.in_ok-taken.ensures.flow.0 in
    let seen = sees_both r c.args.reach.calls f (env_in c.args.given.now) c.args.place _ _ _ _ _ c.in_ok-taken.ensures.seen c.beginning-sight.ensures is_taken in
    let is_made = made_is r c.args.reach.calls f (env_in c.args.given.now) c.args.place c.as_slice-2.result.now (sight_of c.inputs.new.sight) _ c.as_slice-2.ensures seen c.in_ok-made.ensures.flow.0 in
    let after = sees_both r c.args.reach.calls f (env_in c.args.given.now) c.args.place _ _ _ _ _ c.in_ok-made.ensures.seen seen is_made in
    record {
      ready =
          subst (λ (ds : List TDecl). AreDeclsReady ds (sight_of c.body_flow.new.sight)) (sym c.as_slice-3.ensures)
          (subst (λ (z : flow.Sight). AreDeclsReady f.outputs z) (sym after)
          (flow_outputs_ready r c.args.reach.levels c.args.reach.calls c.args.k f (env_in c.args.given.now) c.args.place c.requires.ready c.requires.there));
    }

pub flow_in-returns-in_err-told : goal.flow_in-returns-in_err-told
flow_in-returns-in_err-told g t c =
    let r = run_of c.args.ground.now in
    let f = c.args.def.now in
    let is_taken = taken_is r c.args.reach.calls f (env_in c.args.given.now) c.args.place c.as_slice.result.now (sight_of c.beginning-sight.result) _ c.as_slice.ensures c.beginning-sight.ensures c.in_ok-taken.ensures.flow.0 in
    let seen = sees_both r c.args.reach.calls f (env_in c.args.given.now) c.args.place _ _ _ _ _ c.in_ok-taken.ensures.seen c.beginning-sight.ensures is_taken in
    let is_made = made_is r c.args.reach.calls f (env_in c.args.given.now) c.args.place c.as_slice-2.result.now (sight_of c.inputs.new.sight) _ c.as_slice-2.ensures seen c.in_ok-made.ensures.flow.0 in
    let after = sees_both r c.args.reach.calls f (env_in c.args.given.now) c.args.place _ _ _ _ _ c.in_ok-made.ensures.seen seen is_made in
    let is_told = told_is r c.args.reach.calls f (env_in c.args.given.now) c.args.place c.as_slice-3.result.now (sight_of c.body_flow.new.sight) _ c.as_slice-3.ensures after refl in
    handed_on _ c.from_residual-in_err-told.result c.in_err-told.field-0.0 c.from_residual-in_err-told.ensures (λ is.
    told_past r c.args.reach.calls f (env_in c.args.given.now) c.args.place (sym (ap flow.too_many is_told) ∙ c.in_err-told.ensures.flow is))

pub flow_in-returns-in_err-and : goal.flow_in-returns-in_err-and
flow_in-returns-in_err-and g t c =
    let r = run_of c.args.ground.now in
    let f = c.args.def.now in
    let is_taken = taken_is r c.args.reach.calls f (env_in c.args.given.now) c.args.place c.as_slice.result.now (sight_of c.beginning-sight.result) _ c.as_slice.ensures c.beginning-sight.ensures c.in_ok-taken.ensures.flow.0 in
    let seen = sees_both r c.args.reach.calls f (env_in c.args.given.now) c.args.place _ _ _ _ _ c.in_ok-taken.ensures.seen c.beginning-sight.ensures is_taken in
    let is_made = made_is r c.args.reach.calls f (env_in c.args.given.now) c.args.place c.as_slice-2.result.now (sight_of c.inputs.new.sight) _ c.as_slice-2.ensures seen c.in_ok-made.ensures.flow.0 in
    let both = ap (λ z. flow.together z (flowing_of c.in_ok-made.made)) is_taken ∙ ap (flow.together (flow.inputs (env_in c.args.given.now) f.inputs (flow.beginning c.args.place))) is_made in
    handed_on _ c.from_residual-in_err-and.result c.in_err-and.field-0.0 c.from_residual-in_err-and.ensures (λ is.
    both_past r c.args.reach.calls f (env_in c.args.given.now) c.args.place (sym (ap flow.too_many both) ∙ c.in_err-and.ensures is))

pub flow_in-returns : goal.flow_in-returns
flow_in-returns g t c =
    let r = run_of c.args.ground.now in
    let f = c.args.def.now in
    let is_taken = taken_is r c.args.reach.calls f (env_in c.args.given.now) c.args.place c.as_slice.result.now (sight_of c.beginning-sight.result) _ c.as_slice.ensures c.beginning-sight.ensures c.in_ok-taken.ensures.flow.0 in
    let seen = sees_both r c.args.reach.calls f (env_in c.args.given.now) c.args.place _ _ _ _ _ c.in_ok-taken.ensures.seen c.beginning-sight.ensures is_taken in
    let is_made = made_is r c.args.reach.calls f (env_in c.args.given.now) c.args.place c.as_slice-2.result.now (sight_of c.inputs.new.sight) _ c.as_slice-2.ensures seen c.in_ok-made.ensures.flow.0 in
    let after = sees_both r c.args.reach.calls f (env_in c.args.given.now) c.args.place _ _ _ _ _ c.in_ok-made.ensures.seen seen is_made in
    let is_told = told_is r c.args.reach.calls f (env_in c.args.given.now) c.args.place c.as_slice-3.result.now (sight_of c.body_flow.new.sight) _ c.as_slice-3.ensures after c.in_ok-told.ensures.flow.0 in
    let both = ap (λ z. flow.together z (flowing_of c.in_ok-made.made)) is_taken ∙ ap (flow.together (flow.inputs (env_in c.args.given.now) f.inputs (flow.beginning c.args.place))) is_made in
    let all = ap (λ z. flow.together z (flowing_of c.in_ok-told.told)) (c.in_ok-and.ensures.0 ∙ both)
    ∙ ap (flow.together (flow.together (flow.inputs (env_in c.args.given.now) f.inputs (flow.beginning c.args.place)) _)) is_told in
    as_flow _ _ c.and-2.result (ran_is r c.args.reach.calls f (env_in c.args.given.now) c.args.place ∙ sym all) c.and-2.ensures
