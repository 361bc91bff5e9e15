-- Each step that is ready may be done, and then the plan holds again.
use Rattle.std.proofs.Common.{◌≡◌, ℕ, ◌+◌, ◌≤◌, true, false, List, [], ◌∷◌, ◌++◌, length, Option, Some, None, Ok, Err, slice_get, sym, ap, ◌∙◌, subst, refl, arith}
use Rattle.wdl_base.specs.declared.fault.Fault.{Fault}
use Rattle.wdl_base.specs.declared.place.Segment.{Segment}
use Rattle.wdl_base.specs.declared.place.Segment.TheVariants as segment
use Rattle.wdl_value.specs.declared.env.Bind.{Bind}
use Rattle.wdl_value.specs.Tables.{Row, answer_at}
use Rattle.wdl_typed.specs.declared.checked.Checked.{Checked}
use Rattle.wdl_typed.specs.declared.flow.FlowDef.{FlowDef}
use Rattle.wdl_typed.specs.declared.flow.Statement.{Statement, Statement-F, out-Statement, roll-Statement, roll-out-Statement}
use Rattle.wdl_typed.specs.declared.flow.Statement.TheOpen as layer
use Rattle.wdl_typed.specs.declared.flow.Statement.TheVariants as stmt
use Rattle.wdl_typed.specs.declared.flow.Target.{Target}
use Rattle.wdl_typed.specs.declared.flow.Target.TheVariants as target
use Rattle.wdl_typed.specs.declared.flow.TCall.{TCall}
use Rattle.wdl_typed.specs.declared.task.TaskDef.{TaskDef}
use Rattle.wdl_typed.specs.Flow.{args_met}
use Rattle.wdl_typed.specs.Requests.{Asked, Tried, asks as asks_of}
use Rattle.wdl_task.specs.Counts.{prepare_count}
use Rattle.step_net.specs.Views.{Wants}
use Rattle.value_net.specs.Nets.{are_set, with_taken}
use Rattle.net_laws.specs.Cost.{called_cost, met_cost, some_cost}
use Rattle.plan_layout.specs.declared.layout.BodyLayout.{BodyLayout}
use Rattle.plan_layout.specs.declared.layout.Layout.{Layout}
use Rattle.plan_layout.specs.declared.layout.StatementLayout.{StatementLayout}
use Rattle.plan_layout.specs.Laws.{FlowsSee}
use Rattle.plan_growth.specs.declared.instance.Instance.{Instance}
use Rattle.plan_growth.specs.declared.rule.Rule.{Rule}
use Rattle.plan_growth.specs.declared.rule.Rule.TheVariants as rule
use Rattle.plan_growth.specs.Entering.{Plot}
use Rattle.plan_growth.specs.Keeps.{IsAt, IsInputAt, IsOutputAt}
use Rattle.plan_may.specs.May.{MayCall, MayDo, MayLayer}
use Rattle.plan_may.proofs.Places.{rows_none}
use Rattle.plan_steps.specs.Doing.{asked_count, CalledWith, Field, State, StatementDone, TaskCalled, Called, call_count, statement_count}
use Rattle.scatter_plan.specs.Holding.{IsFew, IsHolding, paid_of, task_cost}
use Rattle.plan_steps.specs.Stepping.{Did, IsWithin, library_in}
use Rattle.plan_steps.specs.Values.{own_env}
use Rattle.scatter_plan.proofs.HoldCalls as calls
use Rattle.scatter_plan.proofs.Holds as holds

-- a statement is what its layer makes of it
rolled : (x y : Statement) (z : Statement-F Statement) → out-Statement x ≡ z → out-Statement y ≡ z → x ≡ y
rolled x y z e f = sym (roll-out-Statement x) ∙ ap roll-Statement (e ∙ sym f) ∙ roll-out-Statement y

field_same : (f g : Field) → f.plot ≡ g.plot → f.faults ≡ g.faults → f.count ≡ g.count → f ≡ g
field_same f g a b c =
    let of : Plot → List Fault → ℕ → Field = λ x y z. record { plot = x; faults = y; count = z } in
    ap (λ x. of x f.faults f.count) a ∙ ap (λ y. of g.plot y f.count) b ∙ ap (λ z. of g.plot g.faults z) c

-- what a call evaluates is within its cost
module _ (checked : Checked) (layout : Layout) (bases : List ℕ) (here : List Segment) (step : ℕ) (line : StatementLayout) where
  asked_within : (args : List Bind) (o : Option TaskDef) → asked_count checked layout [] bases here step line o args ≤ some_cost (λ (y : TaskDef). task_cost y args) o
  asked_within args None = omega arith
  asked_within args (Some y) = omega arith

  count_within : (place : List Segment) (t : Target) (o : Tried (List Bind)) → call_count checked layout [] bases here step line t o ≤ met_cost (called_cost (library_in checked) task_cost (λ c args p. 0) place t) o
  count_within place t (Err e) = omega arith
  count_within place (target.Task k) (Ok args) = asked_within args (slice_get checked.tasks k)
  count_within place (target.Flow k) (Ok args) = omega arith

module _ (see : FlowsSee) (checked : Checked) (layout : Layout) (main : ℕ) (given : List Bind) (site : List ℕ) (rows : List Row) (s : State) (h : IsHolding checked layout main given site rows s) (t : ℕ) (r : Rule)
    (code : slice_get s.field.plot.net.rules t ≡ Some r) (step : Wants) (there : slice_get s.field.plot.net.steps t ≡ Some step) (fresh : step.is_taken ≡ false) (ready : are_set s.field.plot.net.values step.needs ≡ true)
    (may : MayDo (library_in checked) layout s.field.plot.net.values h.growing.growth.rules h.listed h.asked s.field.plot.instances r step.needs) where
  abbrev pub before : State
  before =
      record {
        field = record { plot = record { net = with_taken s.field.plot.net t step; instances = s.field.plot.instances }; faults = s.field.faults; count = s.field.count };
        asks = s.asks;
      }

  abbrev Held : State → ℕ → Type 0
  Held new n = (k : IsHolding checked layout main given site rows new) × (n + paid_of checked layout main given site rows h ≤ paid_of checked layout main given site rows k)

  -- It holds, and what was spent was paid for.
  abbrev pub Pays : State → ℕ → Type 0
  Pays new spent = (k : IsHolding checked layout main given site rows new) × (spent + paid_of checked layout main given site rows h ≤ paid_of checked layout main given site rows k)

  pays : (new : State) (n spent : ℕ) → Held new n → spent ≤ n → Pays new spent
  pays new n spent k le = (k.0, (let e = k.1 in omega (arith, e, le)))

  module _ (i k : ℕ) (same : r ≡ rule.Statement i k) (q : Instance) (body : BodyLayout) (flow : FlowDef) (l : StatementLayout) where
    abbrev Spends : ℕ → Statement-F Statement → Type 0
    Spends spent y = spent ≤ statement_count checked layout [] q.bases q.place t l before y

    abbrev Done : State → Statement-F Statement → Type 0
    Done new y = StatementDone checked layout site q.bases q.place t l before new y

    module _ (x : TCall) (at : IsAt (library_in checked) layout s.field.plot.instances i k q body flow l (stmt.Call x))
        (can : MayCall (library_in checked) layout s.field.plot.net.values h.growing.growth.rules h.listed h.asked q l x) where
      abbrev place : List Segment
      place = q.place ++ segment.Call x.name ∷ []

      abbrev met : Tried (List Bind)
      met = args_met (own_env before.field.plot.net q.bases l.needs) x.args

      abbrev all_cost : ℕ
      all_cost = length x.args + met_cost (called_cost (library_in checked) task_cost (λ c args p. 0) place x.target) met

      none : (attempt : ℕ) → answer_at rows place attempt ≡ None
      none = rows_none rows h.listed h.rowed place can.new

      within : (spent : ℕ) → Spends spent (layer.Call x) → spent ≤ all_cost
      within spent le = let e = count_within checked layout q.bases q.place t l place x.target met in omega (arith, e, le)

      -- what is spent on asking a task
      asking_within : (c : ℕ) → x.target ≡ target.Task c → (y : TaskDef) → slice_get checked.tasks c ≡ Some y → (args : List Bind) → met ≡ Ok args → (spent : ℕ) → Spends spent (layer.Call x) → spent ≤ length x.args + prepare_count y args
      asking_within c is_task y task_there args ok spent le =
          let e : call_count checked layout [] q.bases q.place t l x.target met ≡ prepare_count y args =
          ap (call_count checked layout [] q.bases q.place t l x.target) ok ∙ ap (λ (u : Target). call_count checked layout [] q.bases q.place t l u (Ok args)) is_task
          ∙ ap (λ (o : Option TaskDef). asked_count checked layout [] q.bases q.place t l o args) task_there in
          omega (arith, e, le)

      asked_by : (c : ℕ) → x.target ≡ target.Task c → (y : TaskDef) → slice_get checked.tasks c ≡ Some y → (args : List Bind) → met ≡ Ok args → (o : Tried Asked) → asks_of y args ≡ o → (new : State) → IsFew new → new.field.plot ≡ before.field.plot
          → new.field.count ≡ before.field.count → TaskCalled site place t before.field.faults before.asks new.field.faults new.asks o → (spent : ℕ) → Spends spent (layer.Call x) → Pays new spent
      asked_by c is_task y task_there args ok (Err f) failed new few plot count done spent le =
          pays new all_cost spent (calls.failed_hold checked layout main given site rows s h t r code step there fresh ready i k same q body flow l x at c is_task y task_there args ok new few f failed plot done.0 count done.1) (within spent le)
      asked_by c is_task y task_there args ok (Ok a) asked_ok new few plot count done spent le =
          let field_is : new.field ≡ before.field = field_same new.field before.field plot done.0 count in
          pays new (length x.args + prepare_count y args) spent
          (calls.asked_hold checked layout main given site rows s h t r code step there fresh ready i k same q body flow l x at c is_task y task_there args ok a asked_ok none done.1.0 done.1.1 done.1.2 new few field_is done.1.3)
          (asking_within c is_task y task_there args ok spent le)

      called_by : (u : Target) → x.target ≡ u → (args : List Bind) → met ≡ Ok args → (new : State) → IsFew new → Called checked layout site q.bases q.place t l args place before new u → (spent : ℕ) → Spends spent (layer.Call x) → Pays new spent
      called_by (target.Task c) is_task args ok new few done spent le = asked_by c is_task done.0 done.1 args ok (asks_of done.0 args) refl new few done.2 done.3 done.4 spent le
      called_by (target.Flow c) is_flow args ok new few done spent le =
          let root = h.growing.root in
          let sees = see (library_in checked) root.main root.checked c done.0 done.1 in
          let k = calls.flow_hold checked layout main given site rows s h t r code step there fresh ready i k same q body flow l x at c is_flow done.0 done.1 done.2 done.3 done.4 done.5 sees args ok new few done.6 done.7 in
          let no_cost : all_cost ≡ length x.args + 0 =
          ap (λ (o : Tried (List Bind)). length x.args + met_cost (called_cost (library_in checked) task_cost (λ d bs p. 0) place x.target) o) ok
          ∙ ap (λ (z : Target). length x.args + met_cost (called_cost (library_in checked) task_cost (λ d bs p. 0) place z) (Ok args)) is_flow in
          pays new (length x.args) spent k (let a = within spent le in omega (arith, a, no_cost))

      met_by : (o : Tried (List Bind)) → met ≡ o → (new : State) → IsFew new → CalledWith checked layout site q.bases q.place t l x.target place before new o → (spent : ℕ) → Spends spent (layer.Call x) → Pays new spent
      met_by (Err f) failed new few done spent le =
          pays new all_cost spent (calls.args_hold checked layout main given site rows s h t r code step there fresh ready i k same q body flow l x at new few f failed done.0 done.1) (within spent le)
      met_by (Ok args) ok new few done spent le = called_by x.target refl args ok new few done spent le

      call_pays : (new : State) (few : IsFew new) (spent : ℕ) → Done new (layer.Call x) → Spends spent (layer.Call x) → Pays new spent
      call_pays new few spent done le = met_by met refl new few done spent le

    statement_pays : (x : Statement) (y : Statement-F Statement) → out-Statement x ≡ y → IsAt (library_in checked) layout s.field.plot.instances i k q body flow l x
        → MayLayer (library_in checked) layout s.field.plot.net.values h.growing.growth.rules h.listed h.asked q l y → (new : State) (few : IsFew new) (spent : ℕ) → Done new y → Spends spent y → Pays new spent
    statement_pays x (layer.Decl z) e at can new few spent done le =
        let at_too = subst (IsAt (library_in checked) layout s.field.plot.instances i k q body flow l) (rolled x (stmt.Decl z) (layer.Decl z) e (stmt.outs-Decl z)) at in
        pays new 1 spent (holds.decl_holds checked layout main given site rows s h t r code step there fresh ready new few i k same q body flow l z at_too done.0 done.1) le
    statement_pays x (layer.Call z) e at can new few spent done le =
        let at_too = subst (IsAt (library_in checked) layout s.field.plot.instances i k q body flow l) (rolled x (stmt.Call z) (layer.Call z) e (stmt.outs-Call z)) at in
        call_pays z at_too can new few spent done le
    statement_pays x (layer.Scatter z) e at can new few spent done le =
        let at_too = subst (IsAt (library_in checked) layout s.field.plot.instances i k q body flow l) (rolled x (stmt.Scatter z) (layer.Scatter z) e (stmt.outs-Scatter z)) at in
        pays new 1 spent (holds.scatter_holds checked layout main given site rows s h t r code step there fresh ready i k same q body flow l z at_too done.0 done.1 new few done.2 done.3) le
    statement_pays x (layer.If z) e at can new few spent done le =
        let at_too = subst (IsAt (library_in checked) layout s.field.plot.instances i k q body flow l) (rolled x (stmt.If z) (layer.If z) e (stmt.outs-If z)) at in
        pays new 1 spent (holds.if_holds checked layout main given site rows s h t r code step there fresh ready i k same q body flow l z at_too done.0 done.1 new few done.2 done.3) le

  -- what may be done, by the rule
  abbrev May : Rule → Type 0
  May z = MayDo (library_in checked) layout s.field.plot.net.values h.growing.growth.rules h.listed h.asked s.field.plot.instances z step.needs

  did : (z : Rule) → r ≡ z → May z → (new : State) (few : IsFew new) (spent : ℕ) → Did checked layout site before new t z → IsWithin checked layout before t spent z → Pays new spent
  did (rule.Statement i k) e m new few spent done le =
      let at : IsAt (library_in checked) layout s.field.plot.instances i k m.instance m.body m.flow m.line m.statement = record { of_instance = m.of_instance; line = m.line_there; statement = m.statement_there } in
      statement_pays i k e m.instance m.body m.flow m.line m.statement (out-Statement m.statement) refl at m.can new few spent (done m.instance m.body m.flow m.line m.statement at) (le m.instance m.body m.flow m.line m.statement at)
  did (rule.Input i k) e m new few spent done le =
      let at : IsInputAt (library_in checked) layout s.field.plot.instances i k m.instance m.body m.flow m.flow_layout m.input m.value m.needs =
      record { of_instance = m.of_instance; layout_there = m.layout_there; input = m.input_there; default_is = m.default_is; needs_there = m.needs_there } in
      pays new 1 spent
      (holds.input_holds checked layout main given site rows s h t r code step there fresh ready new few i k e m.instance m.body m.flow m.flow_layout m.input m.value m.needs at
      (done.0 m.instance m.body m.flow m.flow_layout m.input m.value m.needs at) done.1) le
  did (rule.Output i k) e m new few spent done le =
      let at : IsOutputAt (library_in checked) layout s.field.plot.instances i k m.instance m.body m.flow m.flow_layout m.output m.needs =
      record { of_instance = m.of_instance; layout_there = m.layout_there; output = m.output_there; needs_there = m.needs_there } in
      pays new 1 spent
      (holds.output_holds checked layout main given site rows s h t r code step there fresh ready new few i k e m.instance m.body m.flow m.flow_layout m.output m.needs at
      (done.0 m.instance m.body m.flow m.flow_layout m.output m.needs at) done.1) le
  did (rule.Gathers c) e m new few spent done le = pays new 0 spent (holds.gathers_hold checked layout main given site rows s h t r code step there fresh ready new few c e done.0 done.1) le
  did (rule.Ends c) e m new few spent done le = pays new 0 spent (holds.ends_hold checked layout main given site rows s h t r code step there fresh ready new few c e done.0 done.1) le
  did (rule.Copies c) e m new few spent done le = pays new 0 spent (holds.copies_hold checked layout main given site rows s h t r code step there fresh ready new few c e done.0 done.1) le

  pub step_pays : (new : State) (few : IsFew new) (spent : ℕ) → Did checked layout site before new t r → IsWithin checked layout before t spent r → Pays new spent
  step_pays new few spent done le = did r refl may new few spent done le
