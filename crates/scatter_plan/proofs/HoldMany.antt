-- Past a limit, the whole workflow has too many jobs, or too many instances of statements.
use Rattle.std.proofs.Common.{◌≡◌, ℕ, ◌+◌, ◌*◌, ◌<◌, ◌≤◌, nat_lt, Bool, true, false, ◌||◌, List, [], ◌∷◌, ◌++◌, length, cond, Some, None, Ok, Err, slice_get, sym, ap, ◌∙◌, subst, refl, arith}
use Rattle.std.proofs.lemmas.Bool.{lt-ltb, or_left, or_right}
use Rattle.std.proofs.lemmas.List.Sums.{sum_by-append}
use Rattle.wdl_base.specs.declared.place.Segment.{Segment}
use Rattle.wdl_base.specs.declared.place.Segment.TheVariants as segment
use Rattle.wdl_value.specs.declared.env.Bind.{Bind}
use Rattle.wdl_value.specs.declared.value.Value.{Value}
use Rattle.wdl_value.specs.Outcome.{Outcome}
use Rattle.wdl_value.specs.Parts.{bool_in, items_in}
use Rattle.wdl_value.specs.Tables.{Row, answer_at}
use Rattle.wdl_typed.specs.declared.checked.Checked.{Checked}
use Rattle.wdl_typed.specs.declared.flow.FlowDef.{FlowDef}
use Rattle.wdl_typed.specs.declared.flow.Statement.{Statement, Statement-F, out-Statement, roll-Statement, roll-out-Statement}
use Rattle.wdl_typed.specs.declared.flow.Statement.TheOpen as layer
use Rattle.wdl_typed.specs.declared.flow.Statement.TheVariants as stmt
use Rattle.wdl_typed.specs.declared.flow.Target.{Target}
use Rattle.wdl_typed.specs.declared.flow.Target.TheVariants as target
use Rattle.wdl_typed.specs.declared.flow.TCall.{TCall}
use Rattle.wdl_typed.specs.declared.flow.TIf.{TIf}
use Rattle.wdl_typed.specs.declared.flow.TScatter.{TScatter}
use Rattle.wdl_typed.specs.Bodies.{Library}
use Rattle.wdl_typed.specs.Flow.{args_met, flow, too_many}
use Rattle.wdl_typed.specs.Requests.{Tried}
use Rattle.wdl_task.specs.declared.request.Prepared.{Prepared}
use Rattle.flow_laws.specs.Laws.{run_with}
use Rattle.step_net.specs.Views.{Wants}
use Rattle.value_net.specs.Nets.{are_set, with_taken}
use Rattle.net_laws.specs.Growing.{Form, whole}
use Rattle.net_laws.specs.Moving.{IsWeight}
use Rattle.net_laws.specs.Net.{Work, both_works, no_work}
use Rattle.net_laws.specs.Planned.{counted}
use Rattle.net_laws.specs.Works.{work_of}
use Rattle.plan_moves.specs.Sheets.{rules_of, state_of}
use Rattle.plan_lists.specs.Lists.{any_job, jobs_in}
use Rattle.plan_lists.proofs.Ends.{too_many_now}
use Rattle.plan_lists.proofs.Steps as listing
use Rattle.plan_lists.proofs.Weights.{count_weighs, jobs_weigh}
use Rattle.plan_layout.specs.declared.layout.BodyLayout.{BodyLayout}
use Rattle.plan_layout.specs.declared.layout.Layout.{Layout}
use Rattle.plan_layout.specs.declared.layout.StatementLayout.{StatementLayout}
use Rattle.plan_layout.specs.Laws.{FlowsSee}
use Rattle.plan_growth.specs.declared.instance.Instance.{Instance}
use Rattle.plan_growth.specs.declared.rule.Rule.{Rule}
use Rattle.plan_growth.specs.declared.rule.Rule.TheVariants as rule
use Rattle.plan_growth.specs.Blocks.{with_call, with_condition, with_scatter}
use Rattle.plan_growth.specs.Entering.{Sown}
use Rattle.plan_growth.specs.Growth.{AskedCall, IsGrowing, sheet_of}
use Rattle.plan_growth.specs.Keeps.{IsAt, asked_first}
use Rattle.plan_growth.proofs.Blocking as blocking
use Rattle.plan_growth.proofs.Calling as calling
use Rattle.plan_may.specs.May.{MayCall, MayDo, MayLayer}
use Rattle.plan_may.proofs.Places.{rows_none}
use Rattle.plan_bodies.specs.Bases.{last_base}
use Rattle.plan_steps.specs.Doing.{IsPastCall, IsPastChoice, IsPastCondition, IsPastScatter, IsPastStatement, IsPastWith, State}
use Rattle.scatter_plan.specs.Holding.{IsHolding, passes, waiting}
use Rattle.plan_steps.specs.Stepping.{IsPastStep, library_in}
use Rattle.plan_steps.specs.Values.{own_env, own_value}

all_wait : (ready : List Prepared) → waiting ready any_job ≡ length ready
all_wait [] = refl
all_wait (p ∷ ps) = let e = sum_by-append (λ (z : Prepared). cond (passes any_job z) 1 0) (p ∷ []) ps in let f = all_wait ps in omega (arith, e, f)

-- a statement is what its layer makes of it
rolled : (x y : Statement) (z : Statement-F Statement) → out-Statement x ≡ z → out-Statement y ≡ z → x ≡ y
rolled x y z e f = sym (roll-out-Statement x) ∙ ap roll-Statement (e ∙ sym f) ∙ roll-out-Statement y

module _ (see : FlowsSee) (checked : Checked) (layout : Layout) (main : ℕ) (given : List Bind) (site : List ℕ) (rows : List Row) (s : State) (h : IsHolding checked layout main given site rows s) (t : ℕ) (r : Rule)
    (code : slice_get s.field.plot.net.rules t ≡ Some r) (step : Wants) (there : slice_get s.field.plot.net.steps t ≡ Some step) (fresh : step.is_taken ≡ false) (ready : are_set s.field.plot.net.values step.needs ≡ true)
    (may : MayDo (library_in checked) layout s.field.plot.net.values h.growing.growth.rules h.listed h.asked s.field.plot.instances r step.needs) where
  abbrev lib : Library
  lib = library_in checked

  abbrev form : Form
  form = whole h.flow given [] h.names h.dones

  abbrev v : Sown
  v = s.field.plot.net

  abbrev is : List Instance
  is = s.field.plot.instances

  abbrev w : Sown
  w = with_taken v t step

  abbrev before : State
  before = record { field = record { plot = record { net = w; instances = is }; faults = s.field.faults; count = s.field.count }; asks = s.asks }

  abbrev Past : Type 0
  Past = too_many (flow (run_with lib site rows) 25 main given []) ≡ true

  abbrev Grown : Sown → List Instance → Work → List AskedCall → Type 0
  Grown net js work asked = IsGrowing lib layout site rows 24 form net js work asked h.paid_by

  abbrev later : Work → Work
  later added = both_works h.listed added

  lists : (added : Work) (weight : Work → ℕ) → IsWeight weight → weight (later added) ≡ weight h.listed + weight added
  lists added weight is_weight = is_weight.both h.listed added h.even

  past_by : (net : Sown) (js : List Instance) (work : Work) (asked : List AskedCall) → Grown net js work asked → nat_lt 20000 (jobs_in work any_job) || nat_lt 1000000 work.count ≡ true → Past
  past_by net js work asked g bound =
      let b = sheet_of net g.growth.rules in
      too_many_now lib site rows b g.growth.owners 24 main h.flow h.there given [] h.names h.dones g.growth.grown (jobs_in work) work.faults work.count
      (listing.works (work_of lib site rows (rules_of b) (state_of b g.growth.owners) g.growth.grown) work g.weighs) bound

  past_count : (net : Sown) (js : List Instance) (n : ℕ) → Grown net js (later (counted n no_work)) h.asked → 1000000 < s.field.count + n → Past
  past_count net js n g past =
      let work = later (counted n no_work) in
      let a = lists (counted n no_work) (λ (u : Work). u.count) count_weighs in
      let b = h.lists.count_is in
      past_by net js work h.asked g (or_right (nat_lt 20000 (jobs_in work any_job)) (nat_lt 1000000 work.count) (lt-ltb 1000000 work.count (omega (arith, a, b, past))))

  past_jobs : (net : Sown) (js : List Instance) (added : Work) (asked : List AskedCall) → jobs_in added any_job ≡ 1 → Grown net js (later added) asked → 20000 ≤ s.asks.jobs → Past
  past_jobs net js added asked one g past =
      let work = later added in
      let a = lists added (λ (u : Work). jobs_in u any_job) (jobs_weigh any_job) in
      let b = h.lists.jobs_are any_job in
      let c = all_wait s.asks.ready in
      let d = h.jobs in
      past_by net js work asked g (or_left (nat_lt 20000 (jobs_in work any_job)) (nat_lt 1000000 work.count) (lt-ltb 20000 (jobs_in work any_job) (omega (arith, a, b, c, d, one, past))))

  module _ (i k : ℕ) (same : r ≡ rule.Statement i k) (q : Instance) (body : BodyLayout) (flow : FlowDef) (l : StatementLayout) where
    abbrev At : Statement → Type 0
    At x = IsAt lib layout is i k q body flow l x

    scatter_past : (x : TScatter Statement) → At (stmt.Scatter x) → (inner : BodyLayout) → slice_get layout.bodies l.inner ≡ Some inner → (o : Outcome Value) → own_value w q.bases l.needs x.over ≡ o → IsPastScatter inner before.field o → Past
    scatter_past x at inner inner_there (Ok y) value past =
        let n = length (items_in y) * length inner.statements in
        let p = with_scatter q.bases (q.place ++ segment.Scatter x.number ∷ []) inner l (last_base q.bases) (items_in y) before.field.plot in
        past_count p.net p.instances n
        (blocking.scatter_goes lib layout site rows 24 form v is h.listed h.asked h.paid_by h.growing t r code step there fresh ready i k same q body flow l x at inner inner_there y value (later (counted n no_work))
        (lists (counted n no_work)) h.paid_by (λ task. omega arith)) past
    scatter_past x at inner inner_there (Err c) value past = absurd past

    choice_past : (x : TIf Statement) → At (stmt.If x) → (inner : BodyLayout) → slice_get layout.bodies l.inner ≡ Some inner → (y : Value) → own_value w q.bases l.needs x.cond ≡ Ok y → (b : Bool) → bool_in y ≡ b → IsPastChoice inner before.field b → Past
    choice_past x at inner inner_there y value true on past =
        let n = length inner.statements in
        let p = with_condition q.bases (q.place ++ segment.If x.number ∷ []) inner l (last_base q.bases) before.field.plot in
        past_count p.net p.instances n
        (blocking.if_on lib layout site rows 24 form v is h.listed h.asked h.paid_by h.growing t r code step there fresh ready i k same q body flow l x at inner inner_there y value on (later (counted n no_work))
        (lists (counted n no_work)) h.paid_by (λ task. omega arith)) past
    choice_past x at inner inner_there y value false on past = absurd past

    if_past : (x : TIf Statement) → At (stmt.If x) → (inner : BodyLayout) → slice_get layout.bodies l.inner ≡ Some inner → (o : Outcome Value) → own_value w q.bases l.needs x.cond ≡ o → IsPastCondition inner before.field o → Past
    if_past x at inner inner_there (Ok y) value past = choice_past x at inner inner_there y value (bool_in y) refl past
    if_past x at inner inner_there (Err c) value past = absurd past

    module _ (x : TCall) (at : At (stmt.Call x)) (can : MayCall lib layout v.values h.growing.growth.rules h.listed h.asked q l x) where
      abbrev place : List Segment
      place = q.place ++ segment.Call x.name ∷ []

      abbrev met : Tried (List Bind)
      met = args_met (own_env w q.bases l.needs) x.args

      none : (attempt : ℕ) → answer_at rows place attempt ≡ None
      none = rows_none rows h.listed h.rowed place can.new

      call_past : (u : Target) → x.target ≡ u → (args : List Bind) → met ≡ Ok args → IsPastCall checked layout [] q.bases q.place t l args before u → Past
      call_past (target.Task c) is_task args ok past =
          past_jobs w is (asked_first site place past.2) (h.asked ++ record { step = t; place = place; task = past.0; args = args } ∷ []) refl
          (calling.task_asked lib layout site rows 24 form v is h.listed h.asked h.paid_by h.growing t r code step there fresh ready i k same q body flow l x at c is_task past.0 past.1 args ok past.2 past.3 (none 0)
          (later (asked_first site place past.2)) (lists (asked_first site place past.2)) h.paid_by (λ task. omega arith)) past.4
      call_past (target.Flow c) is_flow args ok past =
          let root = h.growing.root in
          let f = past.0 in
          let n = length f.body in
          let sees = see lib root.main root.checked c f past.1 in
          let z = h.growing.laid.flows c f past.1 in
          let p = with_call f args place z.layout z.laid.body l (last_base q.bases) before.field.plot in
          past_count p.net p.instances n
          (calling.flow_goes lib layout site rows 24 form v is h.listed h.asked h.paid_by h.growing t r code step there fresh ready i k same q body flow l x at c is_flow f past.1 z.layout z.there z.laid.body z.laid.there sees args ok
          (later (counted n no_work)) (lists (counted n no_work)) h.paid_by (λ task. omega arith)) past.2

      met_past : (o : Tried (List Bind)) → met ≡ o → IsPastWith checked layout [] q.bases q.place t l x.target before o → Past
      met_past (Ok args) ok past = call_past x.target refl args ok past
      met_past (Err f) failed past = absurd past

    statement_past : (x : Statement) (y : Statement-F Statement) → out-Statement x ≡ y → At x → MayLayer lib layout v.values h.growing.growth.rules h.listed h.asked q l y → IsPastStatement checked layout [] q.bases q.place t l before y → Past
    statement_past x (layer.Decl z) e at can past = absurd past
    statement_past x (layer.Call z) e at can past = met_past z (subst At (rolled x (stmt.Call z) (layer.Call z) e (stmt.outs-Call z)) at) can (args_met (own_env w q.bases l.needs) z.args) refl past
    statement_past x (layer.Scatter z) e at can past = scatter_past z (subst At (rolled x (stmt.Scatter z) (layer.Scatter z) e (stmt.outs-Scatter z)) at) past.0 past.1 (own_value w q.bases l.needs z.over) refl past.2
    statement_past x (layer.If z) e at can past = if_past z (subst At (rolled x (stmt.If z) (layer.If z) e (stmt.outs-If z)) at) past.0 past.1 (own_value w q.bases l.needs z.cond) refl past.2

  by_rule : (z : Rule) → r ≡ z → MayDo lib layout v.values h.growing.growth.rules h.listed h.asked is z step.needs → IsPastStep checked layout before t z → Past
  by_rule (rule.Statement i k) e m past =
      let at : IsAt lib layout is i k m.instance m.body m.flow m.line m.statement = record { of_instance = m.of_instance; line = m.line_there; statement = m.statement_there } in
      statement_past i k e m.instance m.body m.flow m.line m.statement (out-Statement m.statement) refl at m.can (past m.instance m.body m.flow m.line m.statement at)
  by_rule (rule.Input i k) e m past = absurd past
  by_rule (rule.Output i k) e m past = absurd past
  by_rule (rule.Gathers c) e m past = absurd past
  by_rule (rule.Ends c) e m past = absurd past
  by_rule (rule.Copies c) e m past = absurd past

  -- Where the step is past a limit, so is the workflow.
  pub past_many : IsPastStep checked layout before t r → Past
  past_many past = by_rule r refl may past
