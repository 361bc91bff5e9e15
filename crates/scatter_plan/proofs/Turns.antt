-- A step that was handed out may be done, and what it made of the plan holds.
use Rattle.std.proofs.Common.{◌≡◌, ℕ, ◌+◌, ◌<◌, ◌≤◌, true, false, length-set, List, [], ◌∷◌, ◌++◌, length, Some, slice_get, sym, ap, ◌∙◌, subst, arith}
use Rattle.std.proofs.lemmas.Option.{slice_get_within}
use Rattle.wdl_base.specs.declared.place.Segment.{Segment}
use Rattle.wdl_base.specs.declared.place.Segment.TheVariants as segment
use Rattle.wdl_value.specs.declared.env.Bind.{Bind}
use Rattle.wdl_value.specs.Tables.{Row}
use Rattle.wdl_typed.specs.declared.checked.Checked.{Checked}
use Rattle.wdl_typed.specs.declared.flow.Statement.{Statement, Statement-F, out-Statement}
use Rattle.wdl_typed.specs.declared.flow.Statement.TheOpen as layer
use Rattle.wdl_typed.specs.declared.flow.Target.{Target}
use Rattle.wdl_typed.specs.declared.flow.Target.TheVariants as target
use Rattle.step_net.specs.Views.{Wants}
use Rattle.value_net.specs.Nets.{IsTaken, are_set, with_taken}
use Rattle.plan_lists.specs.Lists.{jobs_in}
use Rattle.plan_layout.specs.declared.layout.Layout.{Layout}
use Rattle.plan_layout.specs.Laws.{FlowsSee}
use Rattle.plan_layout.specs.declared.layout.StatementLayout.{StatementLayout}
use Rattle.plan_growth.specs.declared.instance.Instance.{Instance}
use Rattle.plan_growth.specs.declared.rule.Rule.{Rule}
use Rattle.plan_growth.specs.declared.rule.Rule.TheVariants as rule
use Rattle.plan_growth.specs.Entering.{Sown}
use Rattle.plan_growth.proofs.Lists.{get_set}
use Rattle.plan_may.specs.May.{MayDo, MayLayer, MayRun, at_place}
use Rattle.plan_may.proofs.Steps as may
use Rattle.plan_steps.specs.Askings.{IsNew}
use Rattle.plan_steps.specs.Doing.{CanCall, CanStatement, State}
use Rattle.scatter_plan.specs.Holding.{IsFew, IsHolding, paid_of}
use Rattle.plan_bodies.specs.Joined.{needs_at, needs_in}
use Rattle.plan_steps.specs.Stepping.{CanTake, Did, IsWithin, library_in}
use Rattle.scatter_plan.proofs.HoldSteps.{step_pays}

module _ (checked : Checked) (layout : Layout) (main : ℕ) (given : List Bind) (site : List ℕ) (rows : List Row) (s : State) (h : IsHolding checked layout main given site rows s) (t : ℕ) where
  abbrev v : Sown
  v = s.field.plot.net

  abbrev pub with : Sown → State
  with net = record { field = record { plot = record { net = net; instances = s.field.plot.instances }; faults = s.field.faults; count = s.field.count }; asks = s.asks }

  module _ (step : Wants) (there : slice_get v.steps t ≡ Some step) (fresh : step.is_taken ≡ false) (ready : are_set v.values step.needs ≡ true) where
    abbrev w : Sown
    w = with_taken v t step

    needs_are : needs_at w t ≡ step.needs
    needs_are = ap needs_in (get_set v.steps t (record { needs = step.needs; is_taken = true }) (slice_get_within v.steps t step there))

    all_set : are_set v.values (needs_at w t) ≡ true
    all_set = ap (are_set v.values) needs_are ∙ ready

    abbrev May : Rule → Type 0
    May r = MayDo (library_in checked) layout v.values h.growing.growth.rules h.listed h.asked s.field.plot.instances r step.needs

    may_do : (r : Rule) → slice_get v.rules t ≡ Some r → May r
    may_do r code = may.steps (library_in checked) layout site rows 24 _ v s.field.plot.instances h.listed h.asked h.paid_by h.inputs_given h.growing t r step code there fresh ready

    is_new : (place : List Segment) → jobs_in h.listed (at_place place) ≡ 0 → IsNew s.asks.calls place
    is_new place none i c at same = let e = h.called i c at in let z = ap (λ p. jobs_in h.listed (at_place p)) same in absurd (omega (arith, e, z, none))

    module _ (q : Instance) (l : StatementLayout) where
      can_run : (args : List Bind) (place : List Segment) → jobs_in h.listed (at_place place) ≡ 0 → (u : Target) → MayRun (library_in checked) layout v.values h.growing.growth.rules h.listed h.asked l u args
          → CanCall checked layout [] q.bases q.place 0 l (with w) args place u
      can_run args place none (target.Task k) m = (m.task, m.there, m.kept, is_new place none)
      can_run args place none (target.Flow k) m = (m.flow, m.there, m.laid, m.laid_there, m.body, m.body_there, m.room, m.names)

      can_layer : (y : Statement-F Statement) → MayLayer (library_in checked) layout v.values h.growing.growth.rules h.listed h.asked q l y → CanStatement checked layout [] q.bases q.place 0 l (with w) y
      can_layer (layer.Decl x) m = m
      can_layer (layer.Call x) m = (m.args, λ args ok. can_run args (q.place ++ segment.Call x.name ∷ []) m.new x.target (m.run args ok))
      can_layer (layer.Scatter x) m = (m.inner, m.there, m.some, m.room, m.within, m.ready)
      can_layer (layer.If x) m = (m.inner, m.there, m.room, m.within, m.ready)

    can_take : (r : Rule) → May r → CanTake checked layout (with w) t r
    can_take (rule.Statement i k) m =
        record {
          instance = m.instance;
          body = m.body;
          flow = m.flow;
          line = m.line;
          statement = m.statement;
          here = record { of_instance = m.of_instance; line = m.line_there; statement = m.statement_there };
          stand = record { some = m.some; reached = m.reached; runs = m.runs; can = can_layer m.instance m.line (out-Statement m.statement) m.can };
        }
    can_take (rule.Input i k) m =
        record {
          instance = m.instance;
          body = m.body;
          flow = m.flow;
          line = m.flow_layout;
          input = m.input;
          value = m.value;
          needs = m.needs;
          here = record { of_instance = m.of_instance; layout_there = m.layout_there; input = m.input_there; default_is = m.default_is; needs_there = m.needs_there };
          can = record { some = m.may.some; cell = m.may.within; reached = m.may.reached; ready = m.may.ready };
        }
    can_take (rule.Output i k) m =
        record {
          instance = m.instance;
          body = m.body;
          flow = m.flow;
          line = m.flow_layout;
          output = m.output;
          needs = m.needs;
          here = record { of_instance = m.of_instance; layout_there = m.layout_there; output = m.output_there; needs_there = m.needs_there };
          can = record { some = m.may.some; cell = m.may.within; reached = m.may.reached; ready = m.may.ready };
        }
    can_take (rule.Gathers c) m = record { cell = m; set = all_set }
    can_take (rule.Ends c) m = record { cell = m; set = all_set }
    can_take (rule.Copies c) m = (record { cell = m.0; set = all_set }, (let e = ap length (needs_are ∙ m.2) in omega (arith, e)))

  -- ---- a step that was handed out

  module _ (net : Sown) (taken : IsTaken v t net) where
    pub step_there : t < length net.steps
    step_there = (let a = slice_get_within v.steps t taken.step taken.there in let b = ap (λ (u : Sown). length u.steps) taken.now in let d = length-set v.steps t (record { needs = taken.step.needs; is_taken = true }) in omega (arith, a, b, d))

    pub rule_there : t < length net.rules
    rule_there = (let a = slice_get_within v.steps t taken.step taken.there in let b = ap (λ (u : Sown). length u.rules) taken.now in let d = h.growing.even.codes in omega (arith, a, b, d))

    pub can : (r : Rule) → slice_get net.rules t ≡ Some r → CanTake checked layout (with net) t r
    can =
        subst (λ (u : Sown). (r : Rule) → slice_get u.rules t ≡ Some r → CanTake checked layout (with u) t r) (sym taken.now)
        (λ r code. can_take taken.step taken.there taken.fresh taken.ready r (may_do taken.step taken.there taken.fresh taken.ready r code))

    pub goes : FlowsSee → (r : Rule) → slice_get net.rules t ≡ Some r → (new : State) → IsFew new → (spent : ℕ) → Did checked layout site (with net) new t r → IsWithin checked layout (with net) t spent r
        → (k : IsHolding checked layout main given site rows new) × (spent + paid_of checked layout main given site rows h ≤ paid_of checked layout main given site rows k)
    goes see =
        subst (λ (u : Sown). (r : Rule) → slice_get u.rules t ≡ Some r → (new : State) → IsFew new → (spent : ℕ) → Did checked layout site (with u) new t r → IsWithin checked layout (with u) t spent r
        → (k : IsHolding checked layout main given site rows new) × (spent + paid_of checked layout main given site rows h ≤ paid_of checked layout main given site rows k)) (sym taken.now) (λ r code new few spent did within.
        step_pays see checked layout main given site rows s h t r code taken.step taken.there taken.fresh taken.ready (may_do taken.step taken.there taken.fresh taken.ready r code) new few spent did within)
