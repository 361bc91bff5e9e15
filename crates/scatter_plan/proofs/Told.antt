-- What a plan that was told of rows shows, and what one answer more makes of it.
use Rattle.std.proofs.Common.{◌≡◌, ◌≤◌, ℕ, true, false, cond, List, [], ◌∷◌, ◌++◌, append_assoc, Option, Some, None, Result, Ok, Err, option_and_then, slice_get, arith, sym, ap, ◌∙◌, subst, refl}
use Rattle.wdl_value.specs.declared.env.Bind.{Bind}
use Rattle.wdl_value.specs.Tables.{Row}
use Rattle.wdl_typed.specs.declared.checked.Checked.{Checked}
use Rattle.wdl_typed.specs.declared.flow.FlowDef.{FlowDef}
use Rattle.wdl_typed.specs.Flow.{Flowing, is_clean, too_many}
use Rattle.wdl_task.specs.declared.request.Prepared.{Prepared}
use Rattle.flow_laws.specs.Laws.{run_with}
use Rattle.net_laws.specs.Cost.{flow_cost}
use Rattle.value_net.specs.Nets.{IsSound}
use Rattle.plan_layout.specs.declared.layout.FlowLayout.{FlowLayout}
use Rattle.plan_layout.specs.declared.layout.Layout.{Layout}
use Rattle.plan_steps.specs.declared.asking.Asking.{Asking}
use Rattle.plan_steps.specs.declared.fault.PlanFault.{PlanFault}
use Rattle.plan_steps.specs.declared.fault.PlanFault.TheVariants.{TooMany, NoMemory}
use Rattle.plan_steps.specs.declared.growth.Growth.{Growth}
use Rattle.scatter_plan.specs.declared.plan.Plan.{Plan}
use Rattle.scatter_plan.specs.Answering.{Answered, Settles, TakesAnswer}
use Rattle.plan_steps.specs.Askings.{IsAsking}
use Rattle.scatter_plan.specs.Calls.{Answers, Arrives, IsRenewed}
use Rattle.plan_steps.specs.Doing.{State, state}
use Rattle.scatter_plan.specs.Holding.{IsHolding, task_cost}
use Rattle.scatter_plan.specs.Plans.{IsHeld, IsMade, IsOfFlowing, IsTold, cost_in, cost_with, flow_in, flow_of, flow_with, outputs_with, paid_in}
use Rattle.scatter_plan.specs.Settling.{Begins, Turned, Turns, is_over, main_flow, outputs_when}
use Rattle.plan_steps.specs.Stepping.{library_in}
use Rattle.scatter_plan.proofs.Settled.{few, paid_within, shown_outputs, tells}

-- ---- the flow of the main workflow

flow_is : (c : Checked) (main : ℕ) (given : List Bind) (site : List ℕ) (rows : List Row) → c.main ≡ Some main → flow_with c given site rows ≡ main_flow c main given site rows
unfolding flow_with
flow_is c main given site rows e = ap (λ (m : Option ℕ). flow_in (library_in c) m given site rows) e

cost_is : (c : Checked) (main : ℕ) (given : List Bind) (site : List ℕ) (rows : List Row) → c.main ≡ Some main → cost_with c given site rows ≡ flow_cost (run_with (library_in c) site rows) task_cost 25 main given []
unfolding cost_with
cost_is c main given site rows e = ap (λ (m : Option ℕ). cost_in (library_in c) m given site rows) e

pub many_is : (p : Plan) (rows : List Row) → IsMade p → too_many (main_flow p.origin.checked p.origin.main p.origin.inputs p.origin.site rows) ≡ true → too_many (flow_of p rows) ≡ true
many_is p rows made h = ap too_many (flow_is p.origin.checked p.origin.main p.origin.inputs p.origin.site rows made.main_is) ∙ h

-- ---- what it shows

module _ (p : Plan) (rows : List Row) (made : IsMade p) (held : IsHeld p rows) where
  abbrev c : Checked
  c = p.origin.checked

  abbrev f : Flowing
  f = main_flow c p.origin.main p.origin.inputs p.origin.site rows

  abbrev s : State
  s = state p.begun.growth p.begun.asking

  abbrev h : IsHolding c p.origin.layout p.origin.main p.origin.inputs p.origin.site rows s
  h = held.settled.holding

  same : flow_of p rows ≡ f
  same = flow_is c p.origin.main p.origin.inputs p.origin.site rows made.main_is

  main_there : option_and_then (slice_get c.flows) c.main ≡ Some h.flow
  main_there = ap (λ (m : Option ℕ). option_and_then (slice_get c.flows) m) made.main_is ∙ h.there

  shows_main : IsOfFlowing p rows f
  shows_main =
      let t = tells c p.origin.layout p.origin.main p.origin.inputs p.origin.site rows s held.settled in
      record {
        few = few c p.origin.layout p.origin.main p.origin.inputs p.origin.site rows s held.settled;
        even = t.even;
        ready = t.ready;
        faults = t.faults_are;
        outputs =
            held.outputs ∙ shown_outputs c p.origin.layout p.origin.main p.origin.inputs p.origin.site rows s held.settled
            ∙ ap (λ (o : Option FlowDef). cond (is_clean f) (Some (outputs_with f o)) None) (sym main_there);
      }

  pub told_of : p.spent ≡ false → IsTold p rows
  told_of kept =
      record {
        kept = kept;
        held = held;
        shows = subst (IsOfFlowing p rows) (sym same) shows_main;
        paid = paid_in p rows held;
        pays = refl;
        within =
            subst (λ n. paid_in p rows held ≤ n) (sym (cost_is c p.origin.main p.origin.inputs p.origin.site rows made.main_is))
            (omega (arith, paid_within c p.origin.layout p.origin.main p.origin.inputs p.origin.site rows s held.settled));
      }

-- ---- an answer more

module _ (c : Checked) (layout : Layout) (main : ℕ) (given : List Bind) (site : List ℕ) (rows : List Row) (s : State) (was : IsHolding c layout main given site rows s) (r : Row) where
  pub takes_past : (A : Type 0) (after : State) (old new : ℕ) (e : PlanFault) → TakesAnswer c layout main given site rows {A = A} s was r after old new (Err e) → (last : State) (now : ℕ)
      → Settles c layout main given site rows s was r last old now (Err e)
  takes_past A after old new TooMany h last now = h
  takes_past A after old new NoMemory h last now = tt

  module _ (mid : State) (old between : ℕ) (a : Answered c layout main given site rows s was r mid old between) where
    pub turns_past : (A : Type 0) (after : State) (new : ℕ) (e : PlanFault) → Turns c layout main given site (rows ++ r ∷ []) {A = A} mid a.holding after between new (Err e) → Settles c layout main given site rows s was r after old new (Err e)
    turns_past A after new TooMany h = h
    turns_past A after new NoMemory h = tt

    answers_on : (after : State) (more : List Prepared) → after.asks.ready ≡ mid.asks.ready ++ more → Answers s.asks.ready after.asks.ready r.place r.attempt
    answers_on after more e =
        record {
          one = a.answers.one;
          is_one = a.answers.is_one;
          left = a.answers.left;
          fresh = a.answers.fresh ++ more;
          length = a.answers.length;
          others = a.answers.others;
          ready = e ∙ ap (λ (l : List Prepared). l ++ more) a.answers.ready ∙ append_assoc a.answers.left a.answers.fresh more;
        }

    pub settles : (after : State) (new : ℕ) (o : Option (List Bind)) → Turned c layout main given site (rows ++ r ∷ []) mid a.holding after between new
        → ((f : FlowDef) (l : FlowLayout) → slice_get c.flows main ≡ Some f → slice_get layout.flows main ≡ Some l → o ≡ outputs_when (is_over after) after.field.plot.net.values l.first_output f.outputs)
        → Settles c layout main given site rows s was r after old new (Ok o)
    settles after new o t outputs = (
      record { settled = t.settled; answers = answers_on after t.more t.ready; paid = omega (arith, a.paid, t.paid) },
      outputs t.settled.holding.flow t.settled.holding.line t.settled.holding.there t.settled.holding.line_there,
    )

-- ---- the calls of a plan

abbrev pub plan_with : Plan → Growth → Asking → Option (List Bind) → Plan
plan_with a g q o = record { origin = a.origin; begun = record { growth = g; asking = q; outputs = o }; spent = false }

module _ (a : Plan) (made : IsMade a) (rows : List Row) (was : IsTold a rows) (r : Row) where
  abbrev SettlesBy : State → ℕ → ℕ → Result (Option (List Bind)) PlanFault → Type 0
  SettlesBy after old new result =
      Settles a.origin.checked a.origin.layout a.origin.main a.origin.inputs a.origin.site rows (state a.begun.growth a.begun.asking) was.held.settled.holding r after old new result

  held_after : (g : Growth) (q : Asking) (o : Option (List Bind)) (old new : ℕ) → IsSound g.entered.net → IsAsking q → SettlesBy (state g q) old new (Ok o) → IsHeld (plan_with a g q o) (rows ++ r ∷ [])
  held_after g q o old new sound asking x = record { sound = sound; asking = asking; settled = x.0.settled; outputs = x.1 }

  pub arrived : (g : Growth) (q : Asking) (o : Option (List Bind)) (old new : ℕ) → IsSound g.entered.net → IsAsking q → SettlesBy (state g q) old new (Ok o) → Arrives a rows was r (plan_with a g q o) old new
  unfolding told_of held_after
  arrived g q o old new sound asking x =
      record {
        told = told_of (plan_with a g q o) (rows ++ r ∷ []) made (held_after g q o old new sound asking x) refl;
        paid = omega (arith, x.0.paid, was.pays);
        answers = x.0.answers;
      }

  pub many_arrived : (A : Type 0) (after : State) (old new : ℕ) (e : PlanFault) → SettlesBy after old new (Err e) → ◌≡◌ {A = Result A PlanFault} (Err e) (Err TooMany) → too_many (flow_of a (rows ++ r ∷ [])) ≡ true
  many_arrived A after old new TooMany h same = many_is a (rows ++ r ∷ []) made h
  many_arrived A after old new NoMemory h same = cc

pub renewed : (p : Plan) (made : IsMade p) → p.spent ≡ false → (old new : ℕ) → Begins p.origin.checked p.origin.layout p.origin.main p.origin.inputs p.origin.site old new (Ok p.begun) → IsRenewed [] old new p
unfolding told_of
renewed p made kept old new b = record { told = told_of p [] made b.over kept; paid = omega (arith, b.within) }

pub past_back : (c : Checked) (layout : Layout) (main : ℕ) (given : List Bind) (site : List ℕ) (old new : ℕ) (e : PlanFault) → c.main ≡ Some main → e ≡ TooMany → Begins c layout main given site old new (Err e)
    → too_many (flow_with c given site []) ≡ true
past_back c layout main given site old new e main_is past b =
    ap too_many (flow_is c main given site [] main_is) ∙ subst (λ (x : PlanFault). Begins c layout main given site old new (Err x)) past b
