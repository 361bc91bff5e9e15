-- What holds of a plan while its steps are done.
use Rattle.std.proofs.Common.{◌≡◌, ℕ, ◌+◌, ◌-◌, ◌≤◌, true, List, [], ◌++◌, append-nil, append_assoc, Option, Some, None, Result, Err, slice_get, sym, ap, ◌∙◌, subst, arith}
use Rattle.wdl_value.specs.declared.env.Bind.{Bind}
use Rattle.wdl_value.specs.Tables.{Row}
use Rattle.wdl_typed.specs.declared.checked.Checked.{Checked}
use Rattle.wdl_task.specs.declared.request.Prepared.{Prepared}
use Rattle.wdl_typed.specs.Flow.{too_many}
use Rattle.value_net.specs.Nets.{AllStuck, IsSound, IsTaken, Popped, view}
use Rattle.plan_layout.specs.declared.layout.Layout.{Layout}
use Rattle.plan_layout.specs.Laws.{FlowsSee}
use Rattle.plan_growth.specs.declared.rule.Rule.{Rule}
use Rattle.plan_growth.specs.Entering.{Sown}
use Rattle.plan_may.proofs.Steps as may
use Rattle.plan_steps.specs.declared.asking.Asking.{Asking}
use Rattle.plan_steps.specs.declared.fault.PlanFault.{PlanFault}
use Rattle.plan_steps.specs.declared.fault.PlanFault.TheVariants.{TooMany, NoMemory}
use Rattle.plan_steps.specs.declared.growth.Growth.{Growth}
use Rattle.plan_steps.specs.Askings.{IsAsking}
use Rattle.plan_steps.specs.Doing.{State, state}
use Rattle.scatter_plan.specs.Holding.{IsHolding, paid_of}
use Rattle.plan_steps.specs.Passes.{Passes}
use Rattle.scatter_plan.specs.Settling.{Turned, main_flow}
use Rattle.plan_steps.specs.Stepping.{Did, IsPastStep, IsWithin, library_in}
use Rattle.scatter_plan.proofs.HoldMany.{past_many}
use Rattle.scatter_plan.proofs.HoldReady.{readies}
use Rattle.scatter_plan.proofs.Turns as turns
use Rattle.wdl_base.proofs.Options.{item_there}

module _ (checked : Checked) (layout : Layout) (main : ℕ) (given : List Bind) (site : List ℕ) (rows : List Row) (s : State) (h : IsHolding checked layout main given site rows s) (t : ℕ) (net : Sown) (taken : IsTaken s.field.plot.net t net) where
  abbrev with : Sown → State
  with u = record { field = record { plot = record { net = u; instances = s.field.plot.instances }; faults = s.field.faults; count = s.field.count }; asks = s.asks }

  abbrev Many : Type 0
  Many = too_many (main_flow checked main given site rows) ≡ true

  -- past a limit, the workflow has too many
  is_many : FlowsSee → (r : Rule) → slice_get net.rules t ≡ Some r → IsPastStep checked layout (with net) t r → Many
  is_many see =
      subst (λ (u : Sown). (r : Rule) → slice_get u.rules t ≡ Some r → IsPastStep checked layout (with u) t r → Many) (sym taken.now) (λ r code past.
      past_many see checked layout main given site rows s h t r code taken.step taken.there taken.fresh taken.ready
      (may.steps (library_in checked) layout site rows 24 _ s.field.plot.net s.field.plot.instances h.listed h.asked h.paid_by h.inputs_given h.growing t r taken.step code taken.there taken.fresh taken.ready) past)

-- so many evaluations are paid for, and what waited before waits still
pub record Goes (checked : Checked) (layout : Layout) (main : ℕ) (given : List Bind) (site : List ℕ) (rows : List Row) (first : State) (h : IsHolding checked layout main given site rows first) (old new : ℕ) (now : State) : Type 0 where
  pub holding : IsHolding checked layout main given site rows now
  pub more : List Prepared
  pub ready : now.asks.ready ≡ first.asks.ready ++ more
  pub paid : new + paid_of checked layout main given site rows h ≤ old + paid_of checked layout main given site rows holding

pub record IsTurning (checked : Checked) (layout : Layout) (site : List ℕ) (first : State) (old : ℕ) (g : Growth) (q : Asking) (new : ℕ) : Type 0 where
  pub sound : IsSound g.entered.net
  pub asking : IsAsking q
  pub holds : (main : ℕ) (given : List Bind) (rows : List Row) (h : IsHolding checked layout main given site rows first) → Goes checked layout main given site rows first h old new (state g q)

pub begins : (checked : Checked) (layout : Layout) (site : List ℕ) (n : ℕ) (g : Growth) (q : Asking) → IsSound g.entered.net → IsAsking q → IsTurning checked layout site (state g q) n g q n
begins checked layout site n g q sound asking =
    record { sound = sound; asking = asking; holds = λ main given rows h. record { holding = h; more = []; ready = sym (append-nil q.ready.items); paid = omega arith } }

pub taken_of : (o : Option ℕ) (t : ℕ) (old new : Sown) → o ≡ Some t → Popped old o new → IsTaken old t new
taken_of o t old new e p = subst (λ (z : Option ℕ). Popped old z new) e p

pub none_of : (o : Option ℕ) (old new : Sown) → o ≡ None → Popped old o new → (new ≡ old) × AllStuck old
none_of o old new e p = subst (λ (z : Option ℕ). Popped old z new) e p

module _ (checked : Checked) (layout : Layout) (site : List ℕ) (first : State) (old : ℕ) (g : Growth) (q : Asking) (n : ℕ) (i : IsTurning checked layout site first old g q n) where
  abbrev pub now : Sown → State
  now net = record { field = record { plot = record { net = net; instances = g.entered.instances }; faults = g.faults; count = g.count }; asks = (state g q).asks }

  -- ---- one step more

  module _ (t : ℕ) (net : Sown) (taken : IsTaken (view g.entered.net) t net) where
    pub next : FlowsSee → (h : Growth) (p : Asking) (m : ℕ) → ((r : Rule) → slice_get net.rules t ≡ Some r → Did checked layout site (now net) (state h p) t r)
        → ((r : Rule) → slice_get net.rules t ≡ Some r → IsWithin checked layout (now net) t (m - n) r) → IsSound h.entered.net → IsAsking p → h.count ≤ 1000000 → (q.jobs ≤ 20000 → p.jobs ≤ 20000)
        → IsTurning checked layout site first old h p m
    next see h p m done within sound asking count jobs =
        record {
          sound = sound;
          asking = asking;
          holds = λ main given rows first_holds.
              let k = i.holds main given rows first_holds in
              let r = item_there net.rules t (turns.rule_there checked layout main given site rows (state g q) k.holding t net taken) in
              let j = turns.goes checked layout main given site rows (state g q) k.holding t net taken see r.0 r.1 (state h p) (count, jobs k.holding.few_jobs) (m - n) (done r.0 r.1) (within r.0 r.1) in
              let can = turns.can checked layout main given site rows (state g q) k.holding t net taken r.0 r.1 in
              let more = readies checked layout site (now net) t r.0 can (state h p) (done r.0 r.1) in
              record {
                holding = j.0;
                more = k.more ++ more.0;
                ready = more.1 ∙ ap (λ ps. ps ++ more.0) k.ready ∙ append_assoc first.asks.ready k.more more.0;
                paid = (let a = k.paid in let b = j.1 in omega (arith, a, b));
              };
        }

    -- ---- too many

    pub past : FlowsSee → (e : PlanFault) → ((r : Rule) → slice_get net.rules t ≡ Some r → Passes ⊥ (IsPastStep checked layout (now net) t r) (let o : Result ℕ PlanFault = Err e in o)) → (main : ℕ) (given : List Bind) (rows : List Row)
        → IsHolding checked layout main given site rows first → Passes ⊥ (too_many (main_flow checked main given site rows) ≡ true) (let o : Result ℕ PlanFault = Err e in o)
    past see NoMemory done main given rows h = tt
    past see TooMany done main given rows h =
        let k = i.holds main given rows h in
        let r = item_there net.rules t (turns.rule_there checked layout main given site rows (state g q) k.holding t net taken) in
        is_many checked layout main given site rows (state g q) k.holding t net taken see r.0 r.1 (done r.0 r.1)

  -- ---- the end

  pub ends : (net : Sown) → net ≡ view g.entered.net → AllStuck (view g.entered.net) → (main : ℕ) (given : List Bind) (rows : List Row) (h : IsHolding checked layout main given site rows first)
      → Turned checked layout main given site rows first h (now net) old n
  ends net same stuck main given rows h =
      let k = i.holds main given rows h in
      subst (λ (u : Sown). Turned checked layout main given site rows first h (now u) old n) (sym same) (record { settled = record { holding = k.holding; stuck = stuck }; more = k.more; ready = k.ready; paid = k.paid })
