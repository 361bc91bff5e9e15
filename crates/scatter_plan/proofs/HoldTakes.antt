-- What an answer makes of the state is what the plan takes of it.
use Rattle.std.proofs.Common.{◌≡◌, ℕ, suc, ◌+◌, ◌-◌, ◌≤◌, Bool, true, false, ◌||◌, ◌==◌, List, [], ◌∷◌, ◌++◌, length, Some, Result, Ok, Err, OnOk, slice_get, sym, ◌∙◌, subst, refl, arith}
use Rattle.std.specs.List.{list_any}
use Rattle.std.proofs.lemmas.Bool.{and_from, and_parts, false≢true}
use Rattle.std.proofs.lemmas.Bool.Decides.{Decides-eqb}
use Rattle.wdl_base.specs.declared.answer.Answer.{Answer}
use Rattle.wdl_base.specs.declared.place.Segment.{Segment}
use Rattle.wdl_base.specs.Same.{same_place}
use Rattle.wdl_value.specs.declared.env.Bind.{Bind}
use Rattle.wdl_value.specs.Tables.{Row}
use Rattle.wdl_typed.specs.declared.checked.Checked.{Checked}
use Rattle.wdl_typed.specs.Flow.{too_many}
use Rattle.wdl_typed.specs.Requests.{is_success}
use Rattle.wdl_typed.specs.Statuses.{successes_of}
use Rattle.wdl_task.specs.declared.request.Prepared.{Prepared}
use Rattle.flow_laws.specs.Jobs.{is_job_at}
use Rattle.flow_laws.proofs.SameRequests.{place_itself, place_same}
use Rattle.value_net.specs.Nets.{view}
use Rattle.plan_layout.specs.declared.layout.Layout.{Layout}
use Rattle.plan_growth.specs.declared.rule.Rule.TheVariants as rule
use Rattle.plan_steps.specs.declared.asking.Asking.{Asking}
use Rattle.plan_steps.specs.declared.fault.PlanFault.{PlanFault}
use Rattle.plan_steps.specs.declared.fault.PlanFault.TheVariants.{TooMany, NoMemory}
use Rattle.plan_steps.specs.declared.growth.Growth.{Growth}
use Rattle.scatter_plan.specs.Answering as answering
use Rattle.scatter_plan.specs.Answering.{TakesAnswer}
use Rattle.plan_steps.specs.Arriving.{Answered, CanConclude, IsTaken, goes_on}
use Rattle.plan_steps.specs.Askings.{Call, IsAsking, calls}
use Rattle.scatter_plan.specs.Calls.{is_waiting, row}
use Rattle.plan_steps.specs.Doing.{Asks, State, asks, field, state}
use Rattle.scatter_plan.specs.Holding.{IsAwaited, IsHolding}
use Rattle.plan_steps.specs.Passes.{Passes}
use Rattle.scatter_plan.specs.Settling.{main_flow}
use Rattle.scatter_plan.proofs.HoldAnswers as hold
use Rattle.plan_steps.proofs.Asks.{calls_one, ready_one}

-- an attempt that waits at a place, with its number
pub waits_there : (ready : List Prepared) (place : List Segment) (attempt : ℕ) → is_waiting ready place attempt ≡ true
    → (j : ℕ) × (p : Prepared) × (slice_get ready j ≡ Some p) × (p.request.place ≡ place) × (p.request.attempt ≡ attempt)
waits_there [] place attempt h = absurd (false≢true h)
waits_there (p ∷ ps) place attempt h = by_test (is_job_at place attempt p.request) refl (waits_there ps place attempt) h
  where
    by_test : (b : Bool) → is_job_at place attempt p.request ≡ b
        → (list_any (λ (x : Prepared). is_job_at place attempt x.request) ps ≡ true → (j : ℕ) × (x : Prepared) × (slice_get ps j ≡ Some x) × (x.request.place ≡ place) × (x.request.attempt ≡ attempt))
        → (b || list_any (λ (x : Prepared). is_job_at place attempt x.request) ps) ≡ true → (j : ℕ) × (x : Prepared) × (slice_get (p ∷ ps) j ≡ Some x) × (x.request.place ≡ place) × (x.request.attempt ≡ attempt)
    by_test true e rest i =
        let q = and_parts (same_place p.request.place place) (p.request.attempt == attempt) e in
        (0, p, refl, place_same p.request.place place q.0, (Decides-eqb p.request.attempt attempt).0 q.1)
    by_test false e rest i = let r = rest i in (suc r.0, r.1, r.2, r.3, r.4)

module _ (checked : Checked) (layout : Layout) (main : ℕ) (given : List Bind) (site : List ℕ) (rows : List Row) (growth : Growth) (asking : Asking) (sound : IsAsking asking)
    (h : IsHolding checked layout main given site rows (state growth asking)) where
  abbrev s : State
  s = state growth asking

  -- The call of an attempt that waits may be concluded.
  pub can_conclude : (place : List Segment) (at : ℕ) (c : Call) (j : ℕ) (p : Prepared) → slice_get (calls asking) at ≡ Some c → c.place ≡ place → slice_get asking.ready.items j ≡ Some p → p.request.place ≡ place
      → (i : ℕ) × (k : ℕ) × (slice_get (view growth.entered.net).rules c.step ≡ Some (rule.Statement i k)) × CanConclude checked layout (field growth) i k p
  can_conclude place at c j p c_there c_place p_there p_place = (
    hold.i checked layout main given site rows s h (calls_one asking sound) (ready_one asking sound) at c c_there j p p_there (c_place ∙ sym p_place),
    hold.k checked layout main given site rows s h (calls_one asking sound) (ready_one asking sound) at c c_there j p p_there (c_place ∙ sym p_place),
    hold.code checked layout main given site rows s h (calls_one asking sound) (ready_one asking sound) at c c_there j p p_there (c_place ∙ sym p_place),
    hold.can checked layout main given site rows s h (calls_one asking sound) (ready_one asking sound) at c c_there j p p_there (c_place ∙ sym p_place),
  )

  module _ (place : List Segment) (attempt : ℕ) (waits : is_waiting asking.ready.items place attempt ≡ true) (answer : Answer) (growth_now : Growth) (asking_now : Asking) (old new : ℕ) where
    abbrev after : State
    after = state growth_now asking_now

    -- what the code says of each call at the place and each attempt that waits there
    abbrev pub Did : {A : Type 0} → Result A PlanFault → Type 0
    Did result =
        (at : ℕ) (c : Call) (j : ℕ) (p : Prepared) (i : ℕ) (k : ℕ) → slice_get (calls asking) at ≡ Some c → c.place ≡ place → slice_get asking.ready.items j ≡ Some p → p.request.place ≡ place
        → slice_get (view growth.entered.net).rules c.step ≡ Some (rule.Statement i k)
        → Passes ((between : Asks) × IsTaken at p (asks asking) between × Answered checked layout site i k p answer (field growth) between (field growth_now) (asks asking_now) (is_success (successes_of p.codes) answer.status))
        ((is_success (successes_of p.codes) answer.status ≡ false) × (goes_on p ≡ true) × (20000 ≤ asking.jobs)) result

    abbrev pub Spent : Type 0
    Spent =
        (at : ℕ) (c : Call) (j : ℕ) (p : Prepared) (i : ℕ) (k : ℕ) → slice_get (calls asking) at ≡ Some c → c.place ≡ place → slice_get asking.ready.items j ≡ Some p → p.request.place ≡ place
        → slice_get (view growth.entered.net).rules c.step ≡ Some (rule.Statement i k) → (can : CanConclude checked layout (field growth) i k p) → new ≤ old + length can.task.outputs

    abbrev pub StillSpent : Type 0
    StillSpent = (j : ℕ) (p : Prepared) → slice_get asking.ready.items j ≡ Some p → p.request.place ≡ place → is_success (successes_of p.codes) answer.status ≡ false → new ≤ old

    module _ (j : ℕ) (p : Prepared) (p_there : slice_get asking.ready.items j ≡ Some p) (p_place : p.request.place ≡ place) (p_attempt : p.request.attempt ≡ attempt) where
      abbrev awaited : IsAwaited site rows s.asks.calls h.asked p
      awaited = h.awaited j p p_there

      abbrev c : Call
      c = awaited.call

      same : c.place ≡ p.request.place
      same = awaited.place

      abbrev i : ℕ
      i = hold.i checked layout main given site rows s h (calls_one asking sound) (ready_one asking sound) awaited.at c awaited.call_there j p p_there same

      abbrev k : ℕ
      k = hold.k checked layout main given site rows s h (calls_one asking sound) (ready_one asking sound) awaited.at c awaited.call_there j p p_there same

      code : slice_get (view growth.entered.net).rules c.step ≡ Some (rule.Statement i k)
      code = hold.code checked layout main given site rows s h (calls_one asking sound) (ready_one asking sound) awaited.at c awaited.call_there j p p_there same

      abbrev can : CanConclude checked layout (field growth) i k p
      can = hold.can checked layout main given site rows s h (calls_one asking sound) (ready_one asking sound) awaited.at c awaited.call_there j p p_there same

      abbrev success : Bool
      success = is_success (successes_of p.codes) answer.status

      abbrev Taken : List Segment → ℕ → Type 0
      Taken o n = answering.Answered checked layout main given site rows s h (row o n answer) after old new

      abbrev Past : List Segment → ℕ → Type 0
      Past o n = too_many (main_flow checked main given site (rows ++ row o n answer ∷ [])) ≡ true

      spends : (t : Bool) → success ≡ t → Spent → StillSpent
          → (between : Asks) (taken : IsTaken awaited.at p (asks asking) between) → hold.Spends checked layout main given site rows s h (calls_one asking sound) (ready_one asking sound) awaited.at c awaited.call_there j p p_there same answer between taken (new - old) t
      spends true e spent still between taken = let le = spent awaited.at c j p i k awaited.call_there (same ∙ p_place) p_there p_place code can in omega (arith, le)
      spends false e spent still between taken = let le = still j p p_there p_place e in omega (arith, le)

      at_own : Spent → StillSpent → asking_now.jobs ≤ 20000 → (between : Asks) (taken : IsTaken awaited.at p (asks asking) between) → Answered checked layout site i k p answer (field growth) between (field growth_now) (asks asking_now) success
          → Taken p.request.place p.request.attempt
      at_own spent still few between taken did =
          let q =
          hold.answer_holds checked layout main given site rows s h (calls_one asking sound) (ready_one asking sound) awaited.at c awaited.call_there j p p_there same answer between taken (field growth_now) (asks asking_now) did few (new - old)
          (spends success refl spent still between taken) in
          let paid = q.1 in
          record {
            holding = q.0;
            answers =
                record {
                  one = p;
                  is_one = and_from (same_place p.request.place p.request.place) (p.request.attempt == p.request.attempt) (place_itself p.request.place) ((Decides-eqb p.request.attempt p.request.attempt).1 refl);
                  left = q.2.left;
                  fresh = q.2.fresh;
                  length = q.2.size;
                  others = q.2.others;
                  ready = q.2.ready;
                };
            paid = omega (arith, paid);
          }

      moved : (P : List Segment → ℕ → Type 0) → P p.request.place p.request.attempt → P place attempt
      moved P q = subst (λ (n : ℕ). P place n) p_attempt (subst (λ (o : List Segment). P o p.request.attempt) p_place q)

      takes_at : {A : Type 0} (result : Result A PlanFault) → Did result → (asking.jobs ≤ 20000 → OnOk result (asking_now.jobs ≤ 20000)) → Spent → StillSpent → TakesAnswer checked layout main given site rows s h (row place attempt answer) after old new result
      takes_at (Ok x) did jobs spent still =
          let d = did awaited.at c j p i k awaited.call_there (same ∙ p_place) p_there p_place code in
          moved Taken (at_own spent still (jobs h.few_jobs) d.0 d.1 d.2)
      takes_at (Err TooMany) did jobs spent still =
          let d = did awaited.at c j p i k awaited.call_there (same ∙ p_place) p_there p_place code in
          moved Past (hold.answer_many checked layout main given site rows s h (calls_one asking sound) (ready_one asking sound) awaited.at c awaited.call_there j p p_there same answer d.0 d.1 d.2)
      takes_at (Err NoMemory) did jobs spent still = tt

    -- What the code says of the answer is what the plan takes of it.
    pub takes : {A : Type 0} (result : Result A PlanFault) → Did result → (asking.jobs ≤ 20000 → OnOk result (asking_now.jobs ≤ 20000)) → Spent → StillSpent
        → TakesAnswer checked layout main given site rows s h (row place attempt answer) after old new result
    takes result did jobs spent still =
        let f = waits_there asking.ready.items place attempt waits in
        takes_at f.0 f.1 f.2 f.3 f.4 result did jobs spent still
