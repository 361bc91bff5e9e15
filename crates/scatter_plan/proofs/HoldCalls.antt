-- The step of a call keeps what holds of a plan.
use Rattle.std.proofs.Common.{rules, ◌≡◌, ℕ, zero, suc, ◌+◌, ◌<◌, ◌≤◌, Bool, true, false, cond, List, [], ◌∷◌, ◌++◌, length, append-nil, Option, Some, None, Ok, Err, count_by, slice_get, sym, ap, ◌∙◌, subst, refl, arith}
use Rattle.std.proofs.lemmas.List.{length_push}
use Rattle.std.proofs.lemmas.List.Sums.{sum_by-append}
use Rattle.std.proofs.lemmas.Option.{same_Some}
use Rattle.wdl_base.specs.declared.place.Segment.{Segment}
use Rattle.wdl_base.specs.declared.place.Segment.TheVariants as segment
use Rattle.wdl_base.specs.declared.request.Request.{Request}
use Rattle.wdl_value.specs.declared.env.Bind.{Bind}
use Rattle.wdl_value.specs.Tables.{Row, answer_at}
use Rattle.wdl_typed.specs.declared.checked.Checked.{Checked}
use Rattle.wdl_typed.specs.declared.flow.FlowDef.{FlowDef}
use Rattle.wdl_typed.specs.declared.flow.Statement.TheVariants as stmt
use Rattle.wdl_typed.specs.declared.flow.Target.{Target}
use Rattle.wdl_typed.specs.declared.flow.Target.TheVariants as target
use Rattle.wdl_typed.specs.declared.flow.TCall.{TCall}
use Rattle.wdl_typed.specs.declared.task.TaskDef.{TaskDef}
use Rattle.wdl_typed.specs.Bodies.{Library}
use Rattle.wdl_typed.specs.Flow.{args_met, failing_at}
use Rattle.wdl_typed.specs.Requests.{Asked, Failing, Successes, Tried, asks as asks_of, request}
use Rattle.wdl_typed.specs.Statuses.{successes_of}
use Rattle.wdl_task.specs.declared.request.Prepared.{Prepared}
use Rattle.wdl_task.specs.Views.{asked_of}
use Rattle.step_net.specs.Views.{Wants}
use Rattle.value_net.specs.Nets.{are_set, with_taken}
use Rattle.flow_laws.proofs.SameRequests.{place_itself}
use Rattle.wdl_task.specs.Counts.{prepare_count}
use Rattle.net_laws.specs.Cost.{TaskCost, called_cost, met_cost, some_cost}
use Rattle.net_laws.specs.Growing.{Form, whole}
use Rattle.net_laws.specs.Net.{Work, both_works}
use Rattle.net_laws.proofs.Even.{both_even}
use Rattle.plan_moves.specs.Telling.{IsWaiting}
use Rattle.plan_lists.specs.Lists.{JobTest, Listed, jobs_in}
use Rattle.plan_lists.proofs.Steps as listing
use Rattle.plan_lists.proofs.Weights.{jobs_weigh}
use Rattle.plan_layout.specs.declared.layout.BodyLayout.{BodyLayout}
use Rattle.plan_layout.specs.declared.layout.FlowLayout.{FlowLayout}
use Rattle.plan_layout.specs.declared.layout.Layout.{Layout}
use Rattle.plan_layout.specs.declared.layout.StatementLayout.{StatementLayout}
use Rattle.plan_layout.specs.Sees.{FlowSees}
use Rattle.plan_growth.specs.declared.instance.Instance.{Instance}
use Rattle.plan_growth.specs.declared.rule.Rule.{Rule}
use Rattle.plan_growth.specs.declared.rule.Rule.TheVariants as rule
use Rattle.plan_growth.specs.Entering.{Plot, Sown}
use Rattle.plan_growth.specs.Growth.{AskedCall, IsGrowing}
use Rattle.plan_growth.specs.Keeps.{IsAt, asked_first}
use Rattle.plan_growth.proofs.Calling as calling
use Rattle.plan_may.specs.May.{at_place}
use Rattle.plan_steps.specs.Askings.{Call, new_call}
use Rattle.plan_steps.specs.Doing.{Asks, Field, State, flow_called, with_fault}
use Rattle.scatter_plan.specs.Holding.{IsAwaited, IsFew, IsHolding, owed, paid_of, passes, task_cost, waiting}
use Rattle.plan_steps.specs.Stepping.{library_in}
use Rattle.plan_steps.specs.Values.{own_env}
use Rattle.scatter_plan.proofs.Holds as holds
use Rattle.step_net.proofs.Growth.{get_before as more_there}

-- ---- lists with one more at the end

last_or : {A : Type 0} (P : A → Type 0) (xs : List A) (y : A) → ((k : ℕ) (x : A) → slice_get xs k ≡ Some x → P x) → P y → (k : ℕ) (x : A) → slice_get (xs ++ y ∷ []) k ≡ Some x → P x
last_or P [] y all last zero x e = subst P (same_Some y x e) last
last_or P [] y all last (suc k) x e = absurd (let f : ⊥ = cc in f)
last_or P (z ∷ xs) y all last zero x e = all 0 x e
last_or P (z ∷ xs) y all last (suc k) x e = last_or P xs y (λ j u at. all (suc j) u at) last k x e

last_there : {A : Type 0} (xs : List A) (y : A) → slice_get (xs ++ y ∷ []) (length xs) ≡ Some y
last_there [] y = refl
last_there (z ∷ xs) y = last_there xs y

count_last : (test : JobTest) (ready : List Prepared) (p : Prepared) → waiting (ready ++ p ∷ []) test ≡ waiting ready test + cond (passes test p) 1 0
count_last test ready p = let e = sum_by-append (λ (z : Prepared). cond (passes test z) 1 0) ready (p ∷ []) in omega (arith, e)

owed_last : (cs : List AskedCall) (c : AskedCall) → owed (cs ++ c ∷ []) ≡ owed cs + length c.task.outputs
owed_last [] c = omega arith
owed_last (d ∷ cs) c = let e = owed_last cs c in omega (arith, e)

module _ (checked : Checked) (layout : Layout) (main : ℕ) (given : List Bind) (site : List ℕ) (rows : List Row) (s : State) (h : IsHolding checked layout main given site rows s) (t : ℕ) (r : Rule)
    (code : slice_get s.field.plot.net.rules t ≡ Some r) (step : Wants) (there : slice_get s.field.plot.net.steps t ≡ Some step) (fresh : step.is_taken ≡ false) (ready : are_set s.field.plot.net.values step.needs ≡ true) (i k : ℕ)
    (same : r ≡ rule.Statement i k) (q : Instance) (body : BodyLayout) (flow : FlowDef) (l : StatementLayout) (x : TCall) (at : IsAt (library_in checked) layout s.field.plot.instances i k q body flow l (stmt.Call x)) where
  abbrev lib : Library
  lib = library_in checked

  abbrev form : Form
  form = whole h.flow given [] h.names h.dones

  abbrev v : Sown
  v = s.field.plot.net

  abbrev is : List Instance
  is = s.field.plot.instances

  abbrev w : Sown
  w = with_taken v t step

  abbrev place : List Segment
  place = q.place ++ segment.Call x.name ∷ []

  abbrev before : State
  before = record { field = record { plot = record { net = w; instances = is }; faults = s.field.faults; count = s.field.count }; asks = s.asks }

  abbrev Held : State → ℕ → Type 0
  Held new n = (k : IsHolding checked layout main given site rows new) × (n + paid_of checked layout main given site rows h ≤ paid_of checked layout main given site rows k)

  abbrev met : Tried (List Bind)
  met = args_met (own_env w q.bases l.needs) x.args

  abbrev pub cost : TaskCost → ℕ
  cost task = length x.args + met_cost (called_cost lib task (λ c args p. 0) place x.target) met

  abbrev paid : TaskCost → ℕ
  paid task = h.paid_by task + cost task

  pays : (task : TaskCost) → paid task ≤ h.paid_by task + cost task
  pays task = omega arith

  -- a fault, and nothing else
  fault_held : (new : State) (few : IsFew new) (f : Failing) → new.field ≡ with_fault before.field (failing_at place f) → new.asks ≡ s.asks
      → IsGrowing lib layout site rows 24 form w is (both_works h.listed (record { jobs = []; codes = []; faults = failing_at place f ∷ []; waits = []; count = 0 })) h.asked paid → Held new (cost task_cost)
  fault_held new few f e asks growing =
      let added : Work = record { jobs = []; codes = []; faults = failing_at place f ∷ []; waits = []; count = 0 } in
      holds.plain_holds checked layout main given site rows s h new few added paid (cost task_cost) refl (record { jobs = refl; codes_are = refl }) asks (ap (λ (g : Field). g.faults) e) (let c = ap (λ (g : Field). g.count) e in omega (arith, c))
      (subst (λ (g : Field). IsGrowing lib layout site rows 24 form g.plot.net g.plot.instances (both_works h.listed added) h.asked paid) (sym e) growing)

  pub args_hold : (new : State) (few : IsFew new) (f : Failing) → met ≡ Err f → new.field ≡ with_fault before.field (failing_at place f) → new.asks ≡ s.asks → Held new (cost task_cost)
  args_hold new few f failed e asks =
      let added : Work = record { jobs = []; codes = []; faults = failing_at place f ∷ []; waits = []; count = 0 } in
      fault_held new few f e asks
      (calling.args_fail lib layout site rows 24 form v is h.listed h.asked h.paid_by h.growing t r code step there fresh ready i k same q body flow l x at f failed (both_works h.listed added)
      (holds.lists_later checked layout main given site rows s h added) paid pays)

  -- ---- tasks

  module _ (c : ℕ) (is_task : x.target ≡ target.Task c) (y : TaskDef) (task_there : slice_get checked.tasks c ≡ Some y) (args : List Bind) (ok : met ≡ Ok args) where
    pub failed_hold : (new : State) (few : IsFew new) (f : Failing) → asks_of y args ≡ Err f → new.field.plot ≡ before.field.plot → new.field.faults ≡ s.field.faults ++ failing_at place f ∷ [] → new.field.count ≡ s.field.count → new.asks ≡ s.asks → Held new (cost task_cost)
    failed_hold new few f failed plot faults count asks =
        let added : Work = record { jobs = []; codes = []; faults = failing_at place f ∷ []; waits = []; count = 0 } in
        holds.plain_holds checked layout main given site rows s h new few added paid (cost task_cost) refl (record { jobs = refl; codes_are = refl }) asks faults (omega (arith, count))
        (subst (λ (p : Plot). IsGrowing lib layout site rows 24 form p.net p.instances (both_works h.listed added) h.asked paid) (sym plot)
        (calling.task_fails lib layout site rows 24 form v is h.listed h.asked h.paid_by h.growing t r code step there fresh ready i k same q body flow l x at c is_task y task_there args ok f failed (both_works h.listed added)
        (holds.lists_later checked layout main given site rows s h added) paid pays))

    module _ (a : Asked) (asked_ok : asks_of y args ≡ Ok a) (none : (attempt : ℕ) → answer_at rows place attempt ≡ None) (p : Prepared) (p_asked : asked_of p ≡ a) (p_request : p.request ≡ request site place 0 a) where
      abbrev added : Work
      added = asked_first site place a

      abbrev this : AskedCall
      this = record { step = t; place = place; task = y; args = args }

      abbrev after : Asks
      after = record { ready = s.asks.ready ++ p ∷ []; calls = s.asks.calls ++ new_call place t ∷ []; jobs = s.asks.jobs + 1 }

      growing_now : IsGrowing lib layout site rows 24 form w is (both_works h.listed added) (h.asked ++ this ∷ []) paid
      growing_now =
          calling.task_asked lib layout site rows 24 form v is h.listed h.asked h.paid_by h.growing t r code step there fresh ready i k same q body flow l x at c is_task y task_there args ok a asked_ok (none 0) (both_works h.listed added)
          (holds.lists_later checked layout main given site rows s h added) paid pays

      codes_are : successes_of p.codes ≡ a.codes
      codes_are = ap (λ (z : Asked). z.codes) p_asked

      job_counts : (test : JobTest) → jobs_in added test ≡ cond (passes test p) 1 0
      job_counts test =
          let one : jobs_in added test ≡ cond (test (request site place 0 a) a.codes) 1 0 = search rules in
          one ∙ ap (λ (z : Request). cond (test z a.codes) 1 0) (sym p_request) ∙ ap (λ (z : Successes). cond (test p.request z) 1 0) (sym codes_are)

      later_counts : (test : JobTest) → jobs_in (both_works h.listed added) test ≡ jobs_in h.listed test + jobs_in added test
      later_counts test = holds.lists_later checked layout main given site rows s h added (λ (z : Work). jobs_in z test) (jobs_weigh test)

      more_awaited : (z : Prepared) → IsAwaited site rows s.asks.calls h.asked z → IsAwaited site rows after.calls (h.asked ++ this ∷ []) z
      more_awaited z old =
          record {
            at = old.at;
            call = old.call;
            call_there = more_there s.asks.calls (new_call place t) old.at old.call old.call_there;
            place = old.place;
            asker = old.asker;
            by = old.by;
            by_there = more_there h.asked this old.asker old.by old.by_there;
            by_step = old.by_step;
            by_place = old.by_place;
            asks_it = old.asks_it;
            is = old.is;
            waits = old.waits;
          }

      place_is : p.request.place ≡ place
      place_is = ap (λ (z : Request). z.place) p_request

      attempt_is : p.request.attempt ≡ 0
      attempt_is = ap (λ (z : Request). z.attempt) p_request

      waits_now : IsWaiting rows place a 0
      waits_now = record { tried = record { refused = λ j lt. absurd (omega (arith, lt)); within = omega arith }; unanswered = λ j le. none j }

      new_awaited : IsAwaited site rows after.calls (h.asked ++ this ∷ []) p
      new_awaited =
          record {
            at = length s.asks.calls;
            call = new_call place t;
            call_there = last_there s.asks.calls (new_call place t);
            place = sym place_is;
            asker = length h.asked;
            by = this;
            by_there = last_there h.asked this;
            by_step = refl;
            by_place = sym place_is;
            asks_it = asked_ok ∙ ap (λ (z : Asked). let o : Tried Asked = Ok z in o) (sym p_asked);
            is =
                p_request ∙ ap (λ (z : List Segment). request site z 0 a) (sym place_is) ∙ ap (λ (z : ℕ). request site p.request.place z a) (sym attempt_is)
                ∙ ap (λ (z : Asked). request site p.request.place p.request.attempt z) (sym p_asked);
            waits =
                subst (λ (z : Asked). IsWaiting rows p.request.place z p.request.attempt) (sym p_asked)
                (subst (λ (z : ℕ). IsWaiting rows p.request.place a z) (sym attempt_is) (subst (λ (z : List Segment). IsWaiting rows z a 0) (sym place_is) waits_now));
          }

      lists_now : Listed (both_works h.listed added) (λ (test : JobTest). waiting after.ready test + h.answered test) s.field.faults s.field.count
      lists_now =
          let z = listing.steps h.listed (both_works h.listed added) added (λ (test : JobTest). waiting s.asks.ready test + h.answered test) s.field.faults s.field.count h.lists (holds.lists_later checked layout main given site rows s h added) in
          record {
            jobs_are = λ test. let e = z.jobs_are test in let f = job_counts test in let g = count_last test s.asks.ready p in omega (arith, e, f, g);
            faults_are = λ test. z.faults_are test ∙ ap (count_by test) (append-nil s.field.faults);
            count_is = let e = z.count_is in omega (arith, e);
          }

      one_there : jobs_in added (at_place place) ≡ 1
      one_there = let e = ap {B = ℕ} (λ (b : Bool). cond b 1 0) (place_itself place) in omega (arith, e)

      -- what it costs, and what is owed of it
      cost_is : cost task_cost ≡ length x.args + task_cost y args
      cost_is =
          ap (λ (o : Tried (List Bind)). length x.args + met_cost (called_cost lib task_cost (λ d bs z. 0) place x.target) o) ok
          ∙ ap (λ (u : Target). length x.args + called_cost lib task_cost (λ d bs z. 0) place u args) is_task ∙ ap (λ (o : Option TaskDef). length x.args + some_cost (λ (z : TaskDef). task_cost z args) o) task_there

      owed_is : owed (h.asked ++ this ∷ []) ≡ owed h.asked + length y.outputs
      owed_is = owed_last h.asked this

      pub asked_hold : (new : State) → IsFew new → new.field ≡ before.field → new.asks ≡ after → Held new (length x.args + prepare_count y args)
      asked_hold new few field asks =
          let few_at : (s.field.count ≤ 1000000) × (after.jobs ≤ 20000) =
          subst (λ (f : Field). (f.count ≤ 1000000) × (after.jobs ≤ 20000)) field (subst (λ (z : Asks). (new.field.count ≤ 1000000) × (z.jobs ≤ 20000)) asks few) in
          subst (λ (f : Field). Held (record { field = f; asks = new.asks }) (length x.args + prepare_count y args)) (sym field)
          (subst (λ (z : Asks). Held (record { field = before.field; asks = z }) (length x.args + prepare_count y args)) (sym asks) (
            record {
              flow = h.flow;
              there = h.there;
              inputs_given = h.inputs_given;
              names = h.names;
              dones = h.dones;
              distinct = h.distinct;
              line = h.line;
              line_there = h.line_there;
              outputs = h.outputs;
              few_count = few_at.0;
              few_jobs = few_at.1;
              listed = both_works h.listed added;
              even = both_even h.listed added h.even refl;
              paid_by = paid;
              asked = h.asked ++ this ∷ [];
              growing = growing_now;
              answered = h.answered;
              lists = lists_now;
              over = h.over;
              jobs = let e = h.jobs in let f = length_push s.asks.ready p in omega (arith, e, f);
              awaited = last_or (IsAwaited site rows after.calls (h.asked ++ this ∷ [])) s.asks.ready p (λ j z there_too. more_awaited z (h.awaited j z there_too)) new_awaited;
              called =
                  last_or (λ (z : Call). 0 < jobs_in (both_works h.listed added) (at_place z.place)) s.asks.calls (new_call place t)
                  (λ j z there_too. let e = later_counts (at_place z.place) in let f = h.called j z there_too in omega (arith, e, f)) (let e = later_counts (at_place place) in let f = one_there in omega (arith, e, f));
              rowed = λ z among. let e = later_counts (at_place z.place) in let f = h.rowed z among in omega (arith, e, f);
              owes = let a_ = h.owes in let b = cost_is in let c_ = owed_is in omega (arith, a_, b, c_);
            },
            (let a_ = h.owes in let b = cost_is in let c_ = owed_is in omega (arith, a_, b, c_)),
          ))

  -- ---- workflows

  pub flow_hold : (c : ℕ) → x.target ≡ target.Flow c → (f : FlowDef) → slice_get checked.flows c ≡ Some f → (fl : FlowLayout) → slice_get layout.flows c ≡ Some fl → (own : BodyLayout) → slice_get layout.bodies fl.body ≡ Some own
      → FlowSees lib f → (args : List Bind) → met ≡ Ok args → (new : State) → IsFew new → new.field ≡ flow_called f args q.bases place fl own l before.field → new.asks ≡ s.asks → Held new (length x.args)
  flow_hold c is_flow f flow_there fl fl_there own own_there sees args ok new few done asks =
      holds.counted_holds checked layout main given site rows s h t r code step there fresh ready new few (flow_called f args q.bases place fl own l before.field) (length x.args) (length f.body) done refl refl asks
      (calling.flow_goes lib layout site rows 24 form v is h.listed h.asked h.paid_by h.growing t r code step there fresh ready i k same q body flow l x at c is_flow f flow_there fl fl_there own own_there sees args ok)
