-- An answer keeps what holds of a plan, over one row more.
use Rattle.std.proofs.Common.{◌≡◌, ℕ, zero, suc, ◌+◌, ◌-◌, ◌<◌, ◌≤◌, ◌⊎◌, inl, inr, Bool, true, false, not, cond, ◌&&◌, ◌||◌, nat_lt, List, [], ◌∷◌, ◌++◌, append-nil, Contains, length, length-append, take, get_or, swap_remove, slice_set, Some, Ok, Err, count_by, slice_get, sym, ap, ◌∙◌, subst, refl, arith}
use Rattle.std.proofs.lemmas.Bool.{cases_eq, lt-ltb, ltb-false, ltb-true, or_left}
use Rattle.std.proofs.lemmas.List.Elements.{Contains-append_cases}
use Rattle.std.proofs.lemmas.List.Sums.{sum_by-append, sum_by-cons}
use Rattle.std.proofs.lemmas.Option.{slice_get_within, same_Some}
use Rattle.std.proofs.Math.Bool.{and-false}
use Rattle.wdl_base.specs.declared.answer.Answer.{Answer}
use Rattle.wdl_base.specs.declared.fault.Fault.{Fault}
use Rattle.wdl_base.specs.declared.place.Segment.{Segment}
use Rattle.wdl_base.specs.declared.place.Segment.TheVariants as segment
use Rattle.wdl_base.specs.declared.request.Request.{Request}
use Rattle.wdl_value.specs.declared.env.Bind.{Bind}
use Rattle.wdl_value.specs.declared.value.Value.TheVariants as kind
use Rattle.wdl_value.specs.Tables.{Row, has_row, is_at}
use Rattle.wdl_typed.specs.declared.checked.Checked.{Checked}
use Rattle.wdl_typed.specs.declared.flow.Statement.{Statement, Statement-F, out-Statement}
use Rattle.wdl_typed.specs.declared.flow.Statement.TheOpen as layer
use Rattle.wdl_typed.specs.declared.flow.Statement.TheVariants as stmt
use Rattle.wdl_typed.specs.declared.flow.TCall.{TCall}
use Rattle.wdl_typed.specs.Bodies.{Library}
use Rattle.wdl_typed.specs.Flow.{failing_at, flow, too_many}
use Rattle.flow_laws.specs.Laws.{run_with}
use Rattle.net_laws.specs.Works.{work_of}
use Rattle.plan_moves.specs.Sheets.{rules_of, state_of}
use Rattle.plan_lists.proofs.Ends.{too_many_now}
use Rattle.wdl_typed.specs.Requests.{Asked, Failing, Successes, Tried, bad_status, is_success, job_dir, tells}
use Rattle.wdl_typed.specs.Statuses.{successes_of}
use Rattle.wdl_task.specs.declared.request.Prepared.{Prepared}
use Rattle.wdl_task.specs.Views.{asked_of, next_of}
use Rattle.value_net.specs.Nets.{with_value}
use Rattle.flow_laws.proofs.Elements.{only_one}
use Rattle.flow_laws.proofs.Rows.{at_itself}
use Rattle.net_laws.specs.Growing as net
use Rattle.net_laws.specs.Growing.{Form, copies, declares, does, ends, gathers, whole}
use Rattle.net_laws.specs.Net.{Given, Scope, Work}
use Rattle.plan_moves.specs.Telling.{IsWaiting, work_after}
use Rattle.plan_moves.proofs.Telling.{arrive}
use Rattle.plan_lists.specs.Lists.{JobTest, Listed, any_job, jobs_in, unanswered}
use Rattle.plan_lists.proofs.Steps as listing
use Rattle.plan_lists.proofs.Weights.{jobs_weigh}
use Rattle.plan_layout.specs.declared.layout.Layout.{Layout}
use Rattle.plan_growth.specs.declared.instance.Instance.{Instance}
use Rattle.plan_growth.specs.declared.rule.Rule.TheVariants as rule
use Rattle.plan_growth.specs.Blocks.{with_outs}
use Rattle.plan_growth.specs.Blocks as blocks
use Rattle.plan_growth.specs.Entering.{Plot, Sown, with_net}
use Rattle.plan_growth.specs.Growth.{AskedCall, IsAsker, IsGrowing, sheet_of}
use Rattle.plan_may.specs.May.{at_place}
use Rattle.plan_arrives.specs.Arrivals.{AreAmong, Goes, HasArrived, NoneOf, row_at}
use Rattle.plan_arrives.specs.Concluding.{Concludes}
use Rattle.plan_arrives.proofs.Arrivals as arriving
use Rattle.plan_arrives.proofs.Concluding.{conclude}
use Rattle.plan_steps.specs.Arriving.{Answered, CanConclude, IsRefused, IsTaken, concluded, goes_on, with_ended, with_outputs}
use Rattle.plan_steps.specs.Askings.{Call}
use Rattle.plan_growth.proofs.Lists.{get_split}
use Rattle.plan_steps.specs.Doing.{Asks, Field, State}
use Rattle.plan_bodies.specs.Bases.{last_base}
use Rattle.scatter_plan.specs.Holding.{IsAwaited, IsHolding, owed, paid_of, passes, task_cost, waiting}
use Rattle.plan_steps.specs.Stepping.{library_in}
use Rattle.plan_steps.proofs.Lists.{get_swapped}

-- ---- lists

module _ {A : Type 0} (test : A → Bool) where
  abbrev weight : A → ℕ
  weight x = cond (test x) 1 0

  counted : (x : A) (xs : List A) → count_by test (x ∷ xs) ≡ weight x + count_by test xs
  counted x xs = sum_by-cons weight x xs

  counted_set : (xs : List A) (k : ℕ) (x y : A) → slice_get xs k ≡ Some x → count_by test (slice_set xs k y) + weight x ≡ count_by test xs + weight y
  counted_set [] k x y e = absurd (let f : ⊥ = cc in f)
  counted_set (z ∷ xs) zero x y e =
      let same : weight z ≡ weight x = ap weight (same_Some _ _ e) in
      let a = counted y xs in
      let b = counted z xs in
      omega (arith, a, b, same)
  counted_set (z ∷ xs) (suc k) x y e =
      let rest = counted_set xs k x y e in
      let a = counted z (slice_set xs k y) in
      let b = counted z xs in
      omega (arith, a, b, rest)

  counted_last : (n : ℕ) (xs : List A) (d : A) → length xs ≡ suc n → count_by test (take n xs) + weight (get_or xs n d) ≡ count_by test xs
  counted_last n [] d e = absurd (omega (arith, e))
  counted_last zero (x ∷ []) d e = let a = counted x [] in omega (arith, a)
  counted_last zero (x ∷ y ∷ xs) d e = absurd (omega (arith, e))
  counted_last (suc n) (x ∷ xs) d e =
      let rest = counted_last n xs d (omega (arith, e)) in
      let a = counted x (take n xs) in
      let b = counted x xs in
      omega (arith, a, b, rest)

  last_set : (xs : List A) (k n : ℕ) (y d : A) → get_or xs n d ≡ y → k < length xs → get_or (slice_set xs k y) n d ≡ y
  last_set [] k n y d e lt = absurd (omega (arith, lt))
  last_set (x ∷ xs) zero zero y d e lt = refl
  last_set (x ∷ xs) zero (suc n) y d e lt = e
  last_set (x ∷ xs) (suc k) zero y d e lt = e
  last_set (x ∷ xs) (suc k) (suc n) y d e lt = last_set xs k n y d e (omega (arith, lt))

  set_length : (xs : List A) (k : ℕ) (y : A) → length (slice_set xs k y) ≡ length xs
  set_length [] k y = refl
  set_length (x ∷ xs) zero y = refl
  set_length (x ∷ xs) (suc k) y = let rest = set_length xs k y in omega (arith, rest)

  -- of what is left, one less passes where the one that was taken did
  counted_taken : (xs : List A) (k : ℕ) (x : A) → slice_get xs k ≡ Some x → count_by test (swap_remove xs k x) + weight x ≡ count_by test xs
  counted_taken xs k x e =
      let lt = slice_get_within xs k x e in
      let n = length xs - 1 in
      let y = get_or xs n x in
      let size = set_length xs k y in
      let a = counted_last n (slice_set xs k y) x (omega (arith, size, lt)) in
      let b = counted_set xs k x y e in
      let c : weight (get_or (slice_set xs k y) n x) ≡ weight y = ap weight (last_set xs k n y x refl lt) in
      omega (arith, a, b, c)

take_length : {A : Type 0} (n : ℕ) (xs : List A) → n ≤ length xs → length (take n xs) ≡ n
take_length zero xs le = refl
take_length (suc n) [] le = absurd (omega (arith, le))
take_length (suc n) (x ∷ xs) le = let rest = take_length n xs (omega (arith, le)) in omega (arith, rest)

taken_length : {A : Type 0} (xs : List A) (k : ℕ) (x : A) → slice_get xs k ≡ Some x → length (swap_remove xs k x) + 1 ≡ length xs
taken_length {A = A} xs k x e =
    let lt = slice_get_within xs k x e in
    let size = set_length (λ (y : A). true) xs k (get_or xs (length xs - 1) x) in
    let a = take_length (length xs - 1) (slice_set xs k (get_or xs (length xs - 1) x)) (omega (arith, size)) in
    omega (arith, a, lt)

-- what is left stood elsewhere
taken_from : {A : Type 0} (xs : List A) (k : ℕ) (x : A) → slice_get xs k ≡ Some x → (i : ℕ) (y : A) → slice_get (swap_remove xs k x) i ≡ Some y → (j : ℕ) × (slice_get xs j ≡ Some y) × (j ≡ k → ⊥)
taken_from {A = A} xs k x e i y h =
    let lt = slice_get_within xs k x e in
    let p = get_swapped xs k x i y lt h in
    by_case p.0 p.1
  where
    by_case : i + 1 < length xs → ((i ≡ k) × (slice_get xs (length xs - 1) ≡ Some y)) ⊎ ((i ≡ k → ⊥) × (slice_get xs i ≡ Some y)) → (j : ℕ) × (slice_get xs j ≡ Some y) × (j ≡ k → ⊥)
    by_case less (inl q) = let same = q.0 in (length xs - 1, q.1, λ z. omega (arith, less, same, z))
    by_case less (inr q) = (i, q.1, q.0)

-- ---- calls that were asked, without those of a step

keep : {t : ℕ} (c : AskedCall) → (c.step ≡ t) ⊎ (c.step ≡ t → ⊥) → List AskedCall → List AskedCall
keep c (inl e) cs = cs
keep c (inr n) cs = c ∷ cs

without : ℕ → List AskedCall → List AskedCall
without t [] = []
without t (c ∷ cs) = keep c (cases_eq c.step t) (without t cs)

without_among : (t : ℕ) (cs : List AskedCall) (i : ℕ) (d : AskedCall) → slice_get (without t cs) i ≡ Some d → (j : ℕ) × (slice_get cs j ≡ Some d) × (d.step ≡ t → ⊥)
unfolding without keep
without_among t [] i d e = absurd (let f : ⊥ = cc in f)
without_among t (c ∷ cs) i d e = by_case (cases_eq c.step t) i (without_among t cs) e
  where
    later : (j : ℕ) × (slice_get cs j ≡ Some d) × (d.step ≡ t → ⊥) → (j : ℕ) × (slice_get (c ∷ cs) j ≡ Some d) × (d.step ≡ t → ⊥)
    later q = (suc q.0, q.1, q.2)

    by_case : (o : (c.step ≡ t) ⊎ (c.step ≡ t → ⊥)) (n : ℕ) → ((m : ℕ) (x : AskedCall) → slice_get (without t cs) m ≡ Some x → (j : ℕ) × (slice_get cs j ≡ Some x) × (x.step ≡ t → ⊥)) → slice_get (keep c o (without t cs)) n ≡ Some d
        → (j : ℕ) × (slice_get (c ∷ cs) j ≡ Some d) × (d.step ≡ t → ⊥)
    by_case (inl z) n rest h = later (rest n d h)
    by_case (inr z) zero rest h = let same : c ≡ d = same_Some _ _ h in (0, h, subst (λ (x : AskedCall). x.step ≡ t → ⊥) same z)
    by_case (inr z) (suc n) rest h = later (rest n d h)

without_keeps : (t : ℕ) (cs : List AskedCall) (j : ℕ) (d : AskedCall) → slice_get cs j ≡ Some d → (d.step ≡ t → ⊥) → (i : ℕ) × (slice_get (without t cs) i ≡ Some d)
unfolding without keep
without_keeps t [] j d e n = absurd (let f : ⊥ = cc in f)
without_keeps t (c ∷ cs) zero d e n = by_case (cases_eq c.step t)
  where
    by_case : (o : (c.step ≡ t) ⊎ (c.step ≡ t → ⊥)) → (i : ℕ) × (slice_get (keep c o (without t cs)) i ≡ Some d)
    by_case (inl z) = let same : c ≡ d = same_Some _ _ e in absurd (n (ap (λ (x : AskedCall). x.step) (sym same) ∙ z))
    by_case (inr z) = (0, e)
without_keeps t (c ∷ cs) (suc j) d e n = by_case (cases_eq c.step t) (without_keeps t cs j d e n)
  where
    by_case : (o : (c.step ≡ t) ⊎ (c.step ≡ t → ⊥)) → (i : ℕ) × (slice_get (without t cs) i ≡ Some d) → (i : ℕ) × (slice_get (keep c o (without t cs)) i ≡ Some d)
    by_case (inl z) q = q
    by_case (inr z) q = (suc q.0, q.1)

without_owes : (t : ℕ) (cs : List AskedCall) → owed (without t cs) ≤ owed cs
unfolding without keep
without_owes t [] = omega arith
without_owes t (c ∷ cs) = by_case (cases_eq c.step t) (without_owes t cs)
  where
    by_case : (o : (c.step ≡ t) ⊎ (c.step ≡ t → ⊥)) → owed (without t cs) ≤ owed cs → owed (keep c o (without t cs)) ≤ length c.task.outputs + owed cs
    by_case (inl z) le = omega (arith, le)
    by_case (inr z) le = omega (arith, le)

without_pays : (t : ℕ) (cs : List AskedCall) (j : ℕ) (d : AskedCall) → slice_get cs j ≡ Some d → d.step ≡ t → owed (without t cs) + length d.task.outputs ≤ owed cs
unfolding without keep
without_pays t [] j d e same = absurd (let f : ⊥ = cc in f)
without_pays t (c ∷ cs) zero d e same = by_case (cases_eq c.step t) (without_owes t cs)
  where
    here : length c.task.outputs ≡ length d.task.outputs
    here = ap (λ (x : AskedCall). length x.task.outputs) (same_Some _ _ e)

    by_case : (o : (c.step ≡ t) ⊎ (c.step ≡ t → ⊥)) → owed (without t cs) ≤ owed cs → owed (keep c o (without t cs)) + length d.task.outputs ≤ length c.task.outputs + owed cs
    by_case (inl z) le = let h = here in omega (arith, le, h)
    by_case (inr z) le = absurd (z (ap (λ (x : AskedCall). x.step) (same_Some _ _ e) ∙ same))
without_pays t (c ∷ cs) (suc j) d e same = by_case (cases_eq c.step t) (without_pays t cs j d e same)
  where
    by_case : (o : (c.step ≡ t) ⊎ (c.step ≡ t → ⊥)) → owed (without t cs) + length d.task.outputs ≤ owed cs → owed (keep c o (without t cs)) + length d.task.outputs ≤ length c.task.outputs + owed cs
    by_case (inl z) le = omega (arith, le)
    by_case (inr z) le = omega (arith, le)

-- ---- the cells of outputs, as the laws have them

outputs_same : (first : ℕ) (outs : List Bind) (v : Sown) → with_outs first outs v ≡ with_outputs first outs v
outputs_same first [] v = refl
outputs_same first (b ∷ bs) v = ap (λ (u : Sown). with_value u first b.value) (outputs_same (first + 1) bs v)

ended_same : (first done : ℕ) (outs : List Bind) (v : Sown) → blocks.with_ended first done outs v ≡ with_ended first done outs v
ended_same first done outs v = ap (λ (u : Sown). with_value u done kind.Absent) (outputs_same first outs v)

-- ---- rows and tests

same_fun : {A B : Type 0} (f g : A → B) → ((x : A) → f x ≡ g x) → f ≡ g
same_fun f g h = λ i x. h x i

row_last : (rows : List Row) (r : Row) (place : List Segment) (attempt : ℕ) → has_row (rows ++ r ∷ []) place attempt ≡ (has_row rows place attempt || is_at place attempt r)
row_last [] r place attempt = by_test (is_at place attempt r)
  where
    by_test : (b : Bool) → (b || false) ≡ (false || b)
    by_test true = refl
    by_test false = refl
row_last (q ∷ rows) r place attempt = by_test (is_at place attempt q) (row_last rows r place attempt)
  where
    by_test : (b : Bool) → has_row (rows ++ r ∷ []) place attempt ≡ (has_row rows place attempt || is_at place attempt r) → (b || has_row (rows ++ r ∷ []) place attempt) ≡ ((b || has_row rows place attempt) || is_at place attempt r)
    by_test true e = refl
    by_test false e = e

split_test : (t a b : Bool) → (t && not (a || b)) ≡ ((t && not b) && not a)
split_test true true true = refl
split_test true true false = refl
split_test true false true = refl
split_test true false false = refl
split_test false a b = refl

-- of jobs without an answer over one row more: those without one over the rows, of those that are not at the row
abbrev elsewhere_too : Row → JobTest → JobTest
elsewhere_too r is q c = is q c && not (is_at q.place q.attempt r)

unanswered_more : (rows : List Row) (r : Row) (is : JobTest) → unanswered (rows ++ r ∷ []) is ≡ unanswered rows (elsewhere_too r is)
unanswered_more rows r is =
    same_fun (unanswered (rows ++ r ∷ []) is) (unanswered rows (elsewhere_too r is)) (λ (q : Request).
    same_fun (unanswered (rows ++ r ∷ []) is q) (unanswered rows (elsewhere_too r is) q) (λ (c : Successes).
    ap (λ (b : Bool). is q c && not b) (row_last rows r q.place q.attempt) ∙ split_test (is q c) (has_row rows q.place q.attempt) (is_at q.place q.attempt r)))

-- ---- what a step's rule is

abbrev layer_place : Statement-F Statement → Scope → List Segment
layer_place (layer.Call x) s = s.place ++ segment.Call x.name ∷ []
layer_place y s = []

abbrev rule_place : net.Rule → List Segment
rule_place (does x s g d) = layer_place (out-Statement x) s
rule_place (declares name e s c) = []
rule_place (gathers parts c) = []
rule_place (ends parts c) = []
rule_place (copies from c) = []

call_place : (x : TCall) (s : Scope) (g : Given) (d : ℕ) → rule_place (does (stmt.Call x) s g d) ≡ s.place ++ segment.Call x.name ∷ []
call_place x s g d = ap (λ (y : Statement-F Statement). layer_place y s) (stmt.outs-Call x)

-- ---- an answer

all_wait : (ready : List Prepared) → waiting ready any_job ≡ length ready
all_wait [] = refl
all_wait (x ∷ xs) = let e = sum_by-cons (λ (y : Prepared). cond (passes any_job y) 1 0) x xs in let f = all_wait xs in omega (arith, e, f)

-- what is left of the attempts that waited, and what is new
pub record Leaves (old new : List Prepared) (p : Prepared) : Type 0 where
  pub left : List Prepared
  pub fresh : List Prepared
  pub size : length left + 1 ≡ length old
  pub others : (is : Prepared → Bool) → count_by is left + cond (is p) 1 0 ≡ count_by is old
  pub ready : new ≡ left ++ fresh

module _ (checked : Checked) (layout : Layout) (main : ℕ) (given : List Bind) (site : List ℕ) (rows : List Row) (s : State) (h : IsHolding checked layout main given site rows s)
    (one : (i j : ℕ) (a b : Call) → slice_get s.asks.calls i ≡ Some a → slice_get s.asks.calls j ≡ Some b → a.place ≡ b.place → i ≡ j)
    (alone : (i j : ℕ) (a b : Prepared) → slice_get s.asks.ready i ≡ Some a → slice_get s.asks.ready j ≡ Some b → a.request.place ≡ b.request.place → i ≡ j) (at : ℕ) (c : Call)
    (c_there : slice_get s.asks.calls at ≡ Some c) (j : ℕ) (p : Prepared) (p_there : slice_get s.asks.ready j ≡ Some p) (same : c.place ≡ p.request.place) where
  abbrev lib : Library
  lib = library_in checked

  abbrev form : Form
  form = whole h.flow given [] h.names h.dones

  abbrev v : Sown
  v = s.field.plot.net

  abbrev is_ : List Instance
  is_ = s.field.plot.instances

  abbrev w : IsAwaited site rows s.asks.calls h.asked p
  w = h.awaited j p p_there

  abbrev b : AskedCall
  b = w.by

  abbrev q : IsAsker lib layout site rows h.growing.growth b
  q = h.growing.asks w.asker b w.by_there

  step_is : b.step ≡ c.step
  step_is =
      w.by_step
      ∙ ap (λ (d : Call). d.step) (same_Some _ _ (sym w.call_there ∙ ap (slice_get s.asks.calls) (one w.at at w.call c w.call_there c_there (w.place ∙ sym same)) ∙ c_there))

  abbrev z : Concludes lib layout site rows 24 form v is_ h.listed h.asked h.paid_by h.growing b q
  z = conclude lib layout site rows 24 form v is_ h.listed h.asked h.paid_by h.inputs_given h.growing b q

  abbrev pub i : ℕ
  i = z.i

  abbrev pub k : ℕ
  k = z.k

  pub code : slice_get v.rules c.step ≡ Some (rule.Statement i k)
  code = ap (slice_get v.rules) (sym step_is) ∙ z.code

  abbrev pub can : CanConclude checked layout s.field i k p
  can =
      record {
        instance = z.instance;
        body = z.body;
        flow = z.flow;
        line = z.line;
        statement = z.statement;
        here = record { of_instance = z.of_instance; line = z.line_there; statement = z.statement_there };
        call = q.call;
        is_call = z.statement_is;
        number = z.number;
        target_is = z.target_is;
        task = b.task;
        found = z.task_there;
        told = record { given = b.args; typed = z.typed; fit = z.given_fit; asked = w.asks_it };
        names = z.names;
        some = z.some;
        runs = z.runs;
      }

  -- ---- over one row more

  module _ (answer : Answer) where
    abbrev place : List Segment
    place = p.request.place

    abbrev attempt : ℕ
    attempt = p.request.attempt

    abbrev a : Asked
    a = asked_of p

    abbrev row : Row
    row = row_at place attempt answer

    abbrev more : List Row
    more = rows ++ row ∷ []

    abbrev goes : Goes lib layout site rows 24 form v is_ h.listed h.asked h.paid_by h.growing w.asker b w.by_there a attempt answer
    goes = arriving.answers lib layout site rows 24 form v is_ h.listed h.asked h.paid_by h.growing w.asker b w.by_there a attempt answer w.asks_it (subst (λ (o : List Segment). IsWaiting rows o a attempt) (sym w.by_place) w.waits)

    abbrev Arrived : List Segment → Sown → List AskedCall → (List Segment → Work) → Type 0
    Arrived o net later now = HasArrived lib layout site (rows ++ row_at o attempt answer ∷ []) 24 form net is_ h.listed later h.paid_by (work_after site o a attempt [] (o ∷ [])) (now o)

    here : (net : Sown) (later : List AskedCall) (now : List Segment → Work) → Arrived b.place net later now → Arrived place net later now
    here net later now arrived = subst (λ (o : List Segment). Arrived o net later now) w.by_place arrived

    abbrev hit : JobTest → ℕ
    hit is = cond (passes is p) 1 0

    abbrev answered_now : JobTest → ℕ
    answered_now is = h.answered is + hit is

    over_now : (is : JobTest) → answered_now (unanswered more is) ≡ 0
    over_now is =
        let old = ap h.answered (unanswered_more rows row is) ∙ h.over (elsewhere_too row is) in
        let there : has_row more place attempt ≡ true = row_last rows row place attempt ∙ ap (λ (t : Bool). has_row rows place attempt || t) (at_itself row) ∙ or_true (has_row rows place attempt) in
        let none : ◌≡◌ {A = ℕ} (hit (unanswered more is)) 0 = ap (λ (t : Bool). cond (is p.request (successes_of p.codes) && not t) 1 0) there ∙ ap (λ (t : Bool). cond t 1 0) (and-false (is p.request (successes_of p.codes))) in
        omega (arith, old, none)
      where
        or_true : (t : Bool) → (t || true) ≡ true
        or_true true = refl
        or_true false = refl

    -- ---- what waits still

    module _ (between : Asks) (taken : IsTaken at p s.asks between) where
      abbrev m : ℕ
      m = taken.ready.at

      counted_now : (is : Prepared → Bool) → count_by is between.ready + cond (is p) 1 0 ≡ count_by is s.asks.ready
      counted_now is = ap (λ (xs : List Prepared). count_by is xs + cond (is p) 1 0) taken.ready.rest ∙ counted_taken is s.asks.ready m p taken.ready.there

      size_now : length between.ready + 1 ≡ length s.asks.ready
      size_now = ap (λ (xs : List Prepared). length xs + 1) taken.ready.rest ∙ taken_length s.asks.ready m p taken.ready.there

      -- another attempt: it waited elsewhere
      other : (n : ℕ) (x : Prepared) → slice_get between.ready n ≡ Some x → (o : ℕ) × (slice_get s.asks.ready o ≡ Some x) × (x.request.place ≡ place → ⊥)
      other n x e =
          let o = taken_from s.asks.ready m p taken.ready.there n x (ap (λ (xs : List Prepared). slice_get xs n) (sym taken.ready.rest) ∙ e) in
          (o.0, o.1, λ f. o.2 (alone o.0 m x p o.1 taken.ready.there f))

      not_step : (o : ℕ) (x : Prepared) (e : slice_get s.asks.ready o ≡ Some x) → (x.request.place ≡ place → ⊥) → (h.awaited o x e).by.step ≡ b.step → ⊥
      not_step o x e away f =
          let u = h.awaited o x e in
          let r = h.growing.asks u.asker u.by u.by_there in
          let rules = ap (slice_get h.growing.growth.rules) f in
          let one_rule : does (stmt.Call r.call) r.scope r.given r.done ≡ does (stmt.Call q.call) q.scope q.given q.done = same_Some _ _ (sym r.rule ∙ rules ∙ q.rule) in
          away (sym u.by_place ∙ r.place ∙ sym (call_place r.call r.scope r.given r.done) ∙ ap rule_place one_rule ∙ call_place q.call q.scope q.given q.done ∙ sym q.place ∙ w.by_place)

      still : (later : List AskedCall) → ((d : AskedCall) (n : ℕ) → slice_get h.asked n ≡ Some d → (d.step ≡ b.step → ⊥) → (e : ℕ) × (slice_get later e ≡ Some d)) → (n : ℕ) (x : Prepared) → slice_get between.ready n ≡ Some x
          → IsAwaited site more between.calls later x
      still later kept n x e =
          let o = other n x e in
          let u = h.awaited o.0 x o.1 in
          let l = kept u.by u.asker u.by_there (not_step o.0 x o.1 o.2) in
          record {
            at = u.at;
            call = u.call;
            call_there = taken.calls.others u.at (λ f. o.2 (sym u.place ∙ ap (λ (d : Call). d.place) (same_Some _ _ (sym u.call_there ∙ ap (slice_get s.asks.calls) f ∙ c_there)) ∙ same)) ∙ u.call_there;
            place = u.place;
            asker = l.0;
            by = u.by;
            by_there = l.1;
            by_step = u.by_step;
            by_place = u.by_place;
            asks_it = u.asks_it;
            is = u.is;
            waits = arrive.others rows row x.request.place (asked_of x) x.request.attempt o.2 u.waits;
          }

      called_now : (n : ℕ) (d : Call) → slice_get between.calls n ≡ Some d → (o : ℕ) × (e : Call) × (slice_get s.asks.calls o ≡ Some e) × (e.place ≡ d.place)
      called_now n d e = by_case (cases_eq n at)
        where
          by_case : (n ≡ at) ⊎ (n ≡ at → ⊥) → (o : ℕ) × (x : Call) × (slice_get s.asks.calls o ≡ Some x) × (x.place ≡ d.place)
          by_case (inl f) = (at, c, c_there, ap (λ (x : Call). x.place) (same_Some _ _ (sym (taken.calls.here c c_there) ∙ ap (slice_get between.calls) (sym f) ∙ e)))
          by_case (inr f) = (n, d, sym (taken.calls.others n f) ∙ e, refl)

      -- ---- it holds

      -- the plan holds with this field and these attempts, where the lists tell of what has grown
      abbrev Held : Field → Asks → Type 0
      Held new after = IsHolding checked layout main given site more (record { field = new; asks = after })

      holds : (new : Field) (after : Asks) (net : Sown) (later : List AskedCall) (now : List Segment → Work) (arrived : Arrived place net later now) → new.plot ≡ with_net s.field.plot net → new.count ≡ s.field.count → after.jobs ≤ 20000
          → ((is : JobTest) → jobs_in (work_after site place a attempt [] (place ∷ [])) is ≤ jobs_in (now place) is) → owed later ≤ h.paid_by task_cost
          → Listed arrived.lists (λ (is : JobTest). waiting after.ready is + answered_now is) new.faults s.field.count → after.jobs ≡ length after.ready + answered_now any_job
          → ((n : ℕ) (x : Prepared) → slice_get after.ready n ≡ Some x → IsAwaited site more after.calls later x) → after.calls ≡ between.calls
          → (k : Held new after) × (k.paid_by task_cost ≡ h.paid_by task_cost) × (owed k.asked ≡ owed later)
      holds new after net later now arrived plot count few grow owes lists jobs awaited calls =
          let more_jobs = λ (is : JobTest). (let e = arrived.swaps (λ (y : Work). jobs_in y is) (jobs_weigh is) in let g = grow is in no_less (jobs_in arrived.lists is) (jobs_in (work_after site place a attempt [] (place ∷ [])) is) (jobs_in h.listed is) (jobs_in (now place) is) e g) in (
            record {
              flow = h.flow;
              there = h.there;
              inputs_given = h.inputs_given;
              names = h.names;
              dones = h.dones;
              distinct = h.distinct;
              line = h.line;
              line_there = h.line_there;
              outputs = h.outputs;
              few_count = (let f = h.few_count in omega (arith, f, count));
              few_jobs = few;
              listed = arrived.lists;
              even = arrived.even;
              paid_by = h.paid_by;
              asked = later;
              growing =
                  subst (λ (y : Plot). IsGrowing lib layout site more 24 form y.net y.instances arrived.lists later h.paid_by) (sym plot) arrived.growing;
              answered = answered_now;
              lists = subst (λ (n : ℕ). Listed arrived.lists (λ (is : JobTest). waiting after.ready is + answered_now is) new.faults n) (sym count) lists;
              over = over_now;
              jobs = jobs;
              awaited = awaited;
              called = λ n d e. (
                  let o = called_now n d (ap (λ (cs : List Call). slice_get cs n) (sym calls) ∙ e) in
                  let old = subst (λ (r : List Segment). 0 < jobs_in h.listed (at_place r)) o.3 (h.called o.0 o.1 o.2) in
                  let g = more_jobs (at_place d.place) in
                  omega (arith, old, g));
              owes = owes;
              rowed = λ r among. rowed_now arrived.lists more_jobs r (Contains-append_cases rows (row ∷ []) r among);
            },
            refl,
            refl,
          )
        where
          no_less : (x was old now_ : ℕ) → x + was ≡ old + now_ → was ≤ now_ → old ≤ x
          no_less x was old now_ e g = omega (arith, e, g)

          rowed_now : (lists_ : Work) → ((is : JobTest) → jobs_in h.listed is ≤ jobs_in lists_ is) → (r : Row) → Contains rows r ⊎ Contains (row ∷ []) r → 0 < jobs_in lists_ (at_place r.place)
          rowed_now lists_ g r (inl among) = let old = h.rowed r among in let le = g (at_place r.place) in omega (arith, old, le)
          rowed_now lists_ g r (inr among) =
              let is_row : row ≡ r = only_one among in
              let old = h.called at c c_there in
              let le = g (at_place c.place) in
              subst (λ (o : Row). 0 < jobs_in lists_ (at_place o.place)) is_row (subst (λ (o : List Segment). 0 < jobs_in lists_ (at_place o)) same (omega (arith, old, le)))

      -- ---- what each kind of answer makes of it

      abbrev outputs_count : ℕ
      outputs_count = length b.task.outputs

      -- It holds, so many evaluations more are paid for, and the attempt left.
      abbrev pub After : Field → Asks → ℕ → Type 0
      After new after spent =
          (k : Held new after) × (spent + paid_of checked layout main given site rows h ≤ paid_of checked layout main given site more k) × Leaves s.asks.ready after.ready p

      same_jobs : (o : List Segment) (faults now_faults : List Fault) (waits now_waits : List (List Segment)) (is : JobTest) → jobs_in (work_after site o a attempt faults waits) is ≡ jobs_in (work_after site o a attempt now_faults now_waits) is
      same_jobs o faults now_faults waits now_waits is = refl

      later_none : List AskedCall
      later_none = without b.step h.asked

      among_none : AreAmong later_none h.asked
      unfolding later_none
      among_none n d e = let o = without_among b.step h.asked n d e in (o.0, o.1)

      none_of : NoneOf later_none b.step
      unfolding later_none
      none_of n d e = (without_among b.step h.asked n d e).2

      kept_none : (d : AskedCall) (n : ℕ) → slice_get h.asked n ≡ Some d → (d.step ≡ b.step → ⊥) → (e : ℕ) × (slice_get later_none e ≡ Some d)
      unfolding later_none
      kept_none d n e away = without_keeps b.step h.asked n d e away

      owes_none : owed later_none + outputs_count ≤ owed h.asked
      unfolding later_none
      owes_none = without_pays b.step h.asked w.asker b w.by_there refl

      leaves_none : Leaves s.asks.ready between.ready p
      leaves_none = record { left = between.ready; fresh = []; size = size_now; others = counted_now; ready = sym (append-nil between.ready) }

      -- the call has ended, or has a fault
      ends_with : (new : Field) (net : Sown) (faults : List Fault) → Arrived place net later_none (λ o. work_after site o a attempt faults []) → new.plot ≡ with_net s.field.plot net → new.count ≡ s.field.count
          → new.faults ≡ s.field.faults ++ faults → (spent : ℕ) → spent ≤ outputs_count → After new between spent
      ends_with new net faults arrived plot count faults_are spent le =
          let size = size_now in
          let jobs = h.jobs in
          let left = taken.jobs in
          let few = h.few_jobs in
          let hits : ◌≡◌ {A = ℕ} (hit any_job) 1 = refl in
          let lists =
          listing.answers h.listed arrived.lists (work_after site place a attempt [] (place ∷ [])) (work_after site place a attempt faults []) (λ (is : JobTest). waiting s.asks.ready is + h.answered is) (λ (is : JobTest). waiting between.ready is + answered_now is)
          s.field.faults s.field.count h.lists arrived.swaps refl refl (λ is. let e = counted_now (passes is) in omega (arith, e)) in
          let owes = owes_none in
          let paid = h.owes in
          let k =
          holds new between net later_none (λ o. work_after site o a attempt faults []) arrived plot count (omega (arith, left, few)) (λ is. omega arith) (omega (arith, owes, paid))
          (subst (λ (fs : List Fault). Listed arrived.lists (λ (is : JobTest). waiting between.ready is + answered_now is) fs s.field.count) (sym faults_are) lists) (omega (arith, left, jobs, size, hits))
          (still later_none kept_none) refl in
          let paid_is = k.1 in
          let owed_is = k.2 in
          (k.0, omega (arith, paid_is, owed_is, owes, paid, le), leaves_none)

      -- the next attempt waits
      again_with : (new : Field) (after : Asks) → attempt < p.retries → is_success a.codes answer.status ≡ false → new.plot ≡ s.field.plot → new.count ≡ s.field.count → new.faults ≡ s.field.faults
          → after ≡ record { ready = between.ready ++ next_of site p ∷ []; calls = between.calls; jobs = between.jobs + 1 } → after.jobs ≤ 20000 → (spent : ℕ) → spent ≤ 0 → After new after spent
      again_with new after lt refused plot count faults_are after_is few spent le =
          subst (λ (y : Asks). After new y spent) (sym after_is)
          (let size = size_now in
          let jobs = h.jobs in
          let left = taken.jobs in
          let e_next = goes.again refused lt h.asked (λ n d e. (n, e)) in
          let arrived : Arrived place v h.asked (λ o. work_after site o a (attempt + 1) [] (o ∷ [])) = here v h.asked (λ o. work_after site o a (attempt + 1) [] (o ∷ [])) e_next.0 in
          let waits_next : IsWaiting more place a (attempt + 1) = subst (λ (o : List Segment). IsWaiting (rows ++ row_at o attempt answer ∷ []) o a (attempt + 1)) w.by_place e_next.1 in
          let hits : ◌≡◌ {A = ℕ} (hit any_job) 1 = refl in
          let after_now : Asks = record { ready = between.ready ++ next_of site p ∷ []; calls = between.calls; jobs = between.jobs + 1 } in
          let few_now = subst (λ (y : Asks). y.jobs ≤ 20000) after_is few in
          let long = length-append between.ready (next_of site p ∷ []) in
          let one_more = λ (is : JobTest). listing.attempts site place a attempt [] [] (place ∷ []) (place ∷ []) is in
          let lists =
          listing.answers h.listed arrived.lists (work_after site place a attempt [] (place ∷ [])) (work_after site place a (attempt + 1) [] (place ∷ [])) (λ (is : JobTest). waiting s.asks.ready is + h.answered is)
          (λ (is : JobTest). waiting after_now.ready is + answered_now is) s.field.faults s.field.count h.lists arrived.swaps refl refl (λ is.
          let e = counted_now (passes is) in
          let f = sum_by-append (λ (y : Prepared). cond (passes is y) 1 0) between.ready (next_of site p ∷ []) in
          let g = sum_by-cons (λ (y : Prepared). cond (passes is y) 1 0) (next_of site p) [] in
          let o = one_more is in
          omega (arith, e, f, g, o)) in
          let owes = h.owes in
          let k =
          holds new after_now v h.asked (λ o. work_after site o a (attempt + 1) [] (o ∷ [])) arrived plot count few_now (λ is. let o = one_more is in omega (arith, o)) owes
          (subst (λ (fs : List Fault). Listed arrived.lists (λ (is : JobTest). waiting after_now.ready is + answered_now is) fs s.field.count) (sym (faults_are ∙ sym (append-nil s.field.faults))) lists) (omega (arith, left, jobs, size, hits, long))
          (λ n x e. awaited_more waits_next n x (get_split between.ready (next_of site p ∷ []) n x e)) refl in
          let paid_is = k.1 in
          let owed_is = k.2 in
          (k.0, omega (arith, paid_is, owed_is, owes, le), record { left = between.ready; fresh = next_of site p ∷ []; size = size_now; others = counted_now; ready = refl }))
        where
          awaited_more : IsWaiting more place a (attempt + 1) → (n : ℕ) (x : Prepared) → (slice_get between.ready n ≡ Some x) ⊎ ((o : ℕ) × (n ≡ length between.ready + o) × (slice_get (next_of site p ∷ []) o ≡ Some x)) → IsAwaited site more between.calls h.asked x
          awaited_more waits_next n x (inl e) = still h.asked (λ d o f away. (o, f)) n x e
          awaited_more waits_next n x (inr (zero, e, f)) =
              subst (IsAwaited site more between.calls h.asked) (same_Some _ _ f)
              (record {
                at = at;
                call = record { place = c.place; step = c.step; last = Some attempt };
                call_there = taken.calls.here c c_there;
                place = same;
                asker = w.asker;
                by = b;
                by_there = w.by_there;
                by_step = step_is;
                by_place = w.by_place;
                asks_it = w.asks_it;
                is = refl;
                waits = waits_next;
              })
          awaited_more waits_next n x (inr (suc o, e, f)) = absurd (let g : ⊥ = cc in g)

      -- ---- by the answer's status, and by what it tells

      abbrev told : Tried (List Bind)
      told = tells lib.structs b.task a p.request.dir answer

      dir_is : p.request.dir ≡ job_dir site b.place attempt
      dir_is = ap (λ (r : Request). r.dir) w.is ∙ ap (λ (o : List Segment). job_dir site o attempt) (sym w.by_place)

      told_is : tells lib.structs b.task a (job_dir site b.place attempt) answer ≡ told
      told_is = ap (λ (d : List ℕ). tells lib.structs b.task a d answer) (sym dir_is)

      by_told : is_success a.codes answer.status ≡ true → (o : Tried (List Bind)) → told ≡ o → (new : Field) → new ≡ concluded s.field z.instance.bases z.line p o → (spent : ℕ) → spent ≤ outputs_count → After new between spent
      by_told success (Ok outs) e new new_is spent le =
          let base = last_base z.instance.bases in
          let net = blocks.with_ended (base + z.line.first_name) (base + z.line.done) outs v in
          let facts = z.ends a (job_dir site b.place attempt) answer outs (told_is ∙ e) in
          let arrived = here net later_none (λ o. work_after site o a attempt [] []) (goes.done success outs (told_is ∙ e) net facts.0 facts.1 later_none among_none none_of) in
          ends_with new net [] arrived
          (ap (λ (f : Field). f.plot) new_is ∙ ap (with_net s.field.plot) (sym (ended_same (base + z.line.first_name) (base + z.line.done) outs v))) (ap (λ (f : Field). f.count) new_is)
          (ap (λ (f : Field). f.faults) new_is ∙ sym (append-nil s.field.faults)) spent le
      by_told success (Err f) e new new_is spent le =
          let arrived = here v later_none (λ o. work_after site o a attempt (failing_at o f ∷ []) []) (goes.failed success f (told_is ∙ e) later_none among_none) in
          ends_with new v (failing_at place f ∷ []) (fixed f arrived) (ap (λ (y : Field). y.plot) new_is) (ap (λ (y : Field). y.count) new_is) (ap (λ (y : Field). y.faults) new_is) spent le
        where
          fixed : (f : Failing) → Arrived place v later_none (λ o. work_after site o a attempt (failing_at o f ∷ []) []) → Arrived place v later_none (λ o. work_after site o a attempt (failing_at place f ∷ []) [])
          fixed f arrived = arrived

      -- what it costs at the most
      abbrev pub Spends : ℕ → Bool → Type 0
      Spends spent true = spent ≤ outputs_count
      Spends spent false = spent ≤ 0

      by_limit : is_success a.codes answer.status ≡ false → (new : Field) (after : Asks) → new.plot ≡ s.field.plot → new.count ≡ s.field.count → after.jobs ≤ 20000 → (spent : ℕ) → spent ≤ 0 → (t : Bool) → nat_lt attempt p.retries ≡ t
          → IsRefused site p answer.status s.field.faults between new.faults after t → After new after spent
      by_limit refused new after plot count few spent le true e r = again_with new after (ltb-true attempt p.retries e) refused plot count r.0 r.1 few spent le
      by_limit refused new after plot count few spent le false e r =
          let last = ltb-false attempt p.retries e in
          let arrived = here v later_none (λ o. work_after site o a attempt (failing_at o (bad_status answer.status) ∷ []) []) (goes.refused refused last later_none among_none) in
          subst (λ (y : Asks). After new y spent) (sym r.1) (ends_with new v (failing_at place (bad_status answer.status) ∷ []) (fixed arrived) plot count r.0 spent (omega (arith, le)))
        where
          fixed : Arrived place v later_none (λ o. work_after site o a attempt (failing_at o (bad_status answer.status) ∷ []) []) → Arrived place v later_none (λ o. work_after site o a attempt (failing_at place (bad_status answer.status) ∷ []) [])
          fixed arrived = arrived

      by_status : (t : Bool) → is_success a.codes answer.status ≡ t → (new : Field) (after : Asks) → Answered checked layout site i k p answer s.field between new after t → after.jobs ≤ 20000 → (spent : ℕ) → Spends spent t → After new after spent
      by_status true success new after did few spent le = subst (λ (y : Asks). After new y spent) (sym did.1) (by_told success told refl new (did.0 can) spent le)
      by_status false refused new after did few spent le = by_limit refused new after did.0 did.1 few spent le (goes_on p) refl did.2

      -- What 4's equations say of the state makes the plan hold over one row more.
      pub answer_holds : (new : Field) (after : Asks) → Answered checked layout site i k p answer s.field between new after (is_success (successes_of p.codes) answer.status) → after.jobs ≤ 20000 → (spent : ℕ)
          → Spends spent (is_success (successes_of p.codes) answer.status) → After new after spent
      answer_holds new after did few spent le = by_status (is_success (successes_of p.codes) answer.status) refl new after did few spent le

    -- ---- too many

    -- The next attempt is one more than there may be, and so the workflow has too many.
    pub answer_many : is_success (successes_of p.codes) answer.status ≡ false → goes_on p ≡ true → 20000 ≤ s.asks.jobs → too_many (flow (run_with lib site more) 25 main given []) ≡ true
    answer_many refused on past =
        let e_next = goes.again refused (ltb-true attempt p.retries on) h.asked (λ n d e. (n, e)) in
        let arrived : Arrived place v h.asked (λ o. work_after site o a (attempt + 1) [] (o ∷ [])) = here v h.asked (λ o. work_after site o a (attempt + 1) [] (o ∷ [])) e_next.0 in
        let g = arrived.growing in
        let sheet = sheet_of v g.growth.rules in
        let swapped = arrived.swaps (λ (y : Work). jobs_in y any_job) (jobs_weigh any_job) in
        let one_more = listing.attempts site place a attempt [] [] (place ∷ []) (place ∷ []) any_job in
        let total = h.lists.jobs_are any_job in
        let waits = all_wait s.asks.ready in
        let jobs = h.jobs in
        too_many_now lib site more sheet g.growth.owners 24 main h.flow h.there given [] h.names h.dones g.growth.grown (jobs_in arrived.lists) arrived.lists.faults arrived.lists.count
        (listing.works (work_of lib site more (rules_of sheet) (state_of sheet g.growth.owners) g.growth.grown) arrived.lists g.weighs)
        (or_left (nat_lt 20000 (jobs_in arrived.lists any_job)) (nat_lt 1000000 arrived.lists.count) (lt-ltb 20000 (jobs_in arrived.lists any_job) (omega (arith, swapped, one_more, total, waits, jobs, past))))
