-- What a plan shows where nothing is ready is what its flow gives.
use Rattle.std.proofs.Common.{suc, ◌≡◌, ◌≤◌, ◌+◌, ℕ, Bool, true, false, cond, not, nat_lt, ◌&&◌, ◌||◌, ◌⊎◌, inl, inr, List, [], ◌∷◌, ◌++◌, map, Option, Some, None, length, slice_get, arith, sym, ap, ◌∙◌, refl}
use Rattle.std.proofs.lemmas.Bool.{and_parts, false≢true, false_from_ne_true, ltb-true, or_cases}
use Rattle.std.proofs.lemmas.List.Sums.{sum_by-cons}
use Rattle.wdl_base.specs.declared.place.Segment.{Segment}
use Rattle.wdl_value.specs.declared.env.Bind.{Bind}
use Rattle.wdl_value.specs.declared.value.Value.{Value}
use Rattle.wdl_value.specs.Tables.{Row, answer_at, has_row, is_at}
use Rattle.wdl_typed.specs.declared.checked.Checked.{Checked}
use Rattle.wdl_typed.specs.declared.task.TDecl.{TDecl}
use Rattle.wdl_typed.specs.Declarations.{plain_key}
use Rattle.wdl_typed.specs.Flow.{Flowing, bound_by, env_of, is_clean, is_empty, known, outputs_of, too_many, value_in}
use Rattle.wdl_task.specs.declared.request.Prepared.{Prepared}
use Rattle.value_net.specs.Nets.{value_at}
use Rattle.flow_laws.specs.Laws.{run_with}
use Rattle.net_laws.specs.Cost.{flow_cost}
use Rattle.plan_layout.specs.declared.layout.Layout.{Layout}
use Rattle.plan_lists.specs.Laws.{TellsFlow}
use Rattle.plan_lists.specs.Lists.{JobTest, any_job, unanswered}
use Rattle.plan_ends.specs.Ends.{EndsAs}
use Rattle.plan_ends.proofs.Ends.{growths_end}
use Rattle.plan_steps.specs.Doing.{State}
use Rattle.scatter_plan.specs.Holding.{IsHolding, passes, task_cost, waiting}
use Rattle.scatter_plan.specs.Settling.{IsSettled, env_at, is_over, main_flow, outputs_when}
use Rattle.plan_steps.specs.Stepping.{library_in}
use Rattle.plan_lists.proofs.Ends.{is_nothing}

-- ---- what waits has no answer

no_answer : (rows : List Row) (place : List Segment) (attempt : ℕ) → answer_at rows place attempt ≡ None → has_row rows place attempt ≡ false
no_answer [] place attempt h = refl
no_answer (r ∷ rows) place attempt h = by_test (no_answer rows place attempt) (is_at place attempt r) h
  where
    by_test : (answer_at rows place attempt ≡ None → has_row rows place attempt ≡ false) → (b : Bool) → cond b (Some r.answer) (answer_at rows place attempt) ≡ None → (b || has_row rows place attempt) ≡ false
    by_test rest true e = cc
    by_test rest false e = rest e

and_true : (a b : Bool) → b ≡ true → (a && b) ≡ a
and_true true b h = h
and_true false b h = refl

same_waiting : (rows : List Row) (is : JobTest) (ready : List Prepared) → ((k : ℕ) (p : Prepared) → slice_get ready k ≡ Some p → has_row rows p.request.place p.request.attempt ≡ false)
    → waiting ready (unanswered rows is) ≡ waiting ready is
same_waiting rows is [] h = refl
same_waiting rows is (p ∷ ps) h =
    omega (
      arith,
      sum_by-cons (λ (x : Prepared). cond {A = ℕ} (passes (unanswered rows is) x) 1 0) p ps,
      sum_by-cons (λ (x : Prepared). cond {A = ℕ} (passes is x) 1 0) p ps,
      ap (λ b. cond {A = ℕ} b 1 0) (and_true (passes is p) (not (has_row rows p.request.place p.request.attempt)) (ap not (h 0 p refl))),
      same_waiting rows is ps (λ k x e. h (suc k) x e),
    )

all_waiting : (ready : List Prepared) → waiting ready any_job ≡ length ready
all_waiting [] = refl
all_waiting (p ∷ ps) = omega (arith, sum_by-cons (λ (x : Prepared). cond {A = ℕ} (passes any_job x) 1 0) p ps, all_waiting ps)

-- ---- the outputs

env_same : (f : Flowing) (values : List (Option Value)) (first : ℕ) (ds : List TDecl) → ((k : ℕ) (d : TDecl) → slice_get ds k ≡ Some d → value_in (plain_key d.name) f ≡ value_at values (first + k))
    → env_at values first ds ≡ env_of (map (λ (d : TDecl). known d.name (value_in (plain_key d.name) f)) ds)
env_same f values first [] h = refl
env_same f values first (d ∷ ds) h =
    ap (λ (o : Option Value). bound_by (plain_key d.name) o ++ env_at values (first + 1) ds) (sym (h 0 d refl ∙ ap (value_at values) (omega arith)))
    ∙ ap (λ (e : List Bind). bound_by (plain_key d.name) (value_in (plain_key d.name) f) ++ e)
    (env_same f values (first + 1) ds (λ k x e. h (suc k) x e ∙ ap (value_at values) (omega arith)))

-- ---- where nothing is ready

module _ (c : Checked) (layout : Layout) (main : ℕ) (given : List Bind) (site : List ℕ) (rows : List Row) (s : State) (x : IsSettled c layout main given site rows s) where
  abbrev h : IsHolding c layout main given site rows s
  h = x.holding

  abbrev f : Flowing
  f = main_flow c main given site rows

  open_ready : (k : ℕ) (p : Prepared) → slice_get s.asks.ready k ≡ Some p → has_row rows p.request.place p.request.attempt ≡ false
  open_ready k p e = no_answer rows p.request.place p.request.attempt ((h.awaited k p e).waits.unanswered p.request.attempt (omega arith))

  ends : EndsAs (library_in c) site rows 24 main given [] h.names s.field.plot.net (waiting s.asks.ready) h.answered s.field.faults s.field.count h.paid_by
  ends =
      growths_end (library_in c) c.main c.kept layout site rows 24 main h.flow h.there given [] h.names h.dones h.distinct s.field.plot.net s.field.plot.instances h.listed h.asked h.paid_by h.growing x.stuck
      (waiting s.asks.ready) h.answered s.field.faults s.field.count h.lists (λ t. same_waiting rows t s.asks.ready open_ready) h.over

  pub tells : TellsFlow f rows (waiting s.asks.ready) h.answered s.field.faults s.field.count
  tells = ends.ended.tells

  pub few : too_many f ≡ false
  few = false_from_ne_true (too_many f) (λ m. by_case (or_cases (nat_lt 20000 (length f.jobs)) (nat_lt 1000000 f.count) m))
    where
      by_case : (nat_lt 20000 (length f.jobs) ≡ true) ⊎ (nat_lt 1000000 f.count ≡ true) → ⊥
      by_case (inl k) = let a = tells.jobs_are in let j = h.jobs in omega (arith, ltb-true 20000 (length f.jobs) k, a, all_waiting s.asks.ready, j, h.few_jobs)
      by_case (inr k) = let a = tells.count_is in omega (arith, ltb-true 1000000 f.count k, a, h.few_count)

  pub paid_within : h.paid_by task_cost ≤ flow_cost (run_with (library_in c) site rows) task_cost 25 main given []
  paid_within = ends.within task_cost

  over_clean : is_over s ≡ is_clean f
  over_clean = by_test (is_over s) (is_clean f) refl refl
    where
      none : (xs : List Prepared) → length xs ≡ 0 → xs ≡ []
      none [] h = refl
      none (x ∷ xs) h = absurd (omega (arith, h))

      by_test : (a b : Bool) → is_over s ≡ a → is_clean f ≡ b → a ≡ b
      by_test true true e k = refl
      by_test false false e k = refl
      by_test true false e k =
          let p = and_parts (is_empty s.asks.ready) (is_empty s.field.faults) e in
          absurd (false≢true (sym k ∙ tells.clean.1 (is_nothing s.field.faults p.1) (all_waiting s.asks.ready ∙ ap length (is_nothing s.asks.ready p.0))))
      by_test false true e k =
          let p = tells.clean.0 k in
          absurd (false≢true (sym e ∙ ap (λ (l : List Prepared). is_empty l && is_empty s.field.faults) (none s.asks.ready (sym (all_waiting s.asks.ready) ∙ p.1)) ∙ ap is_empty p.0))

  pub shown_outputs : outputs_when (is_over s) s.field.plot.net.values h.line.first_output h.flow.outputs ≡ cond (is_clean f) (Some (outputs_of f h.flow)) None
  shown_outputs =
      ap (λ b. cond b (Some (env_at s.field.plot.net.values h.line.first_output h.flow.outputs)) None) over_clean
      ∙ ap (λ (e : List Bind). cond (is_clean f) (Some e) None)
      (env_same f s.field.plot.net.values h.line.first_output h.flow.outputs (λ k d e. ends.ended.values (plain_key d.name) (h.line.first_output + k) (h.outputs k d e)))
