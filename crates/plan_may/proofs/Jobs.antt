-- Each job of what grows stands at the place of a call that was asked.
use Rattle.std.proofs.Common.{◌≡◌, ℕ, zero, suc, ◌+◌, Bool, true, false, cond, ◌&&◌, ◌⊎◌, inl, inr, List, [], ◌∷◌, ◌++◌, Contains, Option, Some, None, Ok, Err, slice_get, arith, ap, refl, subst, sym}
use Rattle.std.specs.List.{list_all}
use Rattle.std.proofs.lemmas.List.Elements.{Contains-append_cases, Contains-append_left, Contains-append_right}
use Rattle.wdl_base.specs.declared.answer.Answer.{Answer}
use Rattle.wdl_base.specs.declared.place.Segment.{Segment}
use Rattle.wdl_base.specs.declared.place.Segment.TheVariants as segment
use Rattle.wdl_base.specs.declared.request.Request.{Request}
use Rattle.wdl_value.specs.declared.env.Bind.{Bind}
use Rattle.wdl_value.specs.declared.value.Value.{Value}
use Rattle.wdl_value.specs.Outcome.{Outcome}
use Rattle.wdl_value.specs.Tables.{Row, answer_at}
use Rattle.wdl_typed.specs.declared.expr.TExpr.{TExpr}
use Rattle.wdl_typed.specs.declared.flow.TCall.{TCall}
use Rattle.wdl_typed.specs.declared.flow.Target.{Target}
use Rattle.wdl_typed.specs.declared.flow.Target.TheVariants as target
use Rattle.wdl_typed.specs.declared.task.TaskDef.{TaskDef}
use Rattle.wdl_typed.specs.Bodies.{Library}
use Rattle.wdl_typed.specs.Evaluation.{value_of}
use Rattle.wdl_typed.specs.Flow.{Callee, Flowing, Names, Run, Sight, all_known, args_known, args_met, asked, attempted, attempts, call_of, called, concluded, declaration, declared_as, env_of, failing_at, flow, has_ended, known, missing, named, task_called, with_args, with_fault, with_jobs}
use Rattle.wdl_typed.specs.Requests.{Asked, Failing, Tried, asks, bad_status, before, is_success, job_dir, request, tells}
use Rattle.flow_laws.specs.Laws.{run_with}
use Rattle.flow_laws.proofs.Elements.{first_or_later, none_within}
use Rattle.net_laws.specs.Askers.{Asker}
use Rattle.net_laws.specs.Net.{Scope, Work}
use Rattle.net_laws.specs.Planned.{call_names}
use Rattle.net_laws.specs.Rules.{own_sight}
use Rattle.net_laws.specs.Growing.{Declared, Form, Growing, Rule, State, absent_input, default_input, each_scatter, failed_if, failed_scatter, false_if, flow_whole, given_input, item_next, left_call, left_decl, left_if, left_scatter, next, no_input, no_item, no_output, none_left, output_next, run_call, told_call, told_decl, true_if}
use Rattle.net_laws.specs.Works.{told_work, work_of}
use Rattle.plan_may.proofs.Callers.{callers}

-- The jobs stand at the place.
abbrev At : List Segment → Flowing → Type 0
At place f = (x : Request) → Contains f.jobs x → x.place ≡ place

none_at : (place : List Segment) (x : Request) → Contains [] x → x.place ≡ place
none_at place x c = absurd (none_within x c)

-- ---- declarations

declared_none : (place : List Segment) (name : List ℕ) (o : Outcome Value) (x : Request) → Contains (declared_as place name o).jobs x → ⊥
declared_none place name (Ok y) x c = none_within x c
declared_none place name (Err e) x c = none_within x c

declaration_none : (s : Sight) (name : List ℕ) (e : TExpr) (x : Request) → Contains (declaration s name e).jobs x → ⊥
declaration_none s name e = by_test (all_known s.names e)
  where
    by_test : (b : Bool) (x : Request) → Contains (cond b (declared_as s.place name (value_of (before (env_of s.names)) e)) (named (known name None))).jobs x → ⊥
    by_test true = declared_none s.place name (value_of (before (env_of s.names)) e)
    by_test false = λ x c. none_within x c

-- ---- calls of tasks, and calls whose arguments failed

module _ (r : Run) (callee : Callee) (x : TCall) (place : List Segment) where
  abbrev n : Names
  n = call_names r.library x

  either_at : (b : Bool) (f g : Flowing) → At place f → At place g → At place (cond b f g)
  either_at true f g h j = h
  either_at false f g h j = j

  concluded_at : (o : Tried (List Bind)) → At place (concluded n place x.name o)
  concluded_at (Ok outs) = none_at place
  concluded_at (Err e) = none_at place

  attempted_at : (t : TaskDef) (a : Asked) (attempt : ℕ) (last : Bool) (later : Flowing) → At place later → (o : Option Answer) → At place (attempted r n place t x.name a attempt last later o)
  attempted_at t a attempt last later h None = none_at place
  attempted_at t a attempt last later h (Some answer) =
      either_at (is_success a.codes answer.status) (concluded n place x.name (tells r.library.structs t a (job_dir r.site place attempt) answer))
      (cond last (with_fault (failing_at place (bad_status answer.status)) (missing n)) later) (concluded_at (tells r.library.structs t a (job_dir r.site place attempt) answer))
      (either_at last (with_fault (failing_at place (bad_status answer.status)) (missing n)) later (none_at place) h)

  job_at : (a : Asked) (attempt : ℕ) (f : Flowing) → At place f → At place (with_jobs (request r.site place attempt a ∷ []) (a.codes ∷ []) f)
  job_at a attempt f h x c = by_case (first_or_later (request r.site place attempt a) f.jobs x c)
    where
      by_case : (request r.site place attempt a ≡ x) ⊎ Contains f.jobs x → x.place ≡ place
      by_case (inl e) = sym (ap (λ (q : Request). q.place) e)
      by_case (inr d) = h x d

  attempts_at : (t : TaskDef) (a : Asked) (left attempt : ℕ) → At place (attempts r n place t x.name a left attempt)
  attempts_at t a zero attempt = job_at a attempt (attempted r n place t x.name a attempt true (missing n) (answer_at r.table place attempt)) (attempted_at t a attempt true (missing n) (none_at place) (answer_at r.table place attempt))
  attempts_at t a (suc left) attempt =
      job_at a attempt (attempted r n place t x.name a attempt false (attempts r n place t x.name a left (attempt + 1)) (answer_at r.table place attempt))
      (attempted_at t a attempt false (attempts r n place t x.name a left (attempt + 1)) (attempts_at t a left (attempt + 1)) (answer_at r.table place attempt))

  asked_at : (t : TaskDef) (o : Tried Asked) → At place (asked r n place t x.name o)
  asked_at t (Ok a) = attempts_at t a a.retries 0
  asked_at t (Err e) = none_at place

  with_args_at : (o : Tried (List Bind)) → ((k : ℕ) × (t : TaskDef) × (x.target ≡ target.Task k) × (slice_get r.library.tasks k ≡ Some t)) ⊎ ((e : Failing) × (o ≡ Err e))
      → At place (with_args r callee n place x o)
  with_args_at (Err e) h = none_at place
  with_args_at (Ok args) (inl h) =
      subst (λ (g : Target). At place (called r callee n place x args g)) (sym h.2) (subst (λ (o : Option TaskDef). At place (task_called r n place x.name args o)) (sym h.3) (asked_at h.1 (asks h.1 args)))
  with_args_at (Ok args) (inr h) = absurd (apart h.1)
    where
      apart : {A B : Type 0} {a : A} {b : B} → Ok a ≡ Err b → ⊥
      apart e = cc

call_at : (r : Run) (callee : Callee) (x : TCall) (y : Sight)
    → ((k : ℕ) × (t : TaskDef) × (x.target ≡ target.Task k) × (slice_get r.library.tasks k ≡ Some t)) ⊎ ((e : Failing) × (args_met (env_of y.names) x.args ≡ Err e))
    → At (y.place ++ segment.Call x.name ∷ []) (call_of r callee (call_names r.library x) x y)
call_at r callee x y plain = by_test (args_known y.names x.args && list_all (has_ended y.calls) x.after)
  where
    by_test : (b : Bool) → At (y.place ++ segment.Call x.name ∷ []) (cond b (with_args r callee (call_names r.library x) (y.place ++ segment.Call x.name ∷ []) x (args_met (env_of y.names) x.args)) (missing (call_names r.library x)))
    by_test true = with_args_at r callee x (y.place ++ segment.Call x.name ∷ []) (args_met (env_of y.names) x.args) plain
    by_test false = none_at (y.place ++ segment.Call x.name ∷ [])

-- ---- what grows

module _ (lib : Library) (site : List ℕ) (table : List Row) (desc : ℕ → Rule → Type 0) (st : State) where
  abbrev calling : {depth : ℕ} {f : Form} → Growing lib site table desc st depth f → List Asker
  calling p = callers lib site table desc st p

  abbrev work : {depth : ℕ} {f : Form} → Growing lib site table desc st depth f → Work
  work p = work_of lib site table desc st p

  -- Each job stands at the place of one of these calls, which was asked.
  abbrev pub AreCalled : List Request → List Asker → Type 0
  AreCalled js qs = (x : Request) → Contains js x → (q : Asker) × Contains qs q × (x.place ≡ q.place) × (st.taken q.step ≡ true)

  none_called : (qs : List Asker) → AreCalled [] qs
  none_called qs x c = absurd (none_within x c)

  more_called : (js : List Request) (qs rs : List Asker) → ((q : Asker) → Contains qs q → Contains rs q) → AreCalled js qs → AreCalled js rs
  more_called js qs rs within h x c = let q = h x c in (q.0, within q.0 q.1, q.2, q.3)

  either_called : (js ks : List Request) (qs : List Asker) → AreCalled js qs → AreCalled ks qs → AreCalled (js ++ ks) qs
  either_called js ks qs h i x c = by_case (Contains-append_cases js ks x c)
    where
      by_case : Contains js x ⊎ Contains ks x → (q : Asker) × Contains qs q × (x.place ≡ q.place) × (st.taken q.step ≡ true)
      by_case (inl d) = h x d
      by_case (inr d) = i x d

  both_called : (js ks : List Request) (qs rs : List Asker) → AreCalled js qs → AreCalled ks rs → AreCalled (js ++ ks) (qs ++ rs)
  both_called js ks qs rs h i =
      either_called js ks (qs ++ rs) (more_called js qs (qs ++ rs) (λ q c. Contains-append_left qs rs q c) h) (more_called ks rs (qs ++ rs) (λ q c. Contains-append_right qs rs q c) i)

  told_none : (name : List ℕ) (e : TExpr) (s : Scope) (c : ℕ) (d : Declared lib site table desc st name e s c) (qs : List Asker) → AreCalled (told_work lib site table desc st name e s c d).jobs qs
  told_none name e s c (t, n, inl p) qs = none_called qs
  told_none name e s c (t, n, inr p) qs = λ x h. absurd (declaration_none (own_sight st.cells s.place n.slots []) name e x (subst (λ (f : Flowing). Contains f.jobs x) (sym p.follows) h))

  pub jobs_called : {depth : ℕ} {f : Form} (p : Growing lib site table desc st depth f) → AreCalled (work p).jobs (calling p)
  jobs_called (none_left depth s) = none_called []
  jobs_called (next depth x xs s g h d ds p q) = both_called (work p).jobs (work q).jobs (calling p) (calling q) (jobs_called p) (jobs_called q)
  jobs_called (left_decl depth x s c t left n k) = none_called []
  jobs_called (left_call depth x s g d t left n is at k) = none_called (record { step = t; place = s.place ++ segment.Call x.name ∷ [] } ∷ [])
  jobs_called (left_scatter depth x s g d t left n outside k) = none_called []
  jobs_called (left_if depth x s g d t left n outside k) = none_called []
  jobs_called (told_decl depth x s c t w taken n set own follows) = λ y h.
      absurd (declaration_none (own_sight st.cells s.place n.slots []) x.name x.value y (subst (λ (f : Flowing). Contains f.jobs y) (sym follows) h))
  jobs_called (told_call depth x s g d t w taken n set is at own plain follows) = λ y h. (
    record { step = t; place = s.place ++ segment.Call x.name ∷ [] },
    (0, omega arith, refl),
    call_at (run_with lib site table) (flow (run_with lib site table) depth) x (own_sight st.cells s.place n.slots n.marks) plain y (subst (λ (f : Flowing). Contains f.jobs y) (sym follows) h),
    taken.done,
  )
  jobs_called (run_call depth x s g h d t ds taken n set k is f found args met names at distinct p copied ended) = jobs_called p
  jobs_called (failed_scatter depth x s g d t c taken n set e outside k) = none_called []
  jobs_called (each_scatter depth x s g d t y qs taken n set e outside p names calls ended) = jobs_called p
  jobs_called (failed_if depth x s g d t c taken n set e outside k) = none_called []
  jobs_called (false_if depth x s g d t y taken n set e off outside own same done) = none_called []
  jobs_called (true_if depth x s g h d t ds y taken n set e on outside p names calls ended) = jobs_called p
  jobs_called (no_item depth xs s k item i) = none_called []
  jobs_called (item_next depth xs s k item i cell y ys g ds qs is p q) = both_called (work p).jobs (work q).jobs (calling p) (calling q) (jobs_called p) (jobs_called q)
  jobs_called (no_input depth given s) = none_called []
  jobs_called (given_input depth given i is s h c y e found p) = jobs_called p
  jobs_called (absent_input depth given i is s h c e lacking found p) = jobs_called p
  jobs_called (default_input depth given i is s h c e lacking some d p) =
      either_called (told_work lib site table desc st i.name e s c d).jobs (work p).jobs (calling p) (told_none i.name e s c d (calling p)) (jobs_called p)
  jobs_called (no_output depth s) = none_called []
  jobs_called (output_next depth x xs s h c d p) =
      either_called (told_work lib site table desc st x.name x.value s c d).jobs (work p).jobs (calling p) (told_none x.name x.value s c d (calling p)) (jobs_called p)
  jobs_called (flow_whole depth f given place i b o ds p q r) =
      let qs = (calling p ++ calling q) ++ calling r in
      either_called (work p).jobs ((work q).jobs ++ ((work r).jobs ++ [])) qs
      (more_called (work p).jobs (calling p) qs (λ a c. Contains-append_left (calling p ++ calling q) (calling r) a (Contains-append_left (calling p) (calling q) a c)) (jobs_called p))
      (either_called (work q).jobs ((work r).jobs ++ []) qs
      (more_called (work q).jobs (calling q) qs (λ a c. Contains-append_left (calling p ++ calling q) (calling r) a (Contains-append_right (calling p) (calling q) a c)) (jobs_called q))
      (either_called (work r).jobs [] qs (more_called (work r).jobs (calling r) qs (λ a c. Contains-append_right (calling p ++ calling q) (calling r) a c) (jobs_called r)) (none_called qs)))
