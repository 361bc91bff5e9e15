-- What grows has statuses of success for each request, one for one.
use Rattle.std.proofs.Common.{◌≡◌, ℕ, zero, suc, ◌+◌, Bool, true, false, cond, ◌&&◌, ◌⊎◌, inl, inr, List, [], ◌∷◌, ◌++◌, length, length-append, Option, Some, None, Ok, Err, slice_get, arith, ap, refl, subst, sym, ◌∙◌}
use Rattle.std.specs.List.{list_all}
use Rattle.wdl_base.specs.declared.answer.Answer.{Answer}
use Rattle.wdl_base.specs.declared.place.Segment.{Segment}
use Rattle.wdl_base.specs.declared.place.Segment.TheVariants as segment
use Rattle.wdl_value.specs.declared.env.Bind.{Bind}
use Rattle.wdl_value.specs.declared.value.Value.{Value}
use Rattle.wdl_value.specs.Outcome.{Outcome}
use Rattle.wdl_value.specs.Tables.{Row, answer_at}
use Rattle.wdl_typed.specs.declared.expr.TExpr.{TExpr}
use Rattle.wdl_typed.specs.declared.flow.TCall.{TCall}
use Rattle.wdl_typed.specs.declared.flow.Target.{Target}
use Rattle.wdl_typed.specs.declared.flow.Target.TheVariants as target
use Rattle.wdl_typed.specs.declared.task.TaskDef.{TaskDef}
use Rattle.wdl_typed.specs.Bodies.{Library}
use Rattle.wdl_typed.specs.Evaluation.{value_of}
use Rattle.wdl_typed.specs.Flow.{Callee, Flowing, Names, Run, Sight, all_known, args_known, args_met, asked, attempted, attempts, call_of, called, concluded, declaration, declared_as, env_of, failing_at, flow, has_ended, known, missing, named, task_called, with_args, with_fault, with_jobs}
use Rattle.wdl_typed.specs.Requests.{Asked, Failing, Tried, asks, bad_status, before, is_success, job_dir, request, tells}
use Rattle.flow_laws.specs.Laws.{run_with}
use Rattle.net_laws.specs.Net.{Scope, Work, both_works, no_work}
use Rattle.net_laws.specs.Planned.{call_names, counted}
use Rattle.net_laws.specs.Rules.{own_sight}
use Rattle.net_laws.specs.Growing.{Declared, Form, Growing, Rule, State, absent_input, default_input, each_scatter, failed_if, failed_scatter, false_if, flow_whole, given_input, item_next, left_call, left_decl, left_if, left_scatter, next, no_input, no_item, no_output, none_left, output_next, run_call, told_call, told_decl, true_if}
use Rattle.net_laws.specs.Moving.{IsEven}
use Rattle.net_laws.specs.Works.{told_work, work_of}

pub both_even : (v w : Work) → IsEven v → IsEven w → IsEven (both_works v w)
both_even v w h j = length-append v.codes w.codes ∙ ap (λ (n : ℕ). n + length w.codes) h ∙ ap (λ (n : ℕ). length v.jobs + n) j ∙ sym (length-append v.jobs w.jobs)

abbrev Even : Flowing → Type 0
Even f = length f.codes ≡ length f.jobs

-- ---- declarations

declared_even : (place : List Segment) (name : List ℕ) (o : Outcome Value) → Even (declared_as place name o)
declared_even place name (Ok x) = refl
declared_even place name (Err c) = refl

declaration_even : (s : Sight) (name : List ℕ) (e : TExpr) → Even (declaration s name e)
declaration_even s name e = by_test (all_known s.names e)
  where
    by_test : (b : Bool) → Even (cond b (declared_as s.place name (value_of (before (env_of s.names)) e)) (named (known name None)))
    by_test true = declared_even s.place name (value_of (before (env_of s.names)) e)
    by_test false = refl

-- ---- calls of tasks, and calls whose arguments failed

module _ (r : Run) (callee : Callee) (x : TCall) (place : List Segment) where
  abbrev n : Names
  n = call_names r.library x

  either_even : (b : Bool) (f g : Flowing) → Even f → Even g → Even (cond b f g)
  either_even true f g h j = h
  either_even false f g h j = j

  concluded_even : (o : Tried (List Bind)) → Even (concluded n place x.name o)
  concluded_even (Ok outs) = refl
  concluded_even (Err e) = refl

  attempted_even : (t : TaskDef) (a : Asked) (attempt : ℕ) (last : Bool) (later : Flowing) → Even later → (o : Option Answer) → Even (attempted r n place t x.name a attempt last later o)
  attempted_even t a attempt last later h None = refl
  attempted_even t a attempt last later h (Some answer) =
      either_even (is_success a.codes answer.status) (concluded n place x.name (tells r.library.structs t a (job_dir r.site place attempt) answer))
      (cond last (with_fault (failing_at place (bad_status answer.status)) (missing n)) later) (concluded_even (tells r.library.structs t a (job_dir r.site place attempt) answer))
      (either_even last (with_fault (failing_at place (bad_status answer.status)) (missing n)) later refl h)

  job_even : (a : Asked) (attempt : ℕ) (f : Flowing) → Even f → Even (with_jobs (request r.site place attempt a ∷ []) (a.codes ∷ []) f)
  job_even a attempt f h = omega (arith, h)

  attempts_even : (t : TaskDef) (a : Asked) (left attempt : ℕ) → Even (attempts r n place t x.name a left attempt)
  attempts_even t a zero attempt = job_even a attempt (attempted r n place t x.name a attempt true (missing n) (answer_at r.table place attempt)) (attempted_even t a attempt true (missing n) refl (answer_at r.table place attempt))
  attempts_even t a (suc left) attempt =
      job_even a attempt (attempted r n place t x.name a attempt false (attempts r n place t x.name a left (attempt + 1)) (answer_at r.table place attempt))
      (attempted_even t a attempt false (attempts r n place t x.name a left (attempt + 1)) (attempts_even t a left (attempt + 1)) (answer_at r.table place attempt))

  asked_even : (t : TaskDef) (o : Tried Asked) → Even (asked r n place t x.name o)
  asked_even t (Ok a) = attempts_even t a a.retries 0
  asked_even t (Err e) = refl

  with_args_even : (o : Tried (List Bind)) → ((k : ℕ) × (t : TaskDef) × (x.target ≡ target.Task k) × (slice_get r.library.tasks k ≡ Some t)) ⊎ ((e : Failing) × (o ≡ Err e))
      → Even (with_args r callee n place x o)
  with_args_even (Err e) h = refl
  with_args_even (Ok args) (inl h) =
      subst (λ (g : Target). Even (called r callee n place x args g)) (sym h.2) (subst (λ (o : Option TaskDef). Even (task_called r n place x.name args o)) (sym h.3) (asked_even h.1 (asks h.1 args)))
  with_args_even (Ok args) (inr h) = absurd (apart h.1)
    where
      apart : {A B : Type 0} {a : A} {b : B} → Ok a ≡ Err b → ⊥
      apart e = cc

call_even : (r : Run) (callee : Callee) (x : TCall) (y : Sight)
    → ((k : ℕ) × (t : TaskDef) × (x.target ≡ target.Task k) × (slice_get r.library.tasks k ≡ Some t)) ⊎ ((e : Failing) × (args_met (env_of y.names) x.args ≡ Err e))
    → Even (call_of r callee (call_names r.library x) x y)
call_even r callee x y plain = by_test (args_known y.names x.args && list_all (has_ended y.calls) x.after)
  where
    by_test : (b : Bool) → Even (cond b (with_args r callee (call_names r.library x) (y.place ++ segment.Call x.name ∷ []) x (args_met (env_of y.names) x.args)) (missing (call_names r.library x)))
    by_test true = with_args_even r callee x (y.place ++ segment.Call x.name ∷ []) (args_met (env_of y.names) x.args) plain
    by_test false = refl

-- ---- what grows

module _ (lib : Library) (site : List ℕ) (table : List Row) (desc : ℕ → Rule → Type 0) (st : State) where
  pub told_even : (name : List ℕ) (e : TExpr) (s : Scope) (c : ℕ) (d : Declared lib site table desc st name e s c) → IsEven (told_work lib site table desc st name e s c d)
  told_even name e s c (t, n, inl p) = refl
  told_even name e s c (t, n, inr p) = subst Even p.follows (declaration_even (own_sight st.cells s.place n.slots []) name e)

  pub work_even : {depth : ℕ} {f : Form} (p : Growing lib site table desc st depth f) → IsEven (work_of lib site table desc st p)
  work_even (none_left depth s) = refl
  work_even (next depth x xs s g h d ds p q) = both_even (work_of lib site table desc st p) (work_of lib site table desc st q) (work_even p) (work_even q)
  work_even (left_decl depth x s c t left n k) = refl
  work_even (left_call depth x s g d t left n is ends k) = refl
  work_even (left_scatter depth x s g d t left n outside k) = refl
  work_even (left_if depth x s g d t left n outside k) = refl
  work_even (told_decl depth x s c t w taken n set own follows) = subst Even follows (declaration_even (own_sight st.cells s.place n.slots []) x.name x.value)
  work_even (told_call depth x s g d t w taken n set is ends own plain follows) = subst Even follows (call_even (run_with lib site table) (flow (run_with lib site table) depth) x (own_sight st.cells s.place n.slots n.marks) plain)
  work_even (run_call depth x s g h d t ds taken n set k is f found args met names ends distinct p copied ended) = work_even p
  work_even (failed_scatter depth x s g d t c taken n set e outside k) = refl
  work_even (each_scatter depth x s g d t y qs taken n set e outside p names calls ended) = work_even p
  work_even (failed_if depth x s g d t c taken n set e outside k) = refl
  work_even (false_if depth x s g d t y taken n set e off outside own same done) = refl
  work_even (true_if depth x s g h d t ds y taken n set e on outside p names calls ended) = work_even p
  work_even (no_item depth xs s k item i) = refl
  work_even (item_next depth xs s k item i cell y ys g ds qs is p q) = both_even (work_of lib site table desc st p) (work_of lib site table desc st q) (work_even p) (work_even q)
  work_even (no_input depth given s) = refl
  work_even (given_input depth given i is s h c y e found p) = work_even p
  work_even (absent_input depth given i is s h c e lacking found p) = work_even p
  work_even (default_input depth given i is s h c e lacking some d p) = both_even (told_work lib site table desc st i.name e s c d) (work_of lib site table desc st p) (told_even i.name e s c d) (work_even p)
  work_even (no_output depth s) = refl
  work_even (output_next depth x xs s h c d p) = both_even (told_work lib site table desc st x.name x.value s c d) (work_of lib site table desc st p) (told_even x.name x.value s c d) (work_even p)
  work_even (flow_whole depth f given place i b o ds p q r) =
      let u = work_of lib site table desc st p in
      let v = work_of lib site table desc st q in
      let w = work_of lib site table desc st r in
      let later : IsEven (both_works w no_work) = both_even w no_work (work_even r) refl in
      both_even u (both_works (counted (length f.body) v) (both_works w no_work)) (work_even p) (both_even (counted (length f.body) v) (both_works w no_work) (work_even q) later)
