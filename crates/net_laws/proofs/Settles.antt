-- What an evaluated declaration and an asked call come to: they are done exactly where nothing failed and nothing waits.
use Rattle.std.proofs.Common.{◌≡◌, ℕ, zero, suc, ◌+◌, Bool, true, false, cond, ◌&&◌, ◌⊎◌, inl, inr, List, [], ◌∷◌, ◌++◌, map, Option, Some, None, Ok, Err, slice_get, sym, ap, ◌∙◌, subst, refl}
use Rattle.std.specs.List.{list_all}
use Rattle.std.proofs.lemmas.Bool.{false≢true}
use Rattle.std.proofs.lemmas.List.Folds.{list_all-map}
use Rattle.wdl_base.specs.declared.answer.Answer.{Answer}
use Rattle.wdl_base.specs.declared.fault.Fault.{Fault}
use Rattle.wdl_base.specs.declared.place.Segment.{Segment}
use Rattle.wdl_base.specs.declared.place.Segment.TheVariants as segment
use Rattle.wdl_base.specs.declared.request.Request.{Request}
use Rattle.wdl_value.specs.declared.env.Bind.{Bind}
use Rattle.wdl_value.specs.declared.value.Value.{Value}
use Rattle.wdl_value.specs.Outcome.{Outcome}
use Rattle.wdl_value.specs.Tables.{Row, answer_at}
use Rattle.wdl_typed.specs.declared.expr.TExpr.{TExpr}
use Rattle.wdl_typed.specs.declared.flow.TCall.{TCall}
use Rattle.wdl_typed.specs.declared.flow.Target.{Target}
use Rattle.wdl_typed.specs.declared.flow.Target.TheVariants as target
use Rattle.wdl_typed.specs.declared.task.TaskDef.{TaskDef}
use Rattle.wdl_typed.specs.Bodies.{Library}
use Rattle.wdl_typed.specs.Evaluation.{value_of}
use Rattle.wdl_typed.specs.Flow.{Callee, Ended, Flowing, Known, Names, Run, Sight, all_known, args_known, args_met, asked, attempted, attempts, bound_output, call_of, called, concluded, declaration, declared_as, env_of, failing_at, has_ended, is_clean, known, missing, named, task_called, waiting, with_args, with_fault, with_jobs}
use Rattle.wdl_typed.specs.KnownTypes.{is_some}
use Rattle.wdl_typed.specs.Requests.{Asked, Failing, Successes, Tried, asks, bad_status, before, is_success, job_dir, request, tells}
use Rattle.flow_laws.specs.Laws.{run_with}
use Rattle.net_laws.specs.Net.{Cells, Given, Mark, Slot, Work, ended_in, flowing_of, known_in}
use Rattle.net_laws.specs.Planned.{call_names}
use Rattle.net_laws.specs.Rules.{Follows}
use Rattle.net_laws.specs.Growing.{EndsAt, only}
use Rattle.net_laws.proofs.Sets.{AllGiven, and_true, slots_set}

abbrev pub all_valued : List Known → Bool
all_valued = list_all (λ (k : Known). is_some k.value)

abbrev pub all_ended : List Ended → Bool
all_ended = list_all (λ (e : Ended). e.ended)

abbrev pub clean : Work → Bool
clean w = is_clean (flowing_of (λ c. None) (record { names = []; calls = [] }) w)

-- Its calls have ended exactly where nothing failed and nothing waits, and then its names have values.
pub record Settles (f : Flowing) : Type 0 where
  pub ends : all_ended f.calls ≡ is_clean f
  pub told : is_clean f ≡ true → all_valued f.names ≡ true

settles_cond : (b : Bool) (f g : Flowing) → Settles f → Settles g → Settles (cond b f g)
settles_cond true f g h j = h
settles_cond false f g h j = j

settles_jobs : (jobs : List Request) (successes : List Successes) (f : Flowing) → Settles f → Settles (with_jobs jobs successes f)
settles_jobs jobs successes f h = record { ends = h.ends; told = h.told }

bound_valued : (call : List ℕ) (outs : List Bind) → all_valued (map (bound_output call) outs) ≡ true
bound_valued call [] = refl
bound_valued call (b ∷ bs) = bound_valued call bs

module _ (r : Run) (callee : Callee) (x : TCall) (place : List Segment) where
  abbrev n : Names
  n = call_names r.library x

  failed : (fault : Fault) → Settles (with_fault fault (missing n))
  failed fault = record { ends = refl; told = λ e. absurd (false≢true e) }

  waits : Settles (waiting place (missing n))
  waits = record { ends = refl; told = λ e. absurd (false≢true e) }

  concludes : (o : Tried (List Bind)) → Settles (concluded n place x.name o)
  concludes (Ok outs) = record { ends = refl; told = λ e. bound_valued x.name outs }
  concludes (Err e) = failed (failing_at place e)

  last_attempt : (t : TaskDef) (a : Asked) (attempt : ℕ) (later : Flowing) (o : Option Answer) → Settles (attempted r n place t x.name a attempt true later o)
  last_attempt t a attempt later None = waits
  last_attempt t a attempt later (Some answer) =
      settles_cond (is_success a.codes answer.status) (concluded n place x.name (tells r.library.structs t a (job_dir r.site place attempt) answer))
      (with_fault (failing_at place (bad_status answer.status)) (missing n)) (concludes (tells r.library.structs t a (job_dir r.site place attempt) answer)) (failed (failing_at place (bad_status answer.status)))

  an_attempt : (t : TaskDef) (a : Asked) (attempt : ℕ) (later : Flowing) → Settles later → (o : Option Answer) → Settles (attempted r n place t x.name a attempt false later o)
  an_attempt t a attempt later h None = waits
  an_attempt t a attempt later h (Some answer) =
      settles_cond (is_success a.codes answer.status) (concluded n place x.name (tells r.library.structs t a (job_dir r.site place attempt) answer)) later
      (concludes (tells r.library.structs t a (job_dir r.site place attempt) answer)) h

  all_attempts : (t : TaskDef) (a : Asked) (left attempt : ℕ) → Settles (attempts r n place t x.name a left attempt)
  all_attempts t a zero attempt =
      settles_jobs (request r.site place attempt a ∷ []) (a.codes ∷ []) (attempted r n place t x.name a attempt true (missing n) (answer_at r.table place attempt)) (last_attempt t a attempt (missing n) (answer_at r.table place attempt))
  all_attempts t a (suc left) attempt =
      settles_jobs (request r.site place attempt a ∷ []) (a.codes ∷ []) (attempted r n place t x.name a attempt false (attempts r n place t x.name a left (attempt + 1)) (answer_at r.table place attempt))
      (an_attempt t a attempt (attempts r n place t x.name a left (attempt + 1)) (all_attempts t a left (attempt + 1)) (answer_at r.table place attempt))

  asking : (t : TaskDef) (o : Tried Asked) → Settles (asked r n place t x.name o)
  asking t (Ok a) = all_attempts t a a.retries 0
  asking t (Err e) = failed (failing_at place e)

  -- A call of a task, or one with an argument that failed.
  pub with_args_settles : (o : Tried (List Bind)) → ((k : ℕ) × (t : TaskDef) × (x.target ≡ target.Task k) × (slice_get r.library.tasks k ≡ Some t)) ⊎ ((e : Failing) × (o ≡ Err e))
      → Settles (with_args r callee n place x o)
  with_args_settles (Err e) h = failed (failing_at place e)
  with_args_settles (Ok args) (inl h) =
      subst (λ (g : Target). Settles (called r callee n place x args g)) (sym h.2)
      (subst (λ (o : Option TaskDef). Settles (task_called r n place x.name args o)) (sym h.3) (asking h.1 (asks h.1 args)))
  with_args_settles (Ok args) (inr h) = let e : Ok args ≡ Err h.0 = h.1 in absurd (apart e)
    where
      apart : {A B : Type 0} {a : A} {b : B} → Ok a ≡ Err b → ⊥
      apart e = cc

-- ---- as cells have it

module _ (cells : Cells) where
  pub valued_is : (ss : List Slot) → all_valued (map (known_in cells) ss) ≡ slots_set cells ss
  valued_is ss = list_all-map (λ (k : Known). is_some k.value) (known_in cells) ss

  -- A declaration is done exactly where it did not fail.
  pub declaration_settles : (place : List Segment) (name : List ℕ) (e : TExpr) (ns : List Slot) (c : ℕ) (w : Work) → all_known (map (known_in cells) ns) e ≡ true
      → Follows cells place ns [] (λ (y : Sight). declaration y name e) (only name c) w → is_some (cells c) ≡ clean w
  declaration_settles place name e ns c w all h =
      sym (and_true (is_some (cells c)))
      ∙ sym (ap (λ (f : Flowing). all_valued f.names) is)
      ∙ same (value_of (before (env_of (map (known_in cells) ns))) e)
      ∙ ap is_clean is
    where
      r : Outcome Value
      r = value_of (before (env_of (map (known_in cells) ns))) e

      is : declared_as place name r ≡ flowing_of cells (only name c) w
      is = sym (ap (λ b. cond b (declared_as place name r) (named (known name None))) all) ∙ h

      same : (o : Outcome Value) → all_valued (declared_as place name o).names ≡ is_clean (declared_as place name o)
      same (Ok y) = refl
      same (Err k) = refl

  module _ (lib : Library) (site : List ℕ) (table : List Row) (callee : Callee) (x : TCall) (place : List Segment) (ns : List Slot) (ms : List Mark) (g : Given) (d : ℕ) (w : Work)
      (test : args_known (map (known_in cells) ns) x.args && list_all (has_ended (map (ended_in cells) ms)) x.after ≡ true)
      (plain : ((k : ℕ) × (t : TaskDef) × (x.target ≡ target.Task k) × (slice_get lib.tasks k ≡ Some t)) ⊎ ((e : Failing) × (args_met (env_of (map (known_in cells) ns)) x.args ≡ Err e)))
      (follows : Follows cells place ns ms (call_of (run_with lib site table) callee (call_names lib x) x) g w) (ends : EndsAt x g d) where
    there : List Segment
    there = place ++ segment.Call x.name ∷ []

    is : with_args (run_with lib site table) callee (call_names lib x) (place ++ segment.Call x.name ∷ []) x (args_met (env_of (map (known_in cells) ns)) x.args) ≡ flowing_of cells g w
    is =
        sym (ap (λ b. cond b (with_args (run_with lib site table) callee (call_names lib x) (place ++ segment.Call x.name ∷ []) x (args_met (env_of (map (known_in cells) ns)) x.args)) (missing (call_names lib x))) test)
        ∙ follows

    settled : Settles (flowing_of cells g w)
    settled = subst Settles is (with_args_settles (run_with lib site table) callee x (place ++ segment.Call x.name ∷ []) (args_met (env_of (map (known_in cells) ns)) x.args) plain)

    -- It has ended exactly where nothing failed and nothing waits, and then its outputs have values.
    pub call_settles : is_some (cells d) ≡ clean w
    call_settles =
        sym (and_true (is_some (cells d))) ∙ sym (ap (λ (ms_ : List Mark). all_ended (map (ended_in cells) ms_)) ends) ∙ settled.ends

    pub call_gives : is_some (cells d) ≡ true → AllGiven cells g
    call_gives h =
        record {
          names = sym (valued_is g.names) ∙ settled.told (sym call_settles ∙ h);
          calls = ap (λ (ms_ : List Mark). list_all (λ (m : Mark). is_some (cells m.cell)) ms_) ends ∙ and_true (is_some (cells d)) ∙ h;
        }
