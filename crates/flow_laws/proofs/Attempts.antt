-- The attempts of a task call, over a table and over one that answers more.
use Rattle.std.proofs.Common.{◌≡◌, ℕ, zero, suc, ◌+◌, Bool, true, false, cond, List, [], ◌∷◌, ◌++◌, map, Option, Some, None, Ok, Err, sym, ap, ◌∙◌, subst, refl}
use Rattle.wdl_base.specs.declared.answer.Answer.{Answer}
use Rattle.wdl_base.specs.declared.name.Key.{Key}
use Rattle.wdl_base.specs.declared.place.Segment.{Segment}
use Rattle.wdl_value.specs.declared.env.Bind.{Bind}
use Rattle.wdl_value.specs.Fits.{Structs}
use Rattle.wdl_value.specs.Tables.{Row, answer_at}
use Rattle.wdl_typed.specs.declared.task.TDecl.{TDecl}
use Rattle.wdl_typed.specs.declared.task.TaskDef.{TaskDef}
use Rattle.wdl_typed.specs.Bodies.{Library}
use Rattle.wdl_typed.specs.Flow.{Flowing, Names, asked, attempted, attempts, bound_output, concluded, failing_at, is_clean, missing, output_keys, with_fault, with_jobs}
use Rattle.wdl_typed.specs.Requests.{Asked, Tried, bad_status, bind, is_success, job_dir, named, output_met, outputs_met, request, tells, tried}
use Rattle.flow_laws.specs.Below.{AnswersStay, Stays}
use Rattle.flow_laws.specs.Laws.{run_with}
use Rattle.flow_laws.proofs.Clean.{waits}
use Rattle.flow_laws.proofs.KnownNames.{keys_of}
use Rattle.flow_laws.proofs.Under.{Gives, Under, missing_gives, under_itself, under_jobs, under_missing}

-- ---- the outputs of a task

tried_parts : {A B : Type 0} (f : A → Tried B) (r : Tried A) (w : B) → tried r f ≡ Ok w → (a : A) × (f a ≡ Ok w)
tried_parts f (Ok a) w h = (a, h)
tried_parts f (Err e) w h = cc

-- The outputs have the keys of their declarations.
outputs_keys : (call : List ℕ) (structs : Structs) (dir : List ℕ) (answer : Answer) (env : List Bind) (ds : List TDecl) (outs : List Bind)
    → outputs_met structs dir answer env ds ≡ Ok outs → keys_of (map (bound_output call) outs) ≡ output_keys call ds
outputs_keys call structs dir answer env [] [] h = refl
outputs_keys call structs dir answer env [] (b ∷ outs) h = cc
outputs_keys call structs dir answer env (d ∷ ds) outs h =
    let p = tried_parts (λ x. tried (outputs_met structs dir answer (env ++ bind d.name x ∷ []) ds) (λ more. Ok (bind d.name x ∷ more))) (named d.name (output_met structs dir answer env d)) outs h in
    by_rest p.0 (outputs_met structs dir answer (env ++ bind d.name p.0 ∷ []) ds) (outputs_keys call structs dir answer (env ++ bind d.name p.0 ∷ []) ds) p.1
  where
    by_rest : (x : _) (r : Tried (List Bind)) → ((more : List Bind) → r ≡ Ok more → keys_of (map (bound_output call) more) ≡ output_keys call ds)
        → tried r (λ more. Ok (bind d.name x ∷ more)) ≡ Ok outs → keys_of (map (bound_output call) outs) ≡ output_keys call (d ∷ ds)
    by_rest x (Ok more) rest e =
        let same : bind d.name x ∷ more ≡ outs = cc in
        ap (λ (bs : List Bind). keys_of (map (bound_output call) bs)) (sym same) ∙ ap (λ (ks : List Key). record { first = call; second = Some d.name } ∷ ks) (rest more refl)
    by_rest x (Err c) rest e = cc

tells_keys : (call : List ℕ) (structs : Structs) (t : TaskDef) (q : Asked) (dir : List ℕ) (answer : Answer) (outs : List Bind)
    → tells structs t q dir answer ≡ Ok outs → keys_of (map (bound_output call) outs) ≡ output_keys call t.outputs
tells_keys call structs t q dir answer outs h = by_status (is_success q.codes answer.status) h
  where
    by_status : (b : Bool) → cond b (outputs_met structs dir answer q.env t.outputs) (Err (bad_status answer.status)) ≡ Ok outs → keys_of (map (bound_output call) outs) ≡ output_keys call t.outputs
    by_status true e = outputs_keys call structs dir answer q.env t.outputs outs e
    by_status false e = cc

-- ---- one attempt

module _ (lib : Library) (site : List ℕ) (n : Names) (place : List Segment) (t : TaskDef) (call : List ℕ) (q : Asked)
    (keys : n.keys ≡ output_keys call t.outputs) (calls : n.calls ≡ call ∷ []) where
  concluded_gives : (r : Tried (List Bind)) → ((outs : List Bind) → r ≡ Ok outs → keys_of (map (bound_output call) outs) ≡ output_keys call t.outputs) → Gives n (concluded n place call r)
  concluded_gives (Ok outs) h = record { keys = h outs refl ∙ sym keys; calls = sym calls }
  concluded_gives (Err e) h = let m = missing_gives n in record { keys = m.keys; calls = m.calls }

  attempted_gives : (table : List Row) (attempt : ℕ) (last : Bool) (later : Flowing) (o : Option Answer) → Gives n later → Gives n (attempted (run_with lib site table) n place t call q attempt last later o)
  attempted_gives table attempt last later None g = let m = missing_gives n in record { keys = m.keys; calls = m.calls }
  attempted_gives table attempt last later (Some answer) g = by_status (is_success q.codes answer.status) last
    where
      by_status : (b c : Bool) → Gives n (cond b (concluded n place call (tells lib.structs t q (job_dir site place attempt) answer)) (cond c (with_fault (failing_at place (bad_status answer.status)) (missing n)) later))
      by_status true c = concluded_gives (tells lib.structs t q (job_dir site place attempt) answer) (tells_keys call lib.structs t q (job_dir site place attempt) answer)
      by_status false true = let m = missing_gives n in record { keys = m.keys; calls = m.calls }
      by_status false false = g

  attempts_give : (table : List Row) (left attempt : ℕ) → Gives n (attempts (run_with lib site table) n place t call q left attempt)
  attempts_give table zero attempt =
      let g = attempted_gives table attempt true (missing n) (answer_at table place attempt) (missing_gives n) in record { keys = g.keys; calls = g.calls }
  attempts_give table (suc left) attempt =
      let later = attempts (run_with lib site table) n place t call q left (attempt + 1) in
      let g = attempted_gives table attempt false later (answer_at table place attempt) (attempts_give table left (attempt + 1)) in
      record { keys = g.keys; calls = g.calls }

  -- ---- over two tables

  module _ (a b : List Row) (stay : AnswersStay a b) where
    attempted_under : (attempt : ℕ) (last : Bool) (later other : Flowing) (o p : Option Answer) → Stays o p → Under later other → Gives n other
        → Under (attempted (run_with lib site a) n place t call q attempt last later o) (attempted (run_with lib site b) n place t call q attempt last other p)
    attempted_under attempt last later other None p s u g =
        let m = under_missing n (attempted (run_with lib site b) n place t call q attempt last other p) (attempted_gives b attempt last other p g) in
        record { names = m.names; calls = m.calls; jobs = m.jobs; size = m.size; faults = m.faults; count = m.count }
    attempted_under attempt last later other (Some answer) p s u g =
        subst (λ (r : Option Answer). Under (attempted (run_with lib site a) n place t call q attempt last later (Some answer)) (attempted (run_with lib site b) n place t call q attempt last other r))
        (sym (s answer refl)) (by_status (is_success q.codes answer.status) last)
      where
        by_status : (x y : Bool)
            → Under (cond x (concluded n place call (tells lib.structs t q (job_dir site place attempt) answer)) (cond y (with_fault (failing_at place (bad_status answer.status)) (missing n)) later))
            (cond x (concluded n place call (tells lib.structs t q (job_dir site place attempt) answer)) (cond y (with_fault (failing_at place (bad_status answer.status)) (missing n)) other))
        by_status true y = under_itself (concluded n place call (tells lib.structs t q (job_dir site place attempt) answer))
        by_status false true = under_itself (with_fault (failing_at place (bad_status answer.status)) (missing n))
        by_status false false = u

    attempts_under : (left attempt : ℕ) → Under (attempts (run_with lib site a) n place t call q left attempt) (attempts (run_with lib site b) n place t call q left attempt)
    attempts_under zero attempt =
        under_jobs (request site place attempt q) q.codes _ _
        (attempted_under attempt true (missing n) (missing n) (answer_at a place attempt) (answer_at b place attempt) (stay place attempt) (under_itself (missing n)) (missing_gives n))
    attempts_under (suc left) attempt =
        under_jobs (request site place attempt q) q.codes _ _
        (attempted_under attempt false _ _ (answer_at a place attempt) (answer_at b place attempt) (stay place attempt) (attempts_under left (attempt + 1)) (attempts_give b left (attempt + 1)))

    attempted_same : (attempt : ℕ) (last : Bool) (later other : Flowing) (o p : Option Answer) → Stays o p → (is_clean later ≡ true → later ≡ other)
        → is_clean (attempted (run_with lib site a) n place t call q attempt last later o) ≡ true
        → attempted (run_with lib site a) n place t call q attempt last later o ≡ attempted (run_with lib site b) n place t call q attempt last other p
    attempted_same attempt last later other None p s e h = absurd (waits place (missing n) h)
    attempted_same attempt last later other (Some answer) p s e h =
        by_status (is_success q.codes answer.status) last h
        ∙ ap (attempted (run_with lib site b) n place t call q attempt last other) (sym (s answer refl))
      where
        by_status : (x y : Bool)
            → is_clean (cond x (concluded n place call (tells lib.structs t q (job_dir site place attempt) answer)) (cond y (with_fault (failing_at place (bad_status answer.status)) (missing n)) later)) ≡ true
            → cond x (concluded n place call (tells lib.structs t q (job_dir site place attempt) answer)) (cond y (with_fault (failing_at place (bad_status answer.status)) (missing n)) later)
            ≡ cond x (concluded n place call (tells lib.structs t q (job_dir site place attempt) answer)) (cond y (with_fault (failing_at place (bad_status answer.status)) (missing n)) other)
        by_status true y h = refl
        by_status false true h = refl
        by_status false false h = e h

    attempts_same : (left attempt : ℕ) → is_clean (attempts (run_with lib site a) n place t call q left attempt) ≡ true
        → attempts (run_with lib site a) n place t call q left attempt ≡ attempts (run_with lib site b) n place t call q left attempt
    attempts_same zero attempt h =
        ap (with_jobs (request site place attempt q ∷ []) (q.codes ∷ []))
        (attempted_same attempt true (missing n) (missing n) (answer_at a place attempt) (answer_at b place attempt) (stay place attempt) (λ k. refl) h)
    attempts_same (suc left) attempt h =
        ap (with_jobs (request site place attempt q ∷ []) (q.codes ∷ []))
        (attempted_same attempt false _ _ (answer_at a place attempt) (answer_at b place attempt) (stay place attempt) (attempts_same left (attempt + 1)) h)

-- ---- what a task call asks for

module _ (lib : Library) (site : List ℕ) (n : Names) (place : List Segment) (t : TaskDef) (call : List ℕ) (keys : n.keys ≡ output_keys call t.outputs) (calls : n.calls ≡ call ∷ []) where
  pub asked_gives : (table : List Row) (r : Tried Asked) → Gives n (asked (run_with lib site table) n place t call r)
  asked_gives table (Ok q) = attempts_give lib site n place t call q keys calls table q.retries 0
  asked_gives table (Err e) = let m = missing_gives n in record { keys = m.keys; calls = m.calls }

  module _ (a b : List Row) (stay : AnswersStay a b) where
    pub asked_under : (r : Tried Asked) → Under (asked (run_with lib site a) n place t call r) (asked (run_with lib site b) n place t call r)
    asked_under (Ok q) = attempts_under lib site n place t call q keys calls a b stay q.retries 0
    asked_under (Err e) = under_itself (with_fault (failing_at place e) (missing n))

    pub asked_same : (r : Tried Asked) → is_clean (asked (run_with lib site a) n place t call r) ≡ true → asked (run_with lib site a) n place t call r ≡ asked (run_with lib site b) n place t call r
    asked_same (Ok q) h = attempts_same lib site n place t call q keys calls a b stay q.retries 0 h
    asked_same (Err e) h = refl
