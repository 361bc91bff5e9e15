-- A job has an answer in the table or its place waits; and a place that waits is that of a job without an answer.
use Rattle.std.proofs.Common.{◌≡◌, ℕ, zero, suc, ◌+◌, Bool, true, false, cond, ◌⊎◌, inl, inr, List, [], ◌∷◌, ◌++◌, Contains, Option, Some, None, Ok, Err, is_some, ap, subst, refl}
use Rattle.std.proofs.lemmas.List.Elements.{Contains-append_cases, Contains-append_left, Contains-append_right}
use Rattle.wdl_base.specs.declared.answer.Answer.{Answer}
use Rattle.wdl_base.specs.declared.place.Segment.{Segment}
use Rattle.wdl_base.specs.declared.request.Request.{Request}
use Rattle.wdl_value.specs.declared.env.Bind.{Bind}
use Rattle.wdl_value.specs.Tables.{Row, answer_at}
use Rattle.wdl_typed.specs.declared.task.TaskDef.{TaskDef}
use Rattle.wdl_typed.specs.Flow.{Flowing, Names, Run, attempted, attempts, concluded, failing_at, missing, with_fault}
use Rattle.wdl_typed.specs.Requests.{Asked, Tried, bad_status, is_success, job_dir, request, tells}
use Rattle.flow_laws.specs.Laws.{is_answered}
use Rattle.flow_laws.proofs.AtPlaces.{Closed}
use Rattle.flow_laws.proofs.Elements.{contains_first, contains_later, first_or_later, none_within}

module _ (table : List Row) where
  pub record Answered (j : List Request) (w : List (List Segment)) : Type 0 where
    pub jobs : (x : Request) → Contains j x → (is_answered table x ≡ true) ⊎ Contains w x.place
    pub waits : (q : List Segment) → Contains w q → (x : Request) × Contains j x × (x.place ≡ q) × (is_answered table x ≡ false)

  answered_none : Answered [] []
  answered_none = record { jobs = λ x c. absurd (none_within x c); waits = λ q c. absurd (none_within q c) }

  answered_both : (j k : List Request) (w v : List (List Segment)) → Answered j w → Answered k v → Answered (j ++ k) (w ++ v)
  answered_both j k w v a b =
      record {
        jobs = λ x c. job x (Contains-append_cases j k x c);
        waits = λ q c. wait q (Contains-append_cases w v q c);
      }
    where
      left : (x : Request) → (is_answered table x ≡ true) ⊎ Contains w x.place → (is_answered table x ≡ true) ⊎ Contains (w ++ v) x.place
      left x (inl e) = inl e
      left x (inr c) = inr (Contains-append_left w v x.place c)

      right : (x : Request) → (is_answered table x ≡ true) ⊎ Contains v x.place → (is_answered table x ≡ true) ⊎ Contains (w ++ v) x.place
      right x (inl e) = inl e
      right x (inr c) = inr (Contains-append_right w v x.place c)

      job : (x : Request) → Contains j x ⊎ Contains k x → (is_answered table x ≡ true) ⊎ Contains (w ++ v) x.place
      job x (inl c) = left x (a.jobs x c)
      job x (inr c) = right x (b.jobs x c)

      wait : (q : List Segment) → Contains w q ⊎ Contains v q → (x : Request) × Contains (j ++ k) x × (x.place ≡ q) × (is_answered table x ≡ false)
      wait q (inl c) = let p = a.waits q c in (p.0, Contains-append_left j k p.0 p.1, p.2, p.3)
      wait q (inr c) = let p = b.waits q c in (p.0, Contains-append_right j k p.0 p.1, p.2, p.3)

module _ (r : Run) (n : Names) (place : List Segment) (t : TaskDef) (call : List ℕ) (a : Asked) where
  -- an attempt's job before those of the later attempts
  attempt_answered : (attempt : ℕ) (last : Bool) (later : Flowing) (o : Option Answer) → answer_at r.table place attempt ≡ o → Answered r.table later.jobs later.waits
      → Answered r.table (request r.site place attempt a ∷ (attempted r n place t call a attempt last later o).jobs) (attempted r n place t call a attempt last later o).waits
  attempt_answered attempt last later None e h =
      record {
        jobs = λ x c. only x (first_or_later (request r.site place attempt a) [] x c);
        waits = λ q c. (request r.site place attempt a, contains_first (request r.site place attempt a) [], alone q (first_or_later place [] q c), ap is_some e);
      }
    where
      only : (x : Request) → (request r.site place attempt a ≡ x) ⊎ Contains [] x → (is_answered r.table x ≡ true) ⊎ Contains (place ∷ []) x.place
      only x (inl same) = inr (subst (λ (z : Request). Contains (place ∷ []) z.place) same (contains_first place []))
      only x (inr c) = absurd (none_within x c)

      alone : (q : List Segment) → (place ≡ q) ⊎ Contains [] q → place ≡ q
      alone q (inl same) = same
      alone q (inr c) = absurd (none_within q c)
  attempt_answered attempt last later (Some answer) e h =
      record {
        jobs = λ x c. job x (first_or_later (request r.site place attempt a) (rest (is_success a.codes answer.status) last).jobs x c);
        waits = λ q c. let p = (by_status (is_success a.codes answer.status) last).waits q c in (p.0, contains_later (request r.site place attempt a) (rest (is_success a.codes answer.status) last).jobs p.0 p.1, p.2, p.3);
      }
    where
      end : Tried (List Bind)
      end = tells r.library.structs t a (job_dir r.site place attempt) answer

      rest : Bool → Bool → Flowing
      rest b c = cond b (concluded n place call end) (cond c (with_fault (failing_at place (bad_status answer.status)) (missing n)) later)

      ended : (x : Tried (List Bind)) → Answered r.table (concluded n place call x).jobs (concluded n place call x).waits
      ended (Ok outs) = answered_none r.table
      ended (Err f) = answered_none r.table

      by_status : (b c : Bool) → Answered r.table (rest b c).jobs (rest b c).waits
      by_status true c = ended end
      by_status false true = answered_none r.table
      by_status false false = h

      job : (x : Request) → (request r.site place attempt a ≡ x) ⊎ Contains (rest (is_success a.codes answer.status) last).jobs x
          → (is_answered r.table x ≡ true) ⊎ Contains (rest (is_success a.codes answer.status) last).waits x.place
      job x (inl same) = inl (subst (λ (z : Request). is_answered r.table z ≡ true) same (ap is_some e))
      job x (inr c) = (by_status (is_success a.codes answer.status) last).jobs x c

  attempts_answered : (left attempt : ℕ) → Answered r.table (attempts r n place t call a left attempt).jobs (attempts r n place t call a left attempt).waits
  attempts_answered zero attempt = attempt_answered attempt true (missing n) (answer_at r.table place attempt) refl (answered_none r.table)
  attempts_answered (suc left) attempt =
      attempt_answered attempt false (attempts r n place t call a left (attempt + 1)) (answer_at r.table place attempt) refl (attempts_answered left (attempt + 1))

pub answered_closed : (r : Run) → Closed r (λ p hs j w. Answered r.table j w)
answered_closed r =
    record {
      none = λ p hs. answered_none r.table;
      both = λ p hs gs j k w v apart. answered_both r.table j k w v;
      inner = λ p h hs j w x. x;
      tries = λ p h n t call a left. attempts_answered r n (p ++ h ∷ []) t call a left 0;
    }
