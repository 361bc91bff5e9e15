-- The jobs of a flow differ: those of a statement begin with its own segments, and the attempts of a call are numbered.
use Rattle.std.proofs.Common.{◌≡◌, ℕ, zero, suc, ◌+◌, ◌≤◌, Bool, true, false, cond, ◌⊎◌, inl, inr, List, [], ◌∷◌, ◌++◌, Contains, Option, Some, None, Ok, Err, append_assoc, arith, sym, ap, ◌∙◌, subst, refl}
use Rattle.std.proofs.lemmas.List.{append_cancel_left}
use Rattle.std.proofs.lemmas.List.Elements.{Contains-append_cases, Contains-append_left, Contains-append_right}
use Rattle.wdl_base.specs.declared.answer.Answer.{Answer}
use Rattle.wdl_base.specs.declared.place.Segment.{Segment}
use Rattle.wdl_base.specs.declared.request.Request.{Request}
use Rattle.wdl_value.specs.declared.env.Bind.{Bind}
use Rattle.wdl_value.specs.Tables.{answer_at}
use Rattle.wdl_typed.specs.declared.task.TaskDef.{TaskDef}
use Rattle.wdl_typed.specs.Flow.{Flowing, Names, Run, attempted, attempts, concluded, failing_at, missing, with_fault}
use Rattle.wdl_typed.specs.Requests.{Asked, Tried, bad_status, is_success, job_dir, request, tells}
use Rattle.flow_laws.specs.Jobs.{jobs_differ}
use Rattle.flow_laws.proofs.AtPlaces.{Closed}
use Rattle.flow_laws.proofs.JobLists.{differ_both, differ_one}
use Rattle.flow_laws.proofs.Signs.{Apart}
use Rattle.flow_laws.proofs.Elements.{contains_first, first_or_later, none_within}

-- The places of the jobs go on from here with one of these segments.
abbrev pub GoesOn : List Segment → List Segment → Request → Type 0
GoesOn p hs x = (h : Segment) × (rest : List Segment) × Contains hs h × (x.place ≡ p ++ h ∷ rest)

pub record Differing (p hs : List Segment) (j : List Request) (w : List (List Segment)) : Type 0 where
  pub places : (x : Request) → Contains j x → GoesOn p hs x
  pub differ : jobs_differ j ≡ true

differing_none : (p hs : List Segment) → Differing p hs [] []
differing_none p hs = record { places = λ x c. absurd (none_within x c); differ = refl }

pub first_segment : (p : List Segment) (h g : Segment) (r s : List Segment) → p ++ h ∷ r ≡ p ++ g ∷ s → h ≡ g
first_segment p h g r s e = let f : h ∷ r ≡ g ∷ s = append_cancel_left p (h ∷ r) (g ∷ s) e in cc

differing_both : (p hs gs : List Segment) (j k : List Request) (w v : List (List Segment)) → Apart hs gs → Differing p hs j w → Differing p gs k v → Differing p (hs ++ gs) (j ++ k) (w ++ v)
differing_both p hs gs j k w v apart a b =
    record {
      places = λ x c. place x (Contains-append_cases j k x c);
      differ = differ_both j k a.differ b.differ (λ x y c d e f.
          let m = a.places x c in
          let n = b.places y d in
          let same = first_segment p m.0 n.0 m.1 n.1 (sym m.3 ∙ e ∙ n.3) in
          apart n.0 (subst (Contains hs) same m.2) n.2);
    }
  where
    place : (x : Request) → Contains j x ⊎ Contains k x → GoesOn p (hs ++ gs) x
    place x (inl c) = let m = a.places x c in (m.0, m.1, Contains-append_left hs gs m.0 m.2, m.3)
    place x (inr c) = let m = b.places x c in (m.0, m.1, Contains-append_right hs gs m.0 m.2, m.3)

differing_inner : (p : List Segment) (h : Segment) (hs : List Segment) (j : List Request) (w : List (List Segment)) → Differing (p ++ h ∷ []) hs j w → Differing p (h ∷ []) j w
differing_inner p h hs j w a =
    record {
      places = λ x c. let m = a.places x c in (h, m.0 ∷ m.1, contains_first h [], m.3 ∙ append_assoc p (h ∷ []) (m.0 ∷ m.1));
      differ = a.differ;
    }

-- ---- attempts

-- attempts of one place, from a number on
record Attempts (place : List Segment) (from : ℕ) (j : List Request) : Type 0 where
  at : (x : Request) → Contains j x → (x.place ≡ place) × (from ≤ x.attempt)
  differ : jobs_differ j ≡ true

no_attempts : (place : List Segment) (from : ℕ) → Attempts place from []
no_attempts place from = record { at = λ x c. absurd (none_within x c); differ = refl }

module _ (r : Run) (n : Names) (place : List Segment) (t : TaskDef) (call : List ℕ) (a : Asked) where
  attempted_jobs : (attempt : ℕ) (last : Bool) (later : Flowing) (o : Option Answer) → Attempts place (attempt + 1) later.jobs → Attempts place (attempt + 1) (attempted r n place t call a attempt last later o).jobs
  attempted_jobs attempt last later None h = no_attempts place (attempt + 1)
  attempted_jobs attempt last later (Some answer) h = by_status (is_success a.codes answer.status) last
    where
      ended : (x : Tried (List Bind)) → Attempts place (attempt + 1) (concluded n place call x).jobs
      ended (Ok outs) = no_attempts place (attempt + 1)
      ended (Err f) = no_attempts place (attempt + 1)

      by_status : (b c : Bool) → Attempts place (attempt + 1) (cond b (concluded n place call (tells r.library.structs t a (job_dir r.site place attempt) answer)) (cond c (with_fault (failing_at place (bad_status answer.status)) (missing n)) later)).jobs
      by_status true c = ended (tells r.library.structs t a (job_dir r.site place attempt) answer)
      by_status false true = no_attempts place (attempt + 1)
      by_status false false = h

  one_more : (attempt : ℕ) (j : List Request) → Attempts place (attempt + 1) j → Attempts place attempt (request r.site place attempt a ∷ j)
  one_more attempt j h =
      record {
        at = λ x c. by_case x (first_or_later (request r.site place attempt a) j x c);
        differ = differ_one (request r.site place attempt a) j (λ x c e f. let m = h.at x c in omega (arith, m.1, f)) h.differ;
      }
    where
      by_case : (x : Request) → (request r.site place attempt a ≡ x) ⊎ Contains j x → (x.place ≡ place) × (attempt ≤ x.attempt)
      by_case x (inl same) = (ap (λ (z : Request). z.place) (sym same), subst (λ (z : Request). attempt ≤ z.attempt) same (omega arith))
      by_case x (inr c) = let m = h.at x c in (m.0, omega (arith, m.1))

  attempts_jobs : (left attempt : ℕ) → Attempts place attempt (attempts r n place t call a left attempt).jobs
  attempts_jobs zero attempt = one_more attempt _ (attempted_jobs attempt true (missing n) (answer_at r.table place attempt) (no_attempts place (attempt + 1)))
  attempts_jobs (suc left) attempt = one_more attempt _ (attempted_jobs attempt false (attempts r n place t call a left (attempt + 1)) (answer_at r.table place attempt) (attempts_jobs left (attempt + 1)))

pub differing_closed : (r : Run) → Closed r Differing
differing_closed r =
    record {
      none = differing_none;
      both = differing_both;
      inner = differing_inner;
      tries = λ p h n t call a left.
          let m = attempts_jobs r n (p ++ h ∷ []) t call a left 0 in
          record { places = λ x c. (h, [], contains_first h [], (m.at x c).0); differ = m.differ };
    }
