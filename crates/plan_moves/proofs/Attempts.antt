-- What the attempts of a call come to, by the answers at its place.
use Rattle.std.proofs.Common.{◌≡◌, ◌<◌, ◌≤◌, ℕ, zero, suc, ◌+◌, ◌-◌, Bool, true, false, cond, List, [], ◌∷◌, Some, None, arith, ap, refl, ◌∙◌}
use Rattle.wdl_base.specs.declared.answer.Answer.{Answer}
use Rattle.wdl_base.specs.declared.place.Segment.{Segment}
use Rattle.wdl_value.specs.Tables.{answer_at}
use Rattle.wdl_typed.specs.declared.task.TaskDef.{TaskDef}
use Rattle.wdl_typed.specs.Flow.{Flowing, Names, Run, attempted, attempts, concluded, failing_at, missing, waiting, with_fault, with_jobs}
use Rattle.wdl_typed.specs.Requests.{Asked, bad_status, is_success, job_dir, request, tells}
use Rattle.plan_moves.specs.Telling.{IsTried, codes_of, requests_from}

module _ (r : Run) (n : Names) (place : List Segment) (t : TaskDef) (call : List ℕ) (a : Asked) where
  -- what an attempt comes to, where so many are left behind it
  abbrev final : ℕ → ℕ → Flowing
  final zero i = attempted r n place t call a i true (missing n) (answer_at r.table place i)
  final (suc left) i = attempted r n place t call a i false (attempts r n place t call a left (i + 1)) (answer_at r.table place i)

  -- The attempts from one on are refused, before another one.
  abbrev Refused : ℕ → ℕ → Type 0
  Refused i m = (j : ℕ) → i ≤ j → j < i + m → (answer : Answer) × (answer_at r.table place j ≡ Some answer) × (is_success a.codes answer.status ≡ false)

  one_attempt : (left i : ℕ) → attempts r n place t call a left i ≡ with_jobs (request r.site place i a ∷ []) (a.codes ∷ []) (final left i)
  one_attempt zero i = refl
  one_attempt (suc left) i = refl

  later_first : (left i : ℕ) → final (suc left) i ≡ attempted r n place t call a i false (attempts r n place t call a left (i + 1)) (answer_at r.table place i)
  later_first left i = refl

  passed : (i : ℕ) (later : Flowing) (answer : Answer) → answer_at r.table place i ≡ Some answer → is_success a.codes answer.status ≡ false → attempted r n place t call a i false later (answer_at r.table place i) ≡ later
  passed i later answer e h =
      ap (attempted r n place t call a i false later) e
      ∙ ap (λ (b : Bool). cond b (concluded n place call (tells r.library.structs t a (job_dir r.site place i) answer)) later) h

  nothing_left : (n left : ℕ) → n ≡ left + 0 → n ≡ left
  nothing_left n left e = omega (arith, e)

  here : (i : ℕ) → i ≡ i + 0
  here i = omega arith

  moved : (i m : ℕ) → (i + 1) + m ≡ i + suc m
  moved i m = omega arith

  chain : (m left i n_ : ℕ) → n_ ≡ left + m → Refused i m → attempts r n place t call a n_ i ≡ with_jobs (requests_from r.site place a i (suc m)) (codes_of a (suc m)) (final left (i + m))
  chain zero left i n_ e h =
      ap (λ (k : ℕ). attempts r n place t call a k i) (nothing_left n_ left e)
      ∙ one_attempt left i
      ∙ ap (λ (k : ℕ). with_jobs (request r.site place i a ∷ []) (a.codes ∷ []) (final left k)) (here i)
  chain (suc m) left i zero e h = absurd (omega (arith, e))
  chain (suc m) left i (suc n_) e h =
      let f = h i (omega arith) (omega arith) in
      ap (with_jobs (request r.site place i a ∷ []) (a.codes ∷ []))
      (passed i (attempts r n place t call a n_ (i + 1)) f.0 f.1 f.2 ∙ chain m left (i + 1) n_ (omega (arith, e)) (λ j l k. h j (omega (arith, l)) (omega (arith, k))))
      ∙ ap (λ (k : ℕ). with_jobs (requests_from r.site place a i (suc (suc m))) (codes_of a (suc (suc m))) (final left k)) (moved i m)

  from_tried : (k : ℕ) → IsTried r.table place a k → attempts r n place t call a a.retries 0 ≡ with_jobs (requests_from r.site place a 0 (suc k)) (codes_of a (suc k)) (final (a.retries - k) k)
  from_tried k h =
      chain k (a.retries - k) 0 a.retries (whole a.retries k h.within) (λ j l i. h.refused j (omega (arith, i)))
      ∙ ap (λ (j : ℕ). with_jobs (requests_from r.site place a 0 (suc k)) (codes_of a (suc k)) (final (a.retries - k) j)) (from_zero k)
    where
      whole : (m k : ℕ) → k ≤ m → m ≡ (m - k) + k
      whole m k h = omega (arith, h)

      from_zero : (k : ℕ) → 0 + k ≡ k
      from_zero k = omega arith

  final_waits : (left i : ℕ) → answer_at r.table place i ≡ None → final left i ≡ waiting place (missing n)
  final_waits zero i e = ap (attempted r n place t call a i true (missing n)) e
  final_waits (suc left) i e = ap (attempted r n place t call a i false (attempts r n place t call a left (i + 1))) e

  final_tells : (left i : ℕ) (answer : Answer) → answer_at r.table place i ≡ Some answer → is_success a.codes answer.status ≡ true
      → final left i ≡ concluded n place call (tells r.library.structs t a (job_dir r.site place i) answer)
  final_tells zero i answer e h =
      ap (attempted r n place t call a i true (missing n)) e
      ∙ ap (λ (b : Bool). cond b (concluded n place call (tells r.library.structs t a (job_dir r.site place i) answer)) (with_fault (failing_at place (bad_status answer.status)) (missing n))) h
  final_tells (suc left) i answer e h =
      ap (attempted r n place t call a i false (attempts r n place t call a left (i + 1))) e
      ∙ ap (λ (b : Bool). cond b (concluded n place call (tells r.library.structs t a (job_dir r.site place i) answer)) (attempts r n place t call a left (i + 1))) h

  final_refused : (i : ℕ) (answer : Answer) → answer_at r.table place i ≡ Some answer → is_success a.codes answer.status ≡ false → final 0 i ≡ with_fault (failing_at place (bad_status answer.status)) (missing n)
  final_refused i answer e h =
      ap (attempted r n place t call a i true (missing n)) e
      ∙ ap (λ (b : Bool). cond b (concluded n place call (tells r.library.structs t a (job_dir r.site place i) answer)) (with_fault (failing_at place (bad_status answer.status)) (missing n))) h

  -- ---- the attempts of a call

  pub attempts_wait : (k : ℕ) → IsTried r.table place a k → answer_at r.table place k ≡ None
      → attempts r n place t call a a.retries 0 ≡ with_jobs (requests_from r.site place a 0 (suc k)) (codes_of a (suc k)) (waiting place (missing n))
  attempts_wait k h e = from_tried k h ∙ ap (with_jobs (requests_from r.site place a 0 (suc k)) (codes_of a (suc k))) (final_waits (a.retries - k) k e)

  pub attempts_tell : (k : ℕ) (answer : Answer) → IsTried r.table place a k → answer_at r.table place k ≡ Some answer → is_success a.codes answer.status ≡ true
      → attempts r n place t call a a.retries 0
      ≡ with_jobs (requests_from r.site place a 0 (suc k)) (codes_of a (suc k)) (concluded n place call (tells r.library.structs t a (job_dir r.site place k) answer))
  attempts_tell k answer h e s = from_tried k h ∙ ap (with_jobs (requests_from r.site place a 0 (suc k)) (codes_of a (suc k))) (final_tells (a.retries - k) k answer e s)

  pub attempts_refused : (k : ℕ) (answer : Answer) → IsTried r.table place a k → answer_at r.table place k ≡ Some answer → is_success a.codes answer.status ≡ false → k ≡ a.retries
      → attempts r n place t call a a.retries 0 ≡ with_jobs (requests_from r.site place a 0 (suc k)) (codes_of a (suc k)) (with_fault (failing_at place (bad_status answer.status)) (missing n))
  attempts_refused k answer h e s last =
      from_tried k h
      ∙ ap (λ (left : ℕ). with_jobs (requests_from r.site place a 0 (suc k)) (codes_of a (suc k)) (final left k)) (none_left a.retries k last)
      ∙ ap (with_jobs (requests_from r.site place a 0 (suc k)) (codes_of a (suc k))) (final_refused k answer e s)
    where
      none_left : (n k : ℕ) → k ≡ n → n - k ≡ 0
      none_left n k e = omega (arith, e)
