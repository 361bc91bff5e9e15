-- An attempt that stands among those that wait is one that waits.
use Rattle.std.specs.List.{list_any}
use Rattle.std.proofs.Common.{◌≡◌, ℕ, zero, suc, Bool, true, List, [], ◌∷◌, Some, Result, Ok, Err, OnOk, slice_get, sym, ap, ◌∙◌, arith}
use Rattle.std.specs.Result.{is_ok}
use Rattle.std.proofs.lemmas.Bool.{false≢true, or_left, or_right}
use Rattle.std.proofs.lemmas.Option.{slice_get_within, same_Some}
use Rattle.wdl_base.specs.declared.request.Request.{Request}
use Rattle.wdl_task.specs.declared.request.Prepared.{Prepared}
use Rattle.flow_laws.specs.Jobs.{is_job_at}
use Rattle.flow_laws.proofs.JobLists.{job_at}
use Rattle.scatter_plan.specs.Calls.{is_waiting}

-- What holds of an `Ok` holds where there is one.
pub of_ok : {A E P : Type 0} (r : Result A E) → OnOk r P → is_ok r ≡ true → P
of_ok (Ok a) p e = p
of_ok (Err x) p e = absurd (false≢true e)

module _ (r : Request) where
  abbrev is_one : Prepared → Bool
  is_one p = is_job_at r.place r.attempt p.request

  pub waits_at : (ready : List Prepared) (at : ℕ) (p : Prepared) → slice_get ready at ≡ Some p → r ≡ p.request → is_waiting ready r.place r.attempt ≡ true
  waits_at [] at p e same = absurd (let a = slice_get_within [] at p e in omega (arith, a))
  waits_at (q ∷ qs) zero p e same =
      let one : q.request ≡ r = ap (λ (x : Prepared). x.request) (same_Some _ _ e) ∙ sym same in
      or_left (is_one q) (list_any is_one qs) (job_at q.request r.place r.attempt (ap (λ (x : Request). x.place) one) (ap (λ (x : Request). x.attempt) one))
  waits_at (q ∷ qs) (suc k) p e same = or_right (is_one q) (list_any is_one qs) (waits_at qs k p e same)
