-- Where every read of the shelf succeeded.
use Rattle.std.proofs.Common.{◌≡◌, inl, inr, ℕ, false, List, ap, sym, subst, ◌∙◌, refl}
use Rattle.std.proofs.lemmas.Bool.{false≢true}
use Rattle.report_text.specs.declared.status.Status.{Status}
use Rattle.report_text.specs.declared.status.Status.TheVariants as status
use Rattle.workflow_stages.specs.declared.ended.Work.{Work}
use Rattle.workflow_stages.specs.declared.ended.Work.TheVariants as work
use Rattle.workflow_stages.specs.Counting.{StatusCounts, WorkCounts, is_read}
use Rattle.workflow_cli.specs.Writing.{Finishes, Reports, Told}

-- of another status nothing is said
pub uncounted : (r s : Status) (before now : ℕ) → r ≡ s → is_read s ≡ false → StatusCounts r before now
uncounted r s before now e f = λ read. absurd (false≢true (sym f ∙ sym (ap is_read e) ∙ read))

module _ (before now : ℕ) (out out' err err' : Told) (rose_out rose_err : Type 0) where
  reported : (s r : Status) (paths : List (List ℕ)) → StatusCounts s before now → Reports s paths err err' rose_err r → StatusCounts r before now
  reported s r paths h (inl (inl x)) = subst (λ q. StatusCounts q before now) (sym x.0) h
  reported s r paths h (inl (inr x)) = uncounted r status.Write before now x.0 refl
  reported s r paths h (inr (inl x)) = uncounted r status.NoMemory before now x.0 refl
  reported s r paths h (inr (inr x)) = uncounted r status.Write before now x.0 refl

  -- what is written of some work changes nothing of the shelf
  pub finishes : (w : Work) (r : Status) → WorkCounts w before now → Finishes w out out' err err' rose_out rose_err r → StatusCounts r before now
  finishes (work.Text text) r h f = λ read. h
  finishes (work.Stop stop) r h f = reported stop.status r stop.paths h f.1
