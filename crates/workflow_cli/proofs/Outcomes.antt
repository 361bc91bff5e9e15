-- From the work of a command and what was written to what each status says.
use Rattle.std.proofs.Common.{◌≡◌, Bool, true, false, inl, inr, ◌⊎◌, ℕ, List, [], ap, sym, subst, ◌∙◌, refl}
use Rattle.std.proofs.lemmas.Bool.{false≢true}
use Rattle.wdl_base.specs.declared.answer.Answer.{Answer}
use Rattle.wdl_base.specs.declared.request.Request.{Request}
use Rattle.wdl_base.specs.declared.span.Span.{Span}
use Rattle.report_text.specs.declared.status.Status.{Status}
use Rattle.report_text.specs.declared.status.Status.TheVariants as status
use Rattle.report_text.specs.Lines.{line_of}
use Rattle.wdl_port.specs.Told.{grown}
use Rattle.workflow_stages.specs.declared.ended.Work.{Work}
use Rattle.workflow_stages.specs.declared.ended.Work.TheVariants as work
use Rattle.workflow_stages.specs.Documents.{Tells}
use Rattle.workflow_cli.specs.Asking.{Words}
use Rattle.workflow_cli.specs.Causes.{Cause, CauseOf}
use Rattle.workflow_cli.specs.Running.{Trace}
use Rattle.workflow_cli.specs.Writing.{Finishes, IsCut, IsExcluded, IsReported, IsWritten, Lines, Reports, TellsLine, Told}

-- a status with a line and nothing else
abbrev has_line : Status → Bool
has_line status.Ok = false
has_line status.Write = false
has_line s = true

module _ (tells : Tells) (refused : List ℕ → Type 0) (rose : Type 0) (gives : Request → Answer → Type 0) (refuses : Request → Type 0) (words : Words) (t : Trace)
    (out out' err err' : Told) (rose_out rose_err : Type 0) where
  -- the cause of the status holds, and its line was written
  pub record IsTold (r : Status) : Type 0 where
    pub paths : List (List ℕ)
    pub cause : CauseOf tells refused rose gives refuses words t r paths
    pub nothing : out' ≡ out
    pub line : err' ≡ grown err (line_of r paths)

  abbrev pub Written : Type 0
  Written = IsWritten tells words gives refuses t out out' err err'

  abbrev pub Cut : Type 0
  Cut = IsCut tells refused rose gives refuses words t out out' err err' rose_out rose_err

  abbrev pub Outcome : Status → Type 0
  Outcome r = ((r ≡ status.Ok) × Written) ⊎ ((r ≡ status.Write) × Cut) ⊎ IsTold r

  told : (s r : Status) (paths : List (List ℕ)) → CauseOf tells refused rose gives refuses words t s paths → out' ≡ out → r ≡ s → err' ≡ grown err (line_of s paths) → IsTold r
  told s r paths h n e l =
      record {
        paths = paths;
        cause = subst (λ x. CauseOf tells refused rose gives refuses words t x paths) (sym e) h;
        nothing = n;
        line = l ∙ ap (λ x. grown err (line_of x paths)) (sym e);
      }

  stop_outcome : (s r : Status) (paths : List (List ℕ)) → CauseOf tells refused rose gives refuses words t s paths → out' ≡ out → Reports s paths err err' rose_err r → Outcome r
  stop_outcome s r paths h n (inl (inl x)) = inr (inr (told s r paths h n x.0 x.1))
  stop_outcome s r paths h n (inl (inr x)) = inr (inl (x.0, inr (record { whose = s; paths = paths; cause = h; nothing = n; cut = x.1 })))
  stop_outcome s r paths h n (inr (inl x)) = inr (inr (told status.NoMemory r [] tt n x.0 x.1))
  stop_outcome s r paths h n (inr (inr x)) = inr (inl (x.0, inr (record { whose = status.NoMemory; paths = []; cause = tt; nothing = n; cut = x.1 })))

  pub outcome : (w : Work) (r : Status) → Cause tells refused rose gives refuses words t w → Finishes w out out' err err' rose_out rose_err r → Outcome r
  outcome (work.Text text) r h (inl f) = inl (f.0, record { text = text; done = h; output = f.1; error = f.2 })
  outcome (work.Text text) r h (inr f) = inr (inl (f.0, inl (record { text = text; done = h; cut = f.1 })))
  outcome (work.Stop stop) r h f = stop_outcome stop.status r stop.paths h f.0 f.1

  -- ---- each status

  -- the cause of a status with a line, and that line
  pub line_told : (r : Status) → Outcome r → (s : Status) → has_line s ≡ true → r ≡ s → IsTold s
  line_told r (inl h) s line e = absurd (false≢true (ap has_line (sym h.0 ∙ e) ∙ line))
  line_told r (inr (inl h)) s line e = absurd (false≢true (ap has_line (sym h.0 ∙ e) ∙ line))
  line_told r (inr (inr h)) s line e = subst IsTold e h

  pub ok : (r : Status) → Outcome r → r ≡ status.Ok → Written
  ok r (inl h) e = h.1
  ok r (inr (inl h)) e = let a = sym h.0 ∙ e in cc
  ok r (inr (inr h)) e = absurd (subst (λ x. CauseOf tells refused rose gives refuses words t x h.paths) e h.cause)

  pub write : (r : Status) → Outcome r → r ≡ status.Write → Cut
  write r (inl h) e = let a = sym h.0 ∙ e in cc
  write r (inr (inl h)) e = h.1
  write r (inr (inr h)) e = absurd (subst (λ x. CauseOf tells refused rose gives refuses words t x h.paths) e h.cause)

  pub document : (r : Status) → Outcome r → (code : ℕ) (span : Span) → r ≡ status.Document code span → IsReported tells words gives refuses t out out' err err' code span
  document r o code span e =
      let h = line_told r o (status.Document code span) refl e in record { paths = h.paths; idle = h.cause.0; bad = h.cause.1; nothing = h.nothing; line = h.line }

  pub excluded : (r : Status) → Outcome r → (rule : ℕ) (span : Span) → r ≡ status.NotInSubset rule span → IsExcluded tells words gives refuses t out out' err err' rule span
  excluded r o rule span e =
      let h = line_told r o (status.NotInSubset rule span) refl e in record { paths = h.paths; idle = h.cause.0; ruled_out = h.cause.1; nothing = h.nothing; line = h.line }

module _ (out out' err err' : Told) (rose_out rose_err : Type 0) where
  lines_by : (r : Status) (paths : List (List ℕ)) → out' ≡ out → err' ≡ grown err (line_of r paths) → Lines r out out' err err'
  lines_by status.Ok paths n l = tt
  lines_by status.Write paths n l = tt
  lines_by (status.Document code span) paths n l = tt
  lines_by (status.NotInSubset rule span) paths n l = tt
  lines_by (status.Failed fault) paths n l = (n, l)
  lines_by status.Usage paths n l = (n, l)
  lines_by (status.Inputs code name) paths n l = (n, l)
  lines_by (status.Read path) paths n l = (n, l)
  lines_by status.NoMemory paths n l = (n, l)
  lines_by (status.Launch place) paths n l = (n, l)
  lines_by status.Keep paths n l = (n, l)
  lines_by status.TooMany paths n l = (n, l)

  told_by : (s r : Status) (paths : List (List ℕ)) → out' ≡ out → TellsLine s (line_of s paths) err err' rose_err r → Lines r out out' err err'
  told_by s r paths n (inl x) = subst (λ q. Lines q out out' err err') (sym x.0) (lines_by s paths n x.1)
  told_by s r paths n (inr x) = subst (λ q. Lines q out out' err err') (sym x.0) tt

  pub lines : (w : Work) (r : Status) → Finishes w out out' err err' rose_out rose_err r → Lines r out out' err err'
  lines (work.Text text) r (inl f) = subst (λ q. Lines q out out' err err') (sym f.0) tt
  lines (work.Text text) r (inr f) = subst (λ q. Lines q out out' err err') (sym f.0) tt
  lines (work.Stop stop) r (n, inl x) = told_by stop.status r stop.paths n x
  lines (work.Stop stop) r (n, inr x) = told_by status.NoMemory r [] n x
