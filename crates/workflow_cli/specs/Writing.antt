-- What is written to the output and to the error stream.
use Rattle.std.specs.Prelude.{◌≡◌, ◌⊎◌, ℕ, List, [], Option, ⊤, take}
use Rattle.wdl_base.specs.declared.answer.Answer.{Answer}
use Rattle.wdl_base.specs.declared.request.Request.{Request}
use Rattle.wdl_base.specs.declared.span.Span.{Span}
use Rattle.report_text.specs.declared.status.Status.{Status}
use Rattle.report_text.specs.declared.status.Status.TheVariants as status
use Rattle.report_text.specs.Lines.{line_of}
use Rattle.wdl_port.specs.Told.{grown}
use Rattle.workflow_stages.specs.declared.ended.Work.{Work}
use Rattle.workflow_stages.specs.declared.ended.Work.TheVariants as work
use Rattle.workflow_stages.specs.Documents.{Tells}
use Rattle.workflow_cli.specs.Asking.{Words}
use Rattle.workflow_cli.specs.Running.{IsIdle, Trace}
use Rattle.workflow_cli.specs.Causes.{CauseOf, IsBadDocument, IsFinished}
use Rattle.workflow_cli.specs.Texts.{IsRuledOut}

-- what a sink tells that it holds
abbrev pub Told : Type 0
Told = Option (List ℕ)

-- ---- one line

-- a front of the line was written, and the sink's count of faults rose
pub record IsCutLine (line : List ℕ) (old new : Told) (rose : Type 0) : Type 0 where
  pub part : ℕ
  pub bytes : new ≡ grown old (take part line)
  pub counted : rose

-- the line was written, or a front of it, and then the status is Write
abbrev pub TellsLine : Status → List ℕ → Told → Told → Type 0 → Status → Type 0
TellsLine s line old new rose r = ((r ≡ s) × (new ≡ grown old line)) ⊎ ((r ≡ status.Write) × IsCutLine line old new rose)

-- the same for a status whose line may want memory
abbrev pub Reports : Status → List (List ℕ) → Told → Told → Type 0 → Status → Type 0
Reports s paths old new rose r =
    TellsLine s (line_of s paths) old new rose r ⊎ TellsLine status.NoMemory (line_of status.NoMemory []) old new rose r

-- ---- the output

-- a front of the text was written and the output's count of faults rose; then the line of Write, as far as it goes
pub record IsCutText (text : List ℕ) (out out' err err' : Told) (rose_out rose_err : Type 0) : Type 0 where
  pub part : ℕ
  pub bytes : out' ≡ grown out (take part text)
  pub counted : rose_out
  pub told : (err' ≡ grown err (line_of status.Write [])) ⊎ IsCutLine (line_of status.Write []) err err' rose_err

abbrev pub Finishes : Work → Told → Told → Told → Told → Type 0 → Type 0 → Status → Type 0
Finishes (work.Text text) out out' err err' rose_out rose_err r =
    ((r ≡ status.Ok) × (out' ≡ grown out text) × (err' ≡ err)) ⊎ ((r ≡ status.Write) × IsCutText text out out' err err' rose_out rose_err)
Finishes (work.Stop stop) out out' err err' rose_out rose_err r = (out' ≡ out) × Reports stop.status stop.paths err err' rose_err r

-- ---- with each status

module _ (tells : Tells) (words : Words) (gives : Request → Answer → Type 0) (refuses : Request → Type 0) (t : Trace) (out out' err err' : Told) where
  -- with Ok: the text of finished work, and nothing else
  pub record IsWritten : Type 0 where
    pub text : List ℕ
    pub done : IsFinished tells words gives refuses t text
    pub output : out' ≡ grown out text
    pub error : err' ≡ err

  -- with Document: the line that names the document by its path, and nothing else
  pub record IsReported (code : ℕ) (span : Span) : Type 0 where
    pub paths : List (List ℕ)
    pub idle : IsIdle t
    pub bad : IsBadDocument tells words code span paths
    pub nothing : out' ≡ out
    pub line : err' ≡ grown err (line_of (status.Document code span) paths)

  -- with NotInSubset: the line that names the document by its path, and nothing else
  pub record IsExcluded (rule : ℕ) (span : Span) : Type 0 where
    pub paths : List (List ℕ)
    pub idle : IsIdle t
    pub ruled_out : IsRuledOut tells words rule span paths
    pub nothing : out' ≡ out
    pub line : err' ≡ grown err (line_of (status.NotInSubset rule span) paths)

  -- with Write: the output was cut
  pub record IsCutOutput (rose_out rose_err : Type 0) : Type 0 where
    pub text : List ℕ
    pub done : IsFinished tells words gives refuses t text
    pub cut : IsCutText text out out' err err' rose_out rose_err

-- with each other status but Write: its line, and nothing else
abbrev pub Lines : Status → Told → Told → Told → Told → Type 0
Lines status.Ok out out' err err' = ⊤
Lines status.Write out out' err err' = ⊤
Lines (status.Document code span) out out' err err' = ⊤
Lines (status.NotInSubset rule span) out out' err err' = ⊤
Lines s out out' err err' = (out' ≡ out) × (err' ≡ grown err (line_of s []))

-- with Write: the line of another status was cut, whose cause holds
pub record IsCutStop (tells : Tells) (refused : List ℕ → Type 0) (rose : Type 0) (gives : Request → Answer → Type 0) (refuses : Request → Type 0) (words : Words) (t : Trace) (out out' err err' : Told) (rose_err : Type 0) : Type 0 where
  pub whose : Status
  pub paths : List (List ℕ)
  pub cause : CauseOf tells refused rose gives refuses words t whose paths
  pub nothing : out' ≡ out
  pub cut : IsCutLine (line_of whose paths) err err' rose_err

-- with Write
abbrev pub IsCut : Tells → (List ℕ → Type 0) → Type 0 → (Request → Answer → Type 0) → (Request → Type 0) → Words → Trace → Told → Told → Told → Told → Type 0 → Type 0 → Type 0
IsCut tells refused rose gives refuses words t out out' err err' rose_out rose_err =
    IsCutOutput tells words gives refuses t out out' err err' rose_out rose_err
    ⊎ IsCutStop tells refused rose gives refuses words t out out' err err' rose_err
