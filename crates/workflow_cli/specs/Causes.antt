-- The cause of each status, before anything is written.
use Rattle.std.specs.Prelude.{◌≡◌, ◌≢◌, ◌⊎◌, ℕ, List, [], Option, Some, None, codes, ⊤}
use Rattle.wdl_base.specs.declared.answer.Answer.{Answer}
use Rattle.wdl_base.specs.declared.entry.Entry.{Entry}
use Rattle.wdl_base.specs.declared.request.Request.{Request}
use Rattle.wdl_base.specs.declared.span.Span.{Span}
use Rattle.report_text.specs.declared.status.Status.{Status}
use Rattle.report_text.specs.declared.status.Status.TheVariants as status
use Rattle.wdl_typed.specs.declared.checked.Checked.{Checked}
use Rattle.workflow_stages.specs.declared.ended.Work.{Work}
use Rattle.workflow_stages.specs.declared.ended.Work.TheVariants as work
use Rattle.workflow_stages.specs.Documents.{HasChecked, HasNoMain, IsRefused, IsUnreadDocument, Tells}
use Rattle.workflow_cli.specs.Asking.{IsCheckOf, IsForMain, IsJournal, Words, asked}
use Rattle.workflow_cli.specs.Texts.{IsBundled, IsFormed, IsRuledOut, IsTranslated}
use Rattle.workflow_cli.specs.Printing.{IsPrinted}
use Rattle.workflow_cli.specs.Running.{IsBadInputs, IsDone, IsFailed, IsIdle, IsOn, IsTooMany, IsUnkept, IsUnlaunched, IsUnreadInputs, SomeRun, Trace}

-- the words name the document at this path
abbrev pub Names : Words → List ℕ → Type 0
Names words file = IsCheckOf words file ⊎ ((inputs : Option (List ℕ)) × IsForMain words file inputs)

module _ (tells : Tells) (words : Words) where
  -- the words ask for a check of a document that has a checked form, and the text says so
  pub record IsAccepted (text : List ℕ) : Type 0 where
    pub file : List ℕ
    pub asked : IsCheckOf words file
    pub checked : Checked
    pub has : HasChecked tells file checked
    pub says : text ≡ codes "ok\n"

  -- the document that is named has no checked form
  pub record IsRefusedDocument (code : ℕ) (span : Span) (paths : List (List ℕ)) : Type 0 where
    pub file : List ℕ
    pub named : Names words file
    pub refused : IsRefused tells file code span paths

  -- the document that is to be run, translated or bundled, or whose inputs are asked for, has no main workflow
  pub record IsMainless (code : ℕ) (span : Span) (paths : List (List ℕ)) : Type 0 where
    pub file : List ℕ
    pub inputs : Option (List ℕ)
    pub asked : IsForMain words file inputs
    pub mainless : HasNoMain tells file code span paths

  abbrev pub IsBadDocument : ℕ → Span → List (List ℕ) → Type 0
  IsBadDocument code span paths = IsRefusedDocument code span paths ⊎ IsMainless code span paths

  -- the shelf refuses the path of a document or of the inputs file
  pub record IsUnreadNamed (refused : List ℕ → Type 0) (rose : Type 0) (path : List ℕ) : Type 0 where
    pub file : List ℕ
    pub named : Names words file
    pub unread : IsUnreadDocument tells file refused rose path

  abbrev pub IsUnread : (List ℕ → Type 0) → Type 0 → List ℕ → Type 0
  IsUnread refused rose path = IsUnreadNamed refused rose path ⊎ IsUnreadInputs tells words refused rose path

-- the text of finished work: of a run, or of a command that runs nothing
abbrev pub IsFinished : Tells → Words → (Request → Answer → Type 0) → (Request → Type 0) → Trace → List ℕ → Type 0
IsFinished tells words gives refuses t text =
    IsDone tells words gives refuses t text
    ⊎ (IsIdle t × (IsAccepted tells words text ⊎ (IsTranslated tells words text ⊎ (IsFormed tells words text ⊎ (IsPrinted words text ⊎ IsBundled tells words text)))))

module _ (tells : Tells) (refused : List ℕ → Type 0) (rose : Type 0) (gives : Request → Answer → Type 0) (refuses : Request → Type 0) (words : Words) (t : Trace) where
  -- the status, and the paths of the documents that its line may name
  abbrev pub CauseOf : Status → List (List ℕ) → Type 0
  CauseOf status.Ok paths = ⊥
  CauseOf (status.Failed fault) paths = IsFailed tells words gives refuses t fault
  CauseOf status.Usage paths = IsIdle t × (asked words ≡ None)
  CauseOf (status.Document code span) paths = IsIdle t × IsBadDocument tells words code span paths
  CauseOf (status.Inputs code name) paths = IsIdle t × IsBadInputs tells words code name
  CauseOf (status.Read path) paths = IsIdle t × IsUnread tells words refused rose path
  CauseOf status.Write paths = ⊥
  CauseOf status.NoMemory paths = ⊤
  CauseOf (status.NotInSubset rule span) paths = IsIdle t × IsRuledOut tells words rule span paths
  CauseOf (status.Launch place) paths = IsUnlaunched tells words gives refuses t place
  CauseOf status.Keep paths = IsUnkept tells words gives refuses t
  CauseOf status.TooMany paths = IsTooMany tells words gives refuses t

  -- the work of a command, before anything is written
  abbrev pub Cause : Work → Type 0
  Cause (work.Text text) = IsFinished tells words gives refuses t text
  Cause (work.Stop stop) = CauseOf stop.status stop.paths

  pub record IsWork (w : Work) : Type 0 where
    pub run : IsIdle t ⊎ SomeRun tells words gives refuses t
    pub cause : Cause w

-- ---- the keeper

-- the words ask for a run that keeps its journal at a path, and the keeper is started on no other
abbrev pub UsesJournal : Words → Option (List ℕ) → Type 0
UsesJournal words at = (path : List ℕ) × IsJournal words path × IsOn path at

-- these statuses come when a run has ended
abbrev pub IsOfRun : Status → Type 0
IsOfRun status.Ok = ⊤
IsOfRun (status.Failed fault) = ⊤
IsOfRun (status.Launch place) = ⊤
IsOfRun status.Keep = ⊤
IsOfRun status.TooMany = ⊤
IsOfRun s = ⊥

-- where a journal is named: with such a status, or where the journal of the run holds an entry, the keeper is started on its path
abbrev pub IsStartedOn : Words → Status → List Entry → Option (List ℕ) → Type 0
IsStartedOn words s journal at = (path : List ℕ) → IsJournal words path → IsOfRun s ⊎ (journal ≢ []) → at ≡ Some path
