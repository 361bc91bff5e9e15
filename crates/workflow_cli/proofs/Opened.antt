-- On which path the keeper is started at the end.
use Rattle.std.proofs.Common.{◌≡◌, ◌≢◌, ◌⊎◌, inl, inr, ℕ, List, [], Option, Some, None, ap, sym, subst, ◌∙◌}
use Rattle.wdl_base.specs.declared.answer.Answer.{Answer}
use Rattle.wdl_base.specs.declared.request.Request.{Request}
use Rattle.report_text.specs.declared.status.Status.{Status}
use Rattle.report_text.specs.declared.status.Status.TheVariants as status
use Rattle.work_desk.specs.declared.stop.Stop.{Stop}
use Rattle.work_desk.specs.declared.stop.Stop.TheVariants as end
use Rattle.workflow_stages.specs.Documents.{Tells}
use Rattle.workflow_cli.specs.declared.asking.Command.TheVariants as command
use Rattle.workflow_cli.specs.declared.asking.RunOptions.{RunOptions}
use Rattle.workflow_cli.specs.Asking.{IsJournal, Words}
use Rattle.workflow_cli.specs.Causes.{CauseOf, IsFinished, IsOfRun, IsStartedOn}
use Rattle.workflow_cli.specs.Running.{IsIdle, IsRun, IsStarted, KeepsRows, Main, SomeRun, Trace, core_of}
use Rattle.workflow_cli.specs.Writing.{Told}
use Rattle.workflow_cli.proofs.Commands.{same_command}
use Rattle.workflow_cli.proofs.Outcomes.{Outcome}

module _ (tells : Tells) (refused : List ℕ → Type 0) (rose : Type 0) (gives : Request → Answer → Type 0) (refuses : Request → Type 0) (words : Words) (t : Trace) where
  module _ (path : List ℕ) (j : IsJournal words path) where
    abbrev On : Type 0
    On = t.keeper_now.path ≡ Some path

    -- a run of these words keeps its journal at that path
    journal_is : (m : Main) → IsStarted tells words m → m.options.journal ≡ Some path
    journal_is m h =
        let e = same_command words (command.Run h.asked.file h.asked.inputs m.options) (command.Run j.file j.inputs j.options) h.asked.asked j.asked in
        let o : m.options ≡ j.options = cc in
        ap (λ (x : RunOptions). x.journal) o ∙ j.named

    run_on : (m : Main) (why : Option Stop) → IsRun tells words gives refuses t m why → On
    run_on m why run =
        (subst (λ x. KeepsRows gives (core_of m t run.left.taken run.left.out run.left.plan) why x t.keeper t.keeper_now) (journal_is m run.started) run.left.kept).path

    finished_on : (text : List ℕ) → IsFinished tells words gives refuses t text → On
    finished_on text (inl h) = run_on h.main None h.run
    finished_on text (inr (idle, inl h)) = let e = same_command words (command.Check h.file) (command.Run j.file j.inputs j.options) h.asked j.asked in cc
    finished_on text (inr (idle, inr (inl h))) = let e = same_command words (command.Cwl h.file h.inputs) (command.Run j.file j.inputs j.options) h.asked j.asked in cc
    finished_on text (inr (idle, inr (inr (inl h)))) = let e = same_command words (command.Inputs h.file) (command.Run j.file j.inputs j.options) h.asked j.asked in cc
    finished_on text (inr (idle, inr (inr (inr (inl h))))) = let e = same_command words (command.Print h.page) (command.Run j.file j.inputs j.options) h.asked j.asked in cc
    finished_on text (inr (idle, inr (inr (inr (inr h))))) = let e = same_command words (command.Bundle h.file) (command.Run j.file j.inputs j.options) h.asked j.asked in cc

    said_on : (s : Status) (paths : List (List ℕ)) → IsOfRun s → CauseOf tells refused rose gives refuses words t s paths → On
    said_on (status.Failed fault) paths of h = run_on h.main (Some end.Failed) h.run
    said_on (status.Launch place) paths of h = run_on h.main (Some (end.Launch place)) h.run
    said_on status.Keep paths of h = h.opened ∙ sym h.named ∙ journal_is h.main h.started
    said_on status.TooMany paths of h = run_on h.main h.why h.run
    said_on status.Ok paths of h = absurd h
    said_on status.Usage paths of h = absurd of
    said_on (status.Document code span) paths of h = absurd of
    said_on (status.Inputs code name) paths of h = absurd of
    said_on (status.Read p) paths of h = absurd of
    said_on status.Write paths of h = absurd of
    said_on status.NoMemory paths of h = absurd of
    said_on (status.NotInSubset rule span) paths of h = absurd of

    module _ (out out' err err' : Told) (rose_out rose_err : Type 0) where
      ended_on : (r : Status) → IsOfRun r → Outcome tells refused rose gives refuses words t out out' err err' rose_out rose_err r → On
      ended_on r of (inl h) = finished_on h.1.text h.1.done
      ended_on r of (inr (inl h)) = absurd (subst IsOfRun h.0 of)
      ended_on r of (inr (inr h)) = said_on r h.paths of h.cause

  left_on : (path : List ℕ) (j : IsJournal words path) → IsIdle t ⊎ SomeRun tells words gives refuses t → t.journal ≢ [] → t.keeper_now.path ≡ Some path
  left_on path j (inl idle) n = absurd (n idle.no_answer)
  left_on path j (inr r) n = run_on path j r.main r.why r.run

  pub started_on : (out out' err err' : Told) (rose_out rose_err : Type 0) (r : Status) → Outcome tells refused rose gives refuses words t out out' err err' rose_out rose_err r
      → IsIdle t ⊎ SomeRun tells words gives refuses t → IsStartedOn words r t.journal t.keeper_now.path
  started_on out out' err err' rose_out rose_err r o run path j (inl of) = ended_on path j out out' err err' rose_out rose_err r of o
  started_on out out' err err' rose_out rose_err r o run path j (inr n) = left_on path j run n
