-- From the work of the main workflow to the cause of its status.
use Rattle.std.proofs.Common.{◌≡◌, inl, inr, ℕ, List, [], Option, Some, None, ap, sym, subst, ◌∙◌, refl}
use Rattle.wdl_base.specs.declared.answer.Answer.{Answer}
use Rattle.wdl_base.specs.declared.request.Request.{Request}
use Rattle.report_text.specs.declared.status.Status.{Status}
use Rattle.report_text.specs.declared.status.Status.TheVariants as status
use Rattle.wdl_words.specs.declared.wants.Wants.{Wants}
use Rattle.wdl_words.specs.declared.wants.Wants.TheVariants.{Run, Check, Inputs, Cwl, Load, Bundle, Explain, Help, Version}
use Rattle.work_desk.specs.declared.stop.Stop.{Stop}
use Rattle.work_desk.specs.declared.stop.Stop.TheVariants as end
use Rattle.workflow_stages.specs.declared.ended.Work.{Work}
use Rattle.workflow_stages.specs.Documents.{Tells}
use Rattle.workflow_cli.specs.declared.asking.Command.{Command}
use Rattle.workflow_cli.specs.declared.asking.Command.TheVariants as command
use Rattle.workflow_cli.specs.declared.asking.Report.{Report}
use Rattle.workflow_cli.specs.declared.asking.Report.TheVariants as report
use Rattle.workflow_cli.specs.declared.asking.RunOptions.{RunOptions}
use Rattle.workflow_cli.specs.Asking.{IsRunOf, Words, command_of}
use Rattle.workflow_cli.specs.Causes.{Cause, CauseOf, IsWork}
use Rattle.workflow_cli.specs.Reporting.{report_line}
use Rattle.workflow_cli.specs.Running.{IsRun, IsStarted, IsUnkept, KeepsRows, Main, Trace, core_of}
use Rattle.workflow_cli.specs.Stages.{IsFailedAs, RunsMain, StopsAs, Turns}
use Rattle.workflow_cli.proofs.Left.{has_begun}

-- what is reported of a run that is asked for
abbrev reported : Command → Report
reported (command.Run file inputs options) = options.report
reported c = report.Outputs

are_outputs : (w : Wants) → reported (command_of w) ≡ report.Outputs
are_outputs (Run file inputs workers root journal) = refl
are_outputs (Check file) = refl
are_outputs (Inputs file) = refl
are_outputs (Cwl file inputs) = refl
are_outputs (Load number) = refl
are_outputs (Bundle file) = refl
are_outputs (Explain code) = refl
are_outputs (Help about) = refl
are_outputs Version = refl

-- of a run that the words ask for the outputs are reported
reports_outputs : (words : Words) (file : List ℕ) (inputs : Option (List ℕ)) (options : RunOptions) → IsRunOf words file inputs options → options.report ≡ report.Outputs
reports_outputs words file inputs options h = sym (ap reported h.is) ∙ are_outputs h.wants

module _ (tells : Tells) (refused : List ℕ → Type 0) (rose : Type 0) (gives : Request → Answer → Type 0) (refuses : Request → Type 0) (words : Words) (t : Trace) where
  abbrev Comes : Work → Type 0
  Comes = Cause tells refused rose gives refuses words t

  abbrev Said : Status → Type 0
  Said s = CauseOf tells refused rose gives refuses words t s []

  abbrev Runs : Main → Option Stop → Type 0
  Runs = IsRun tells words gives refuses t

  -- the keeper stopped the run, so there is one
  kept : (m : Main) (run : Runs m (Some end.Keep)) → IsUnkept tells words gives refuses t
  kept m run = by_journal m.options.journal refl run.left.kept
    where
      by_journal : (j : Option (List ℕ)) → m.options.journal ≡ j → KeepsRows gives (core_of m t run.left.taken run.left.out run.left.plan) (Some end.Keep) j t.keeper t.keeper_now
          → IsUnkept tells words gives refuses t
      by_journal None e h = absurd (h.1 refl)
      by_journal (Some path) e h = record { main = m; started = run.started; path = path; named = e; opened = h.path; counted = h.keep refl; ran = inr run }

  after_fault : (m : Main) (run : Runs m (Some end.Failed)) (s : Status) → IsFailedAs (core_of m t run.left.taken run.left.out run.left.plan) s → Said s
  after_fault m run (status.Failed fault) h = record { main = m; run = run; is_fault = h }
  after_fault m run status.TooMany h = record { main = m; why = Some end.Failed; stop = inr refl; run = run; many = h }
  after_fault m run status.NoMemory h = tt
  after_fault m run status.Ok h = absurd h
  after_fault m run status.Usage h = absurd h
  after_fault m run (status.Document code span) h = absurd h
  after_fault m run (status.Inputs code name) h = absurd h
  after_fault m run (status.Read path) h = absurd h
  after_fault m run status.Write h = absurd h
  after_fault m run (status.NotInSubset rule span) h = absurd h
  after_fault m run (status.Launch place) h = absurd h
  after_fault m run status.Keep h = absurd h

  -- the status of a stop
  stop_said : (m : Main) (why : Stop) (run : Runs m (Some why)) (s : Status) → StopsAs (core_of m t run.left.taken run.left.out run.left.plan) why s → Said s
  stop_said m end.Failed run s h = after_fault m run s h
  stop_said m end.NoMemory run s h = subst Said (sym h) tt
  stop_said m (end.Launch place) run s h =
      let c = (has_begun _ _ _ run.left.run (λ e. cc)).caused in
      subst Said (sym h) (record { main = m; run = run; job = c.0; was_taken = c.1; at_place = c.2; refused = c.3; is_job = c.4 })
  stop_said m end.Keep run s h = subst Said (sym h) (kept m run)
  stop_said m end.TooMany run s h = subst Said (sym h) (record { main = m; why = Some end.TooMany; stop = inl refl; run = run; many = (has_begun _ _ _ run.left.run (λ e. cc)).caused })

  run_comes : (m : Main) (why : Option Stop) (run : Runs m why) (w : Work) → Turns m.options.report m.flow.name (core_of m t run.left.taken run.left.out run.left.plan) why w → Comes w
  run_comes m None run w (inl e) =
      let d = (has_begun _ _ _ run.left.run (λ e. cc)).clean refl in
      let of = reports_outputs words run.started.asked.file run.started.asked.inputs m.options run.started.asked.asked in
      let is = ap (λ r. report_line r m.flow.name (core_of m t run.left.taken run.left.out run.left.plan)) of in
      subst Comes (sym e) (inl (record { main = m; run = run; few = d.few; clean = d.clean; paid = (run.left.paid refl d.few).within; outputs = is }))
  run_comes m None run w (inr e) = subst Comes (sym e) tt
  run_comes m (Some why) run w (s, e, h) = subst Comes (sym e) (stop_said m why run s h)

  -- the work of the main workflow that was started
  pub main_is_work : (m : Main) → IsStarted tells words m → (w : Work) → RunsMain gives refuses t m w → IsWork tells refused rose gives refuses words t w
  main_is_work m started w (inl (idle, e)) = record { run = inl idle; cause = subst Comes (sym e) tt }
  main_is_work m started w (inr (inl (h, e))) = record {
    run = inl h.idle;
    cause = subst Comes (sym e) (record { main = m; started = started; path = h.path; named = h.named; opened = h.opened; counted = h.counted; ran = inl h.idle });
  }
  main_is_work m started w (inr (inr h)) =
      let run : Runs m h.why = record { started = started; left = h.left } in record { run = inr (record { main = m; why = h.why; run = run }); cause = run_comes m h.why run w h.turns }
