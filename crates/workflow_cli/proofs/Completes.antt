-- Which status comes.
use Rattle.std.proofs.Common.{◌≡◌, inl, inr, ◌⊎◌, ℕ, false, true, List, [], Option, Some, None, Result, Ok, Err, Contains, ap, sym, subst, ◌∙◌, refl}
use Rattle.std.proofs.lemmas.Bool.{false≢true}
use Rattle.std.proofs.lemmas.Option.{same_Some}
use Rattle.wdl_base.specs.declared.answer.Answer.{Answer}
use Rattle.wdl_base.specs.declared.fault.Fault.{Fault}
use Rattle.wdl_base.specs.declared.request.Request.{Request}
use Rattle.wdl_base.specs.declared.span.Span.{Span}
use Rattle.wdl_value.specs.declared.env.Bind.{Bind}
use Rattle.report_text.specs.declared.status.Status.{Status}
use Rattle.report_text.specs.declared.status.Status.TheVariants as status
use Rattle.wdl_typed.specs.declared.checked.Checked.{Checked}
use Rattle.wdl_typed.specs.declared.flow.FlowDef.{FlowDef}
use Rattle.wdl_typed.specs.Flow.{too_many}
use Rattle.wdl_json.specs.Inputs.{inputs_in, main_of}
use Rattle.wdl_json.specs.declared.fault.InputFault.{InputFault}
use Rattle.wdl_json.specs.declared.fault.InputFault.TheVariants.{Bad}
use Rattle.wdl_port.specs.Causes.{Rose}
use Rattle.workflow_stages.specs.Documents.{HasChecked, HasNoMain, IsRefused, Tells}
use Rattle.workflow_stages.specs.Preparing.{IsInputsText}
use Rattle.workflow_texts.specs.Translating.{GivesAll, IsCwlText, IsInSubset}
use Rattle.workflow_cli.specs.declared.asking.Command.{Command}
use Rattle.workflow_cli.specs.declared.asking.Command.TheVariants as command
use Rattle.workflow_cli.specs.declared.asking.Page.{Page}
use Rattle.workflow_cli.specs.declared.asking.RunOptions.{RunOptions}
use Rattle.workflow_cli.specs.Asking.{IsBundleOf, IsCommand, IsCwlOf, IsForFlow, IsForInputs, IsForMain, IsPrintOf, IsRunOf, Words, asked}
use Rattle.workflow_cli.specs.Texts.{IsBundled, IsFormed, IsOutside, IsRuledOut, IsTranslated, IsUnbundled}
use Rattle.workflow_cli.specs.Causes.{CauseOf, IsFinished, Names}
use Rattle.workflow_cli.specs.Complete.{BundleIsComplete, CheckIsComplete, CwlIsComplete, DocumentIsComplete, FormIsComplete, InputsIsComplete, IsOr, IsSomeDocument, IsSomeExclusion, MainIsComplete, MustGive, MustHave, MustLack, PrintIsComplete, RunIsComplete, UsageIsComplete}
use Rattle.workflow_cli.specs.Running.{IsBadInputs, IsStarted, Main, Trace, flow_of}
use Rattle.workflow_cli.specs.Writing.{IsCut, Told}
use Rattle.workflow_texts.proofs.Excluded.{not_outside}
use Rattle.workflow_cli.proofs.Commands.{main_naming, named_inputs, naming, no_check, no_flow, no_print, no_run, one_file, one_inputs, print_names, readable, same_command}
use Rattle.workflow_cli.proofs.Forms.{one_form}
use Rattle.workflow_cli.proofs.Outcomes.{Outcome}
use Rattle.workflow_cli.proofs.Works.{for_main}
use Rattle.step_net.proofs.Gets.{none_in as none_within}

module _ (tells : Tells) (refused : List ℕ → Type 0) (rose : Type 0) (gives : Request → Answer → Type 0) (refuses : Request → Type 0) (words : Words) (t : Trace) where
  abbrev Said : Status → List (List ℕ) → Type 0
  Said = CauseOf tells refused rose gives refuses words t

  -- the flow over the journal has a fault, a job that is refused, or too many jobs; or the keeper failed
  abbrev Broke : Main → Type 0
  Broke m =
      ((f : Fault) × Contains (flow_of m t.journal).faults f)
      ⊎ (((q : Request) × Contains (flow_of m t.journal).jobs q × refuses q) ⊎ ((too_many (flow_of m t.journal) ≡ true) ⊎ Rose t.keeper.faults t.keeper_now.faults))

  -- what the cause of a status says
  data Saying (r : Status) : Type 0 where
    starved : r ≡ status.NoMemory → Saying r
    wordless : r ≡ status.Usage → asked words ≡ None → Saying r
    unread : (file : List ℕ) → Names words file → rose → Saying r
    unchecked : (code : ℕ) (span : Span) (paths : List (List ℕ)) (file : List ℕ) → r ≡ status.Document code span → Names words file
        → IsRefused tells file code span paths → Saying r
    mainless : (code : ℕ) (span : Span) (paths : List (List ℕ)) (file : List ℕ) (inputs : Option (List ℕ))
        → r ≡ status.Document code span → IsForMain words file inputs → HasNoMain tells file code span paths → Saying r
    misfit : (code : ℕ) (name : Option (List ℕ)) → r ≡ status.Inputs code name → IsBadInputs tells words code name → Saying r
    outside : (rule : ℕ) (span : Span) (paths : List (List ℕ)) → r ≡ status.NotInSubset rule span → IsOutside tells words rule span paths → Saying r
    unbundled : (rule : ℕ) (span : Span) (paths : List (List ℕ)) → r ≡ status.NotInSubset rule span → IsUnbundled tells words rule span paths → Saying r
    broken : (m : Main) → IsStarted tells words m → Broke m → Saying r

  inputs_command : (file : List ℕ) (inputs : Option (List ℕ)) → IsForInputs words file inputs → (c : Command) × IsCommand words c
  inputs_command file inputs h = let n = main_naming words file inputs (for_main words file inputs h) in (n.command, n.is_command)

  saying : (r : Status) (paths : List (List ℕ)) → Said r paths → Saying r
  saying status.Ok paths h = absurd h
  saying (status.Failed fault) paths h = broken h.main h.run.started (inl (fault, h.is_fault))
  saying status.Usage paths h = wordless refl h.1
  saying (status.Document code span) paths (idle, inl h) = unchecked code span paths h.file refl h.named h.refused
  saying (status.Document code span) paths (idle, inr h) = mainless code span paths h.file h.inputs refl h.asked h.mainless
  saying (status.Inputs code name) paths h = misfit code name refl h.1
  saying (status.Read path) paths (idle, inl h) = unread h.file h.named h.unread.counted
  saying (status.Read path) paths (idle, inr h) = unread h.file (inr (Some path, for_main words h.file (Some path) h.asked)) h.counted
  saying status.Write paths h = absurd h
  saying status.NoMemory paths h = starved refl
  saying (status.NotInSubset rule span) paths (idle, inl h) = outside rule span paths refl h
  saying (status.NotInSubset rule span) paths (idle, inr h) = unbundled rule span paths refl h
  saying (status.Launch place) paths h = broken h.main h.run.started (inr (inl (h.job.request, h.is_job, h.refused)))
  saying status.Keep paths h = broken h.main h.started (inr (inr (inr h.counted)))
  saying status.TooMany paths h = broken h.main h.run.started (inr (inr (inl h.many)))

  -- the work was done
  abbrev Did : List ℕ → Type 0
  Did = IsFinished tells words gives refuses t

  started_command : (m : Main) → IsStarted tells words m → (c : Command) × IsCommand words c
  started_command m h = (command.Run h.asked.file h.asked.inputs m.options, h.asked.asked)

  did_command : (text : List ℕ) → Did text → (c : Command) × IsCommand words c
  did_command text (inl h) = started_command h.main h.run.started
  did_command text (inr (idle, inl h)) = (command.Check h.file, h.asked)
  did_command text (inr (idle, inr (inl h))) = (command.Cwl h.file h.inputs, h.asked)
  did_command text (inr (idle, inr (inr (inl h)))) = (command.Inputs h.file, h.asked)
  did_command text (inr (idle, inr (inr (inr (inl h))))) = (command.Print h.page, h.asked)
  did_command text (inr (idle, inr (inr (inr (inr h))))) = (command.Bundle h.file, h.asked)

  -- words that ask for nothing that is done
  abbrev Undone : Type 0
  Undone = (c : Command) → IsCommand words c → ⊥

  -- what a cause says of such words
  abbrev SaidIdly : Status → Type 0
  SaidIdly r = (r ≡ status.NoMemory) ⊎ ((r ≡ status.Usage) × (asked words ≡ None))

  said_idly : Undone → (r : Status) → Saying r → SaidIdly r
  said_idly undone r (starved e) = inl e
  said_idly undone r (wordless e h) = inr (e, h)
  said_idly undone r (unread file named rise) = let n = (naming words file named).1 in absurd (undone n.command n.is_command)
  said_idly undone r (unchecked code span paths file e named h) = let n = (naming words file named).1 in absurd (undone n.command n.is_command)
  said_idly undone r (mainless code span paths file inputs e asks h) = let n = main_naming words file inputs asks in absurd (undone n.command n.is_command)
  said_idly undone r (misfit code name e h) = let c = inputs_command h.file h.inputs h.asked in absurd (undone c.0 c.1)
  said_idly undone r (outside rule span paths e h) = absurd (undone (command.Cwl h.file h.inputs) h.asked)
  said_idly undone r (unbundled rule span paths e h) = absurd (undone (command.Bundle h.file) h.asked)
  said_idly undone r (broken m h b) = let c = started_command m h in absurd (undone c.0 c.1)

  -- a document that the words name, its checked form and its main workflow
  record IsSeen : Type 0 where
    file : List ℕ
    inputs : Option (List ℕ)
    asked : IsForMain words file inputs
    checked : Checked
    has : HasChecked tells file checked
    flow : FlowDef
    main : main_of checked.flows checked.main ≡ Some flow

  abbrev started_seen : (m : Main) → IsStarted tells words m → IsSeen
  started_seen m h =
      record { file = h.asked.file; inputs = h.asked.inputs; asked = inl (m.options, h.asked.asked); checked = m.checked; has = h.asked.checked; flow = m.flow; main = h.asked.main }

  abbrev misfit_seen : (code : ℕ) (name : Option (List ℕ)) → IsBadInputs tells words code name → IsSeen
  misfit_seen code name h =
      record { file = h.file; inputs = h.inputs; asked = for_main words h.file h.inputs h.asked; checked = h.checked; has = h.has; flow = h.flow; main = h.main }

  abbrev outside_seen : (rule : ℕ) (span : Span) (paths : List (List ℕ)) → IsOutside tells words rule span paths → IsSeen
  outside_seen rule span paths h =
      let o = h.outside in
      let l = o.source.located in
      record {
        file = h.file;
        inputs = h.inputs;
        asked = inr (inl h.asked);
        checked = o.checked;
        has = record { lib = l.lib; has = l.has; is_typed = l.is_typed };
        flow = o.flow;
        main = o.source.main;
      }

  abbrev for_bundle : (file : List ℕ) (c : Checked) (f : FlowDef) → IsBundleOf words file → HasChecked tells file c → main_of c.flows c.main ≡ Some f → IsSeen
  for_bundle file c f asks has main = record { file = file; inputs = None; asked = inr (inr (refl, inr asks)); checked = c; has = has; flow = f; main = main }

  abbrev unbundled_seen : (rule : ℕ) (span : Span) (paths : List (List ℕ)) → IsUnbundled tells words rule span paths → IsSeen
  unbundled_seen rule span paths h =
      let o = h.unbundled in
      let l = o.source.located in
      for_bundle h.file o.checked o.flow h.asked (record { lib = l.lib; has = l.has; is_typed = l.is_typed }) o.source.main

  abbrev bundled_seen : (text : List ℕ) → IsBundled tells words text → IsSeen
  bundled_seen text h =
      let i = h.is_text in
      let l = i.source.located in
      for_bundle h.file i.checked i.flow h.asked (record { lib = l.lib; has = l.has; is_typed = l.is_typed }) i.source.main

  -- a translation, by its number and the inputs that it read
  record IsMade (file : List ℕ) (inputs : Option (List ℕ)) : Type 0 where
    checked : Checked
    has : HasChecked tells file checked
    number : ℕ
    numbered : checked.main ≡ Some number
    flow : FlowDef
    main : main_of checked.flows checked.main ≡ Some flow
    given : GivesAll tells inputs checked flow
    in_subset : IsInSubset checked number

  abbrev made : (file : List ℕ) (inputs : Option (List ℕ)) (text : List ℕ) → IsCwlText tells file inputs text → IsMade file inputs
  made file None text h =
      let l = h.source.located in
      record {
        checked = h.checked;
        has = record { lib = l.lib; has = l.has; is_typed = l.is_typed };
        number = h.number;
        numbered = h.source.numbered;
        flow = h.flow;
        main = h.source.main;
        given = tt;
        in_subset = h.in_subset;
      }
  made file (Some path) text h =
      let l = h.source.located in
      record {
        checked = h.checked;
        has = record { lib = l.lib; has = l.has; is_typed = l.is_typed };
        number = h.number;
        numbered = h.source.numbered;
        flow = h.flow;
        main = h.source.main;
        given = (h.read, h.given, h.is_read, h.reads);
        in_subset = h.in_subset;
      }

  abbrev made_of : (text : List ℕ) (h : IsTranslated tells words text) → IsMade h.file h.inputs
  made_of text h = made h.file h.inputs text h.is_text

  abbrev translated_seen : (text : List ℕ) → IsTranslated tells words text → IsSeen
  translated_seen text h =
      let m = made_of text h in record { file = h.file; inputs = h.inputs; asked = inr (inl h.asked); checked = m.checked; has = m.has; flow = m.flow; main = m.main }

  abbrev form_seen : (text : List ℕ) → IsFormed tells words text → IsSeen
  form_seen text h =
      let i = h.is_text in
      let l = i.source.located in
      record {
        file = h.file;
        inputs = None;
        asked = inr (inr (refl, inl h.asked));
        checked = i.checked;
        has = record { lib = l.lib; has = l.has; is_typed = l.is_typed };
        flow = i.flow;
        main = i.source.main;
      }

  module _ (out out' err err' : Told) (rose_out rose_err : Type 0) where
    abbrev Ends : Status → Type 0
    Ends = Outcome tells refused rose gives refuses words t out out' err err' rose_out rose_err

    abbrev Cut : Type 0
    Cut = IsCut tells refused rose gives refuses words t out out' err err' rose_out rose_err

    -- the output of words that ask for nothing is not cut, and so a count of the error stream rose
    cut_line : Undone → Cut → rose_err
    cut_line undone (inl h) = let c = did_command h.text h.done in absurd (undone c.0 c.1)
    cut_line undone (inr h) = h.cut.counted

    ends_idly : Undone → ¬ rose_err → (r : Status) → Ends r → SaidIdly r
    ends_idly undone cut r (inl h) = let c = did_command h.1.text h.1.done in absurd (undone c.0 c.1)
    ends_idly undone cut r (inr (inl h)) = absurd (cut (cut_line undone h.1))
    ends_idly undone cut r (inr (inr h)) = said_idly undone r (saying r h.paths h.cause)

    pub usage_complete : (r : Status) → Ends r → UsageIsComplete words rose_err r
    usage_complete r o e cut = by_words (ends_idly (λ c k. readable words c k e) cut r o)
      where
        by_words : SaidIdly r → IsOr status.Usage r
        by_words (inl k) = inr k
        by_words (inr k) = inl k.0

    cut_counted : Cut → rose_out ⊎ rose_err
    cut_counted (inl h) = inl h.cut.counted
    cut_counted (inr h) = inr h.cut.counted

    -- where no count rises: the work was done, or what the cause says
    abbrev Settled : Status → Type 0
    Settled r = ((r ≡ status.Ok) × ((text : List ℕ) × Did text)) ⊎ Saying r

    settled : ¬ (rose_out ⊎ rose_err) → (r : Status) → Ends r → Settled r
    settled cut r (inl h) = inl (h.0, (h.1.text, h.1.done))
    settled cut r (inr (inl h)) = absurd (cut (cut_counted h.1))
    settled cut r (inr (inr h)) = inr (saying r h.paths h.cause)

    -- ---- a document that must have a checked form

    must_be : (file : List ℕ) (c d : Checked) → MustHave tells file c → HasChecked tells file d → d ≡ c
    must_be file c d must h =
        let m = must h.has.files h.has.told in
        let e = sym h.is_typed ∙ m.typed h.lib.docs h.lib.structs h.has.library in
        one_form d c (same_Some _ _ e)

    not_refused : (file : List ℕ) (c : Checked) → MustHave tells file c → (code : ℕ) (span : Span) (paths : List (List ℕ)) → IsRefused tells file code span paths → ⊥
    not_refused file c must code span paths (inl h) = let m = must h.none.files h.none.told in h.none.none m.docs m.structs m.is_library
    not_refused file c must code span paths (inr h) =
        let m = must h.has.files h.has.told in
        let e = sym (m.typed h.lib.docs h.lib.structs h.has.library) ∙ h.none.0 in
        cc

    -- no document that the words name has such a form
    not_checked : (file other : List ℕ) (c : Checked) → MustLack tells file → Names words file → Names words other → HasChecked tells other c → ⊥
    not_checked file other c lack named names h =
        let has = subst (λ f. HasChecked tells f c) (one_file words other file names named) h in
        let e = sym (lack has.has.files has.lib.docs has.lib.structs has.has.told has.has.library) ∙ has.is_typed in
        cc

    pub document_complete : (r : Status) → Ends r → DocumentIsComplete tells words rose (rose_out ⊎ rose_err) r
    document_complete r o file named lack no_rise cut = by_cases (settled cut r o)
      where
        unseen : IsSeen → ⊥
        unseen s = not_checked file s.file s.checked lack named (inr (s.inputs, s.asked)) s.has

        own : Command
        own = (naming words file named).1.command

        is_own : IsCommand words own
        is_own = (naming words file named).1.is_command

        by_cases : Settled r → IsSomeDocument r ⊎ (r ≡ status.NoMemory)
        by_cases (inl (e, (text, inl h))) = absurd (unseen (started_seen h.main h.run.started))
        by_cases (inl (e, (text, inr (idle, inl h)))) = absurd (not_checked file h.file h.checked lack named (inl h.asked) h.has)
        by_cases (inl (e, (text, inr (idle, inr (inl h))))) = absurd (unseen (translated_seen text h))
        by_cases (inl (e, (text, inr (idle, inr (inr (inl h)))))) = absurd (unseen (form_seen text h))
        by_cases (inl (e, (text, inr (idle, inr (inr (inr (inl h))))))) = absurd (print_names words h.page file h.asked named)
        by_cases (inl (e, (text, inr (idle, inr (inr (inr (inr h))))))) = absurd (unseen (bundled_seen text h))
        by_cases (inr (starved e)) = inr e
        by_cases (inr (wordless e n)) = absurd (readable words own is_own n)
        by_cases (inr (unread c k rise)) = absurd (no_rise rise)
        by_cases (inr (unchecked code span paths other e names h)) = inl (code, span, e)
        by_cases (inr (mainless code span paths other inputs e asks h)) = inl (code, span, e)
        by_cases (inr (misfit code name e h)) = absurd (unseen (misfit_seen code name h))
        by_cases (inr (outside rule span paths e h)) = absurd (unseen (outside_seen rule span paths h))
        by_cases (inr (unbundled rule span paths e h)) = absurd (unseen (unbundled_seen rule span paths h))
        by_cases (inr (broken m h b)) = absurd (unseen (started_seen m h))

    -- ---- a check

    pub check_complete : (r : Status) → Ends r → CheckIsComplete tells words rose (rose_out ⊎ rose_err) r
    check_complete r o file c asks must no_rise cut = by_cases (settled cut r o)
      where
        unseen : IsSeen → ⊥
        unseen s = no_check words file s.file s.inputs asks s.asked

        by_cases : Settled r → IsOr status.Ok r
        by_cases (inl d) = inl d.0
        by_cases (inr (starved e)) = inr e
        by_cases (inr (wordless e n)) = absurd (readable words (command.Check file) asks n)
        by_cases (inr (unread d k rise)) = absurd (no_rise rise)
        by_cases (inr (unchecked code span paths other e names h)) =
            absurd (not_refused file c must code span paths (subst (λ f. IsRefused tells f code span paths) (one_file words other file names (inl asks)) h))
        by_cases (inr (mainless code span paths other inputs e k h)) = absurd (no_check words file other inputs asks k)
        by_cases (inr (misfit code name e h)) = absurd (unseen (misfit_seen code name h))
        by_cases (inr (outside rule span paths e h)) = absurd (unseen (outside_seen rule span paths h))
        by_cases (inr (unbundled rule span paths e h)) = absurd (unseen (unbundled_seen rule span paths h))
        by_cases (inr (broken m h b)) = absurd (unseen (started_seen m h))

    -- ---- a document that must have a checked form, for its main workflow

    module _ (file : List ℕ) (inputs : Option (List ℕ)) (c : Checked) (asks : IsForMain words file inputs) (must : MustHave tells file c) where
      abbrev own : Command
      own = (main_naming words file inputs asks).command

      is_own : IsCommand words own
      is_own = (main_naming words file inputs asks).is_command

      same_file : (s : IsSeen) → s.file ≡ file
      same_file s = one_file words s.file file (inr (s.inputs, s.asked)) (inr (inputs, asks))

      same_checked : (s : IsSeen) → s.checked ≡ c
      same_checked s = must_be file c s.checked must (subst (λ f. HasChecked tells f s.checked) (same_file s) s.has)

      -- the main workflow of what the words name
      same_main : (s : IsSeen) → main_of c.flows c.main ≡ Some s.flow
      same_main s = sym (ap (λ (x : Checked). main_of x.flows x.main) (same_checked s)) ∙ s.main

      not_checked_yet : (code : ℕ) (span : Span) (paths : List (List ℕ)) (other : List ℕ) → Names words other → IsRefused tells other code span paths → ⊥
      not_checked_yet code span paths other names h =
          not_refused file c must code span paths (subst (λ f. IsRefused tells f code span paths) (one_file words other file names (inr (inputs, asks))) h)

      mainless_form : (code : ℕ) (span : Span) (paths : List (List ℕ)) (other : List ℕ) (given : Option (List ℕ))
          → IsForMain words other given → HasNoMain tells other code span paths → main_of c.flows c.main ≡ None
      mainless_form code span paths other given k h =
          let has = subst (λ f. HasChecked tells f h.checked) (one_file words other file (inr (given, k)) (inr (inputs, asks))) h.has in
          sym (ap (λ (x : Checked). main_of x.flows x.main) (must_be file c h.checked must has)) ∙ h.none

      module _ (none : main_of c.flows c.main ≡ None) (no_rise : ¬ rose) (r : Status) where
        abbrev Mainless : Status
        Mainless = status.Document 327 (record { doc = 0; start = 0; end = 0 })

        unseen : IsSeen → ⊥
        unseen s = let e = sym none ∙ same_main s in cc

        main_said : Settled r → IsOr Mainless r
        main_said (inl (e, (text, inl h))) = absurd (unseen (started_seen h.main h.run.started))
        main_said (inl (e, (text, inr (idle, inl h)))) = absurd (no_check words h.file file inputs h.asked asks)
        main_said (inl (e, (text, inr (idle, inr (inl h))))) = absurd (unseen (translated_seen text h))
        main_said (inl (e, (text, inr (idle, inr (inr (inl h)))))) = absurd (unseen (form_seen text h))
        main_said (inl (e, (text, inr (idle, inr (inr (inr (inl h))))))) = absurd (no_print words h.page file inputs h.asked asks)
        main_said (inl (e, (text, inr (idle, inr (inr (inr (inr h))))))) = absurd (unseen (bundled_seen text h))
        main_said (inr (starved e)) = inr e
        main_said (inr (wordless e n)) = absurd (readable words own is_own n)
        main_said (inr (unread d k rise)) = absurd (no_rise rise)
        main_said (inr (unchecked code span paths other e names h)) = absurd (not_checked_yet code span paths other names h)
        main_said (inr (mainless code span paths other given e k h)) =
            inl (e ∙ ap (λ x. status.Document x span) h.is_code ∙ ap (status.Document 327) h.is_span)
        main_said (inr (misfit code name e h)) = absurd (unseen (misfit_seen code name h))
        main_said (inr (outside rule span paths e h)) = absurd (unseen (outside_seen rule span paths h))
        main_said (inr (unbundled rule span paths e h)) = absurd (unseen (unbundled_seen rule span paths h))
        main_said (inr (broken m h b)) = absurd (unseen (started_seen m h))

      module _ (f : FlowDef) (main : main_of c.flows c.main ≡ Some f) where
        is_main : (s : IsSeen) → s.flow ≡ f
        is_main s = let e = sym (same_main s) ∙ main in cc

        has_main : (code : ℕ) (span : Span) (paths : List (List ℕ)) (other : List ℕ) (given : Option (List ℕ))
            → IsForMain words other given → HasNoMain tells other code span paths → ⊥
        has_main code span paths other given k h = let e = sym (mainless_form code span paths other given k h) ∙ main in cc

        -- the inputs that are read
        read_same : (s : IsSeen) (text : List ℕ) → inputs_in s.checked.structs s.flow text ≡ inputs_in c.structs f text
        read_same s text = ap (λ (x : Checked). inputs_in x.structs s.flow text) (same_checked s) ∙ ap (λ x. inputs_in c.structs x text) (is_main s)

        text_same : (s : IsSeen) (text : List ℕ) → IsInputsText tells s.inputs text → IsInputsText tells inputs text
        text_same s text h = subst (λ i. IsInputsText tells i text) (one_inputs words s.file file s.inputs inputs s.asked asks) h

        -- inputs that are given, where all texts of them give the same
        given_as : (s : IsSeen) (text : List ℕ) (x : Result (List Bind) InputFault) → ((text : List ℕ) → IsInputsText tells inputs text → inputs_in c.structs f text ≡ x)
            → IsInputsText tells s.inputs text → inputs_in s.checked.structs s.flow text ≡ x
        given_as s text x reads h = read_same s text ∙ reads text (text_same s text h)

    -- ---- inputs that must break a rule

    module _ (file : List ℕ) (inputs : Option (List ℕ)) (c : Checked) (reads_in : IsForInputs words file inputs) (must : MustHave tells file c)
        (f : FlowDef) (main : main_of c.flows c.main ≡ Some f) (code : ℕ) (name : Option (List ℕ))
        (reads : (text : List ℕ) → IsInputsText tells inputs text → inputs_in c.structs f text ≡ Err (Bad code name)) (no_rise : ¬ rose) (r : Status) where
      abbrev for_inputs : IsForMain words file inputs
      for_inputs = for_main words file inputs reads_in

      fails : (s : IsSeen) (text : List ℕ) → IsInputsText tells s.inputs text → inputs_in s.checked.structs s.flow text ≡ Err (Bad code name)
      fails s text h = given_as file inputs c for_inputs must f main s text (Err (Bad code name)) reads h

      ungiven : (s : IsSeen) → GivesAll tells s.inputs s.checked s.flow → IsCwlOf words s.file s.inputs → ⊥
      ungiven s g k = by_inputs s.inputs refl g k
        where
          by_inputs : (i : Option (List ℕ)) → s.inputs ≡ i → GivesAll tells i s.checked s.flow → IsCwlOf words s.file i → ⊥
          by_inputs None e h k = named_inputs words s.file file inputs k reads_in
          by_inputs (Some path) e h k = let p = sym h.3 ∙ fails s h.0 (subst (λ x. IsInputsText tells x h.0) (sym e) h.2) in cc

      not_started : (m : Main) → IsStarted tells words m → ⊥
      not_started m h = let e = sym h.reads ∙ fails (started_seen m h) h.text h.asked.is_text in cc

      inputs_said : Settled r → IsOr (status.Inputs code name) r
      inputs_said (inl (e, (text, inl h))) = absurd (not_started h.main h.run.started)
      inputs_said (inl (e, (text, inr (idle, inl h)))) = absurd (no_check words h.file file inputs h.asked for_inputs)
      inputs_said (inl (e, (text, inr (idle, inr (inl h))))) = absurd (ungiven (translated_seen text h) (made_of text h).given h.asked)
      inputs_said (inl (e, (text, inr (idle, inr (inr (inl h)))))) = absurd (no_flow words h.file file inputs (inl h.asked) reads_in)
      inputs_said (inl (e, (text, inr (idle, inr (inr (inr (inl h))))))) = absurd (no_print words h.page file inputs h.asked for_inputs)
      inputs_said (inl (e, (text, inr (idle, inr (inr (inr (inr h))))))) = absurd (no_flow words h.file file inputs (inr h.asked) reads_in)
      inputs_said (inr (starved e)) = inr e
      inputs_said (inr (wordless e n)) = absurd (readable words (own file inputs c for_inputs must) (is_own file inputs c for_inputs must) n)
      inputs_said (inr (unread d k rise)) = absurd (no_rise rise)
      inputs_said (inr (unchecked at span paths other e names h)) = absurd (not_checked_yet file inputs c for_inputs must at span paths other names h)
      inputs_said (inr (mainless at span paths other given e k h)) = absurd (has_main file inputs c for_inputs must f main at span paths other given k h)
      inputs_said (inr (misfit at who e h)) =
          let p = sym h.refused ∙ fails (misfit_seen at who h) h.text h.is_text in let q : status.Inputs at who ≡ status.Inputs code name = cc in inl (e ∙ q)
      inputs_said (inr (outside rule span paths e h)) = absurd (ungiven (outside_seen rule span paths h) h.outside.given h.asked)
      inputs_said (inr (unbundled rule span paths e h)) = absurd (no_flow words h.file file inputs (inr h.asked) reads_in)
      inputs_said (inr (broken m h b)) = absurd (not_started m h)

    pub main_complete : (r : Status) → Ends r → MainIsComplete tells words rose (rose_out ⊎ rose_err) r
    main_complete r o file inputs c asks must none no_rise cut = main_said file inputs c asks must none no_rise r (settled cut r o)

    pub inputs_complete : (r : Status) → Ends r → InputsIsComplete tells words rose (rose_out ⊎ rose_err) r
    inputs_complete r o file inputs c f code name asks must main reads no_rise cut = inputs_said file inputs c asks must f main code name reads no_rise r (settled cut r o)

    -- ---- a run

    module _ (file : List ℕ) (inputs : Option (List ℕ)) (m : Main) (asks_run : IsRunOf words file inputs m.options) (must : MustHave tells file m.checked)
        (main : main_of m.checked.flows m.checked.main ≡ Some m.flow) (reads : (text : List ℕ) → IsInputsText tells inputs text → inputs_in m.checked.structs m.flow text ≡ Ok m.given)
        (no_rise : ¬ rose) (keeps : ¬ (Rose t.keeper.faults t.keeper_now.faults)) (launches : (q : Request) → Contains (flow_of m t.journal).jobs q → ¬ (refuses q)) (none : (flow_of m t.journal).faults ≡ [])
        (few : too_many (flow_of m t.journal) ≡ false) (r : Status) where
      abbrev for_run : IsForMain words file inputs
      for_run = inl (m.options, asks_run)

      succeeds : (s : IsSeen) (text : List ℕ) → IsInputsText tells s.inputs text → inputs_in s.checked.structs s.flow text ≡ Ok m.given
      succeeds s text h = given_as file inputs m.checked for_run must m.flow main s text (Ok m.given) reads h

      one_options : (n : Main) (h : IsStarted tells words n) → n.options ≡ m.options
      one_options n h =
          let e = same_command words (command.Run h.asked.file h.asked.inputs n.options) (command.Run file inputs m.options) h.asked.asked asks_run in cc

      one_main : (n : Main) → IsStarted tells words n → n ≡ m
      one_main n h =
          let s = started_seen n h in
          let e = sym h.reads ∙ succeeds s h.text h.asked.is_text in
          let one_given : n.given ≡ m.given = cc in
          ap (λ (x : Checked). make x n.flow n.given n.options) (same_checked file inputs m.checked for_run must s)
          ∙ ap (λ x. make m.checked x n.given n.options) (is_main file inputs m.checked for_run must m.flow main s)
          ∙ ap (λ x. make m.checked m.flow x n.options) one_given ∙ ap (λ x. make m.checked m.flow m.given x) (one_options n h)
        where
          make : Checked → FlowDef → List Bind → RunOptions → Main
          make c f g o = record { checked = c; flow = f; given = g; options = o }

      not_broken : Broke m → ⊥
      not_broken (inl h) = none_within h.0 (subst (λ fs. Contains fs h.0) none h.1)
      not_broken (inr (inl h)) = launches h.0 h.1 h.2
      not_broken (inr (inr (inl h))) = false≢true (sym few ∙ h)
      not_broken (inr (inr (inr h))) = keeps h

      run_said : Settled r → IsOr status.Ok r
      run_said (inl d) = inl d.0
      run_said (inr (starved e)) = inr e
      run_said (inr (wordless e n)) = absurd (readable words (command.Run file inputs m.options) asks_run n)
      run_said (inr (unread d k rise)) = absurd (no_rise rise)
      run_said (inr (unchecked code span paths other e names h)) = absurd (not_checked_yet file inputs m.checked for_run must code span paths other names h)
      run_said (inr (mainless code span paths other given e k h)) = absurd (has_main file inputs m.checked for_run must m.flow main code span paths other given k h)
      run_said (inr (misfit code name e h)) = let p = sym h.refused ∙ succeeds (misfit_seen code name h) h.text h.is_text in cc
      run_said (inr (outside rule span paths e h)) = absurd (no_run words h.file file h.inputs inputs m.options h.asked asks_run)
      run_said (inr (unbundled rule span paths e h)) = absurd (no_flow words h.file file inputs (inr h.asked) (inl (m.options, asks_run)))
      run_said (inr (broken n h b)) = absurd (not_broken (subst Broke (one_main n h) b))

    pub run_complete : (r : Status) → Ends r → RunIsComplete tells words refuses rose (rose_out ⊎ rose_err) t r
    run_complete r o file inputs m asks must main reads no_rise cut keeps launches none few =
        run_said file inputs m asks must main reads no_rise keeps launches none few r (settled cut r o)

    -- ---- the inputs to fill in, and bundles

    module _ (file : List ℕ) (c : Checked) (asks_flow : IsForFlow words file) (must : MustHave tells file c) (f : FlowDef) (main : main_of c.flows c.main ≡ Some f)
        (no_rise : ¬ rose) (r : Status) where
      abbrev for_flow : IsForMain words file None
      for_flow = inr (inr (refl, asks_flow))

      -- a rule is broken
      abbrev Ruled : Type 0
      Ruled = (rule : ℕ) × (span : Span) × (paths : List (List ℕ)) × (r ≡ status.NotInSubset rule span) × IsRuledOut tells words rule span paths

      flow_said : Settled r → IsOr status.Ok r ⊎ Ruled
      flow_said (inl d) = inl (inl d.0)
      flow_said (inr (starved e)) = inl (inr e)
      flow_said (inr (wordless e n)) = absurd (readable words (own file None c for_flow must) (is_own file None c for_flow must) n)
      flow_said (inr (unread d k rise)) = absurd (no_rise rise)
      flow_said (inr (unchecked code span paths other e names h)) = absurd (not_checked_yet file None c for_flow must code span paths other names h)
      flow_said (inr (mainless code span paths other given e k h)) = absurd (has_main file None c for_flow must f main code span paths other given k h)
      flow_said (inr (misfit code name e h)) = absurd (no_flow words file h.file h.inputs asks_flow h.asked)
      flow_said (inr (outside rule span paths e h)) = inr (rule, span, paths, e, inl h)
      flow_said (inr (unbundled rule span paths e h)) = inr (rule, span, paths, e, inr h)
      flow_said (inr (broken m h b)) = absurd (no_flow words file h.asked.file h.asked.inputs asks_flow (inl (m.options, h.asked.asked)))

    pub form_complete : (r : Status) → Ends r → FormIsComplete tells words rose (rose_out ⊎ rose_err) r
    form_complete r o file c f asks must main no_rise cut = by_rule (flow_said file c (inl asks) must f main no_rise r (settled cut r o))
      where
        by_rule : IsOr status.Ok r ⊎ Ruled file c (inl asks) must f main no_rise r → IsOr status.Ok r
        by_rule (inl k) = k
        by_rule (inr (rule, span, paths, e, inl h)) = let k = same_command words (command.Inputs file) (command.Cwl h.file h.inputs) asks h.asked in cc
        by_rule (inr (rule, span, paths, e, inr h)) = let k = same_command words (command.Inputs file) (command.Bundle h.file) asks h.asked in cc

    pub bundle_complete : (r : Status) → Ends r → BundleIsComplete tells words rose (rose_out ⊎ rose_err) r
    bundle_complete r o file c f asks must main no_rise cut = by_rule (flow_said file c (inr asks) must f main no_rise r (settled cut r o))
      where
        by_rule : IsOr status.Ok r ⊎ Ruled file c (inr asks) must f main no_rise r → IsOr status.Ok r ⊎ IsSomeExclusion r
        by_rule (inl k) = inl k
        by_rule (inr (rule, span, paths, e, h)) = inr (rule, span, e)

    -- ---- the program's own texts

    module _ (page : Page) (asks_print : IsPrintOf words page) where
      print_said : (r : Status) → Saying r → r ≡ status.NoMemory
      print_said r (starved e) = e
      print_said r (wordless e n) = absurd (readable words (command.Print page) asks_print n)
      print_said r (unread file named rise) = absurd (print_names words page file asks_print named)
      print_said r (unchecked code span paths other e names h) = absurd (print_names words page other asks_print names)
      print_said r (mainless code span paths other given e k h) = absurd (no_print words page other given asks_print k)
      print_said r (misfit code name e h) = absurd (no_print words page h.file h.inputs asks_print (for_main words h.file h.inputs h.asked))
      print_said r (outside rule span paths e h) = absurd (no_print words page h.file h.inputs asks_print (inr (inl h.asked)))
      print_said r (unbundled rule span paths e h) = absurd (no_print words page h.file None asks_print (inr (inr (refl, inr h.asked))))
      print_said r (broken m h b) = absurd (no_print words page h.asked.file h.asked.inputs asks_print (inl (m.options, h.asked.asked)))

    pub print_complete : (r : Status) → Ends r → PrintIsComplete words (rose_out ⊎ rose_err) r
    print_complete r (inl h) page asks = inl (inl h.0)
    print_complete r (inr (inl h)) page asks = inr (h.0, cut_counted h.1)
    print_complete r (inr (inr h)) page asks = inl (inr (print_said page asks r (saying r h.paths h.cause)))

    -- ---- a translation

    module _ (file : List ℕ) (inputs : Option (List ℕ)) (c : Checked) (number : ℕ) (f : FlowDef) (asks_cwl : IsCwlOf words file inputs) (must : MustHave tells file c)
        (numbered : c.main ≡ Some number) (main : main_of c.flows c.main ≡ Some f) (gives_all : MustGive tells inputs c f) (no_rise : ¬ rose) (r : Status) where
      abbrev for_cwl : IsForMain words file inputs
      for_cwl = inr (inl asks_cwl)

      same_number : (s : IsSeen) (k : ℕ) → s.checked.main ≡ Some k → k ≡ number
      same_number s k e = let p = sym e ∙ ap (λ (x : Checked). x.main) (same_checked file inputs c for_cwl must s) ∙ numbered in cc

      same_subset : (s : IsSeen) (k : ℕ) → s.checked.main ≡ Some k → IsInSubset s.checked k → IsInSubset c number
      same_subset s k e h =
          subst (λ n. IsInSubset c n) (same_number s k e) (subst (λ x. IsInSubset x k) (same_checked file inputs c for_cwl must s) h)

      -- the inputs break no rule
      fits : (code : ℕ) (name : Option (List ℕ)) → IsBadInputs tells words code name → ⊥
      fits code name h = by_inputs inputs refl gives_all
        where
          by_inputs : (i : Option (List ℕ)) → inputs ≡ i → MustGive tells i c f → ⊥
          by_inputs None e g = named_inputs words file h.file h.inputs (subst (IsCwlOf words file) e asks_cwl) h.asked
          by_inputs (Some path) e g =
              let all : (text : List ℕ) → IsInputsText tells inputs text → inputs_in c.structs f text ≡ Ok g.0 = λ text k. g.1 text (subst (λ i. IsInputsText tells i text) e k) in
              let p = sym h.refused ∙ given_as file inputs c for_cwl must f main (misfit_seen code name h) h.text (Ok g.0) all h.is_text in
              cc

      -- what comes of it
      abbrev Comes : Type 0
      Comes = ((r ≡ status.Ok) × IsInSubset c number) ⊎ ((r ≡ status.NoMemory) ⊎ (IsSomeExclusion r × ¬ (IsInSubset c number)))

      cwl_said : Settled r → Comes
      cwl_said (inl (e, (text, inl h))) = absurd (no_run words file h.run.started.asked.file inputs h.run.started.asked.inputs h.main.options asks_cwl h.run.started.asked.asked)
      cwl_said (inl (e, (text, inr (idle, inl h)))) = absurd (no_check words h.file file inputs h.asked for_cwl)
      cwl_said (inl (e, (text, inr (idle, inr (inl h))))) = let m = made_of text h in inl (e, same_subset (translated_seen text h) m.number m.numbered m.in_subset)
      cwl_said (inl (e, (text, inr (idle, inr (inr (inl h)))))) = let k = same_command words (command.Inputs h.file) (command.Cwl file inputs) h.asked asks_cwl in cc
      cwl_said (inl (e, (text, inr (idle, inr (inr (inr (inl h))))))) = absurd (no_print words h.page file inputs h.asked for_cwl)
      cwl_said (inl (e, (text, inr (idle, inr (inr (inr (inr h))))))) = let k = same_command words (command.Bundle h.file) (command.Cwl file inputs) h.asked asks_cwl in cc
      cwl_said (inr (starved e)) = inr (inl e)
      cwl_said (inr (wordless e n)) = absurd (readable words (command.Cwl file inputs) asks_cwl n)
      cwl_said (inr (unread d k rise)) = absurd (no_rise rise)
      cwl_said (inr (unchecked code span paths other e names h)) = absurd (not_checked_yet file inputs c for_cwl must code span paths other names h)
      cwl_said (inr (mainless code span paths other given e k h)) = absurd (has_main file inputs c for_cwl must f main code span paths other given k h)
      cwl_said (inr (misfit code name e h)) = absurd (fits code name h)
      cwl_said (inr (outside rule span paths e h)) =
          let o = h.outside in
          let s = outside_seen rule span paths h in
          let is_checked = same_checked file inputs c for_cwl must s in
          let is_number = same_number s o.number o.source.numbered in
          inr (inr ((rule, span, e), λ k. not_outside o.checked o.number rule span o.lowest (subst (λ n. IsInSubset o.checked n) (sym is_number) (subst (λ x. IsInSubset x number) (sym is_checked) k))))
      cwl_said (inr (unbundled rule span paths e h)) = let k = same_command words (command.Bundle h.file) (command.Cwl file inputs) h.asked asks_cwl in cc
      cwl_said (inr (broken m h b)) = absurd (no_run words file h.asked.file inputs h.asked.inputs m.options asks_cwl h.asked.asked)

      within : Comes → IsInSubset c number → IsOr status.Ok r
      within (inl h) k = inl h.0
      within (inr (inl h)) k = inr h
      within (inr (inr h)) k = absurd (h.1 k)

      beyond : Comes → ¬ (IsInSubset c number) → IsSomeExclusion r ⊎ (r ≡ status.NoMemory)
      beyond (inl h) k = absurd (k h.1)
      beyond (inr (inl h)) k = inr h
      beyond (inr (inr h)) k = inl h.0

    pub cwl_complete : (r : Status) → Ends r → CwlIsComplete tells words rose (rose_out ⊎ rose_err) r
    cwl_complete r o file inputs c number f asks must numbered main gives_all no_rise cut =
        let said = cwl_said file inputs c number f asks must numbered main gives_all no_rise r (settled cut r o) in
        (within file inputs c number f asks must numbered main gives_all no_rise r said, beyond file inputs c number f asks must numbered main gives_all no_rise r said)
