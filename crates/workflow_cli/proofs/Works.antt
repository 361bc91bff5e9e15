-- From the stages to the work of a command.
use Rattle.std.proofs.Common.{◌≡◌, ◌⊎◌, inl, inr, ℕ, List, Option, Some, None, sym, subst, refl}
use Rattle.wdl_base.specs.declared.answer.Answer.{Answer}
use Rattle.wdl_base.specs.declared.request.Request.{Request}
use Rattle.report_text.specs.declared.status.Status.{Status}
use Rattle.report_text.specs.declared.status.Status.TheVariants as status
use Rattle.workflow_stages.specs.declared.ended.CommandStop.{CommandStop}
use Rattle.workflow_stages.specs.declared.ended.Work.{Work}
use Rattle.workflow_stages.specs.declared.ended.Work.TheVariants as work
use Rattle.workflow_stages.specs.Documents.{CheckStops, MainStops, Tells}
use Rattle.workflow_stages.specs.Preparing.{PrepareStops}
use Rattle.workflow_texts.specs.Bundling.{BundleStops, WritesBundle}
use Rattle.workflow_texts.specs.Forming.{WritesForm}
use Rattle.workflow_texts.specs.Translating.{DocumentStops, ObjectStops, Translates, WritesDocument, WritesObject}
use Rattle.workflow_cli.specs.declared.asking.Page.{Page}
use Rattle.workflow_cli.specs.declared.asking.RunOptions.{RunOptions}
use Rattle.workflow_cli.specs.Asking.{AskStops, IsBundleOf, IsCheckOf, IsCwlOf, IsForInputs, IsForMain, IsFormOf, IsPrintOf, IsRunOf, Words}
use Rattle.workflow_cli.specs.Causes.{Cause, CauseOf, IsWork, Names, UsesJournal}
use Rattle.workflow_cli.specs.Printing.{Prints}
use Rattle.workflow_cli.specs.Running.{IsIdle, IsStarted, NamesJournal, Trace}
use Rattle.workflow_cli.specs.Stages.{Accepts, HasStopped, RunsFile, main_with}
use Rattle.workflow_cli.proofs.Ends.{main_is_work}

-- whose inputs are read has a main workflow
pub for_main : (words : Words) (file : List ℕ) (inputs : Option (List ℕ)) → IsForInputs words file inputs → IsForMain words file inputs
for_main words file inputs (inl h) = inl h
for_main words file inputs (inr h) = inr (inl h.2)

-- the keeper of a run of these words
pub uses_journal : (words : Words) (file : List ℕ) (inputs : Option (List ℕ)) (options : RunOptions) (same : Type 0) (at : Option (List ℕ)) → IsRunOf words file inputs options
    → same ⊎ NamesJournal options.journal at → same ⊎ UsesJournal words at
uses_journal words file inputs options same at asked (inl h) = inl h
uses_journal words file inputs options same at asked (inr h) = inr (h.0, record { file = file; inputs = inputs; options = options; asked = asked; named = h.1 }, h.2)

module _ (tells : Tells) (refused : List ℕ → Type 0) (rose : Type 0) (gives : Request → Answer → Type 0) (refuses : Request → Type 0) (words : Words) (t : Trace) where
  abbrev Said : Status → List (List ℕ) → Type 0
  Said = CauseOf tells refused rose gives refuses words t

  asked_stops : IsIdle t → (s : Status) (paths : List (List ℕ)) → AskStops words s → Said s paths
  asked_stops idle status.Usage paths h = (idle, h)
  asked_stops idle status.NoMemory paths h = tt
  asked_stops idle status.Ok paths h = absurd h
  asked_stops idle (status.Failed fault) paths h = absurd h
  asked_stops idle (status.Document code span) paths h = absurd h
  asked_stops idle (status.Inputs code name) paths h = absurd h
  asked_stops idle (status.Read path) paths h = absurd h
  asked_stops idle status.Write paths h = absurd h
  asked_stops idle (status.NotInSubset rule span) paths h = absurd h
  asked_stops idle (status.Launch place) paths h = absurd h
  asked_stops idle status.Keep paths h = absurd h
  asked_stops idle status.TooMany paths h = absurd h

  -- the words ask for nothing that is done
  pub asks_is_work : IsIdle t → (s : Status) (stop : CommandStop) → stop.status ≡ s → AskStops words s → IsWork tells refused rose gives refuses words t (work.Stop stop)
  asks_is_work idle s stop e h = record { run = inl idle; cause = asked_stops idle stop.status stop.paths (subst (AskStops words) (sym e) h) }

  check_stops : IsIdle t → (file : List ℕ) → Names words file → (s : Status) (paths : List (List ℕ)) → CheckStops tells file refused rose s paths → Said s paths
  check_stops idle file named (status.Read path) paths h = (idle, inl (record { file = file; named = named; unread = h }))
  check_stops idle file named (status.Document code span) paths h = (idle, inl (record { file = file; named = named; refused = h }))
  check_stops idle file named status.NoMemory paths h = tt
  check_stops idle file named status.Ok paths h = absurd h
  check_stops idle file named (status.Failed fault) paths h = absurd h
  check_stops idle file named status.Usage paths h = absurd h
  check_stops idle file named (status.Inputs code name) paths h = absurd h
  check_stops idle file named status.Write paths h = absurd h
  check_stops idle file named (status.NotInSubset rule span) paths h = absurd h
  check_stops idle file named (status.Launch place) paths h = absurd h
  check_stops idle file named status.Keep paths h = absurd h
  check_stops idle file named status.TooMany paths h = absurd h

  -- a check
  pub check_is_work : IsIdle t → (file : List ℕ) → IsCheckOf words file → (w : Work) → Accepts tells refused rose file w → IsWork tells refused rose gives refuses words t w
  check_is_work idle file asked (work.Text text) h =
      record { run = inl idle; cause = inr (idle, inl (record { file = file; asked = asked; checked = h.0; has = h.1; says = h.2 })) }
  check_is_work idle file asked (work.Stop stop) h = record { run = inl idle; cause = check_stops idle file (inl asked) stop.status stop.paths h }

  -- ---- the main workflow and its inputs

  main_stops : IsIdle t → (file : List ℕ) (inputs : Option (List ℕ)) → IsForMain words file inputs → (s : Status) (paths : List (List ℕ))
      → MainStops tells file refused rose s paths → Said s paths
  main_stops idle file inputs main (status.Read path) paths h = (idle, inl (record { file = file; named = inr (inputs, main); unread = h }))
  main_stops idle file inputs main (status.Document code span) paths (inl h) = (idle, inl (record { file = file; named = inr (inputs, main); refused = h }))
  main_stops idle file inputs main (status.Document code span) paths (inr h) = (idle, inr (record { file = file; inputs = inputs; asked = main; mainless = h }))
  main_stops idle file inputs main status.NoMemory paths h = tt
  main_stops idle file inputs main status.Ok paths h = absurd h
  main_stops idle file inputs main (status.Failed fault) paths h = absurd h
  main_stops idle file inputs main status.Usage paths h = absurd h
  main_stops idle file inputs main (status.Inputs code name) paths h = absurd h
  main_stops idle file inputs main status.Write paths h = absurd h
  main_stops idle file inputs main (status.NotInSubset rule span) paths h = absurd h
  main_stops idle file inputs main (status.Launch place) paths h = absurd h
  main_stops idle file inputs main status.Keep paths h = absurd h
  main_stops idle file inputs main status.TooMany paths h = absurd h

  prepare_stops : IsIdle t → (file : List ℕ) (inputs : Option (List ℕ)) → IsForInputs words file inputs → (s : Status) (paths : List (List ℕ))
      → PrepareStops tells refused rose file inputs s paths → Said s paths
  prepare_stops idle file inputs asks (status.Read path) paths (inl h) = (idle, inl (record { file = file; named = inr (inputs, for_main words file inputs asks); unread = h }))
  prepare_stops idle file inputs asks (status.Read path) paths (inr h) =
      (idle, inr (record { file = file; asked = subst (IsForInputs words file) h.named asks; checked = h.checked; has = h.has; flow = h.flow; main = h.main; refusal = h.refusal; counted = h.counted }))
  prepare_stops idle file inputs asks (status.Document code span) paths (inl h) = (idle, inl (record { file = file; named = inr (inputs, for_main words file inputs asks); refused = h }))
  prepare_stops idle file inputs asks (status.Document code span) paths (inr h) = (idle, inr (record { file = file; inputs = inputs; asked = for_main words file inputs asks; mainless = h }))
  prepare_stops idle file inputs asks (status.Inputs code name) paths h = (
    idle,
    record {
      file = file;
      inputs = inputs;
      asked = asks;
      checked = h.checked;
      has = h.has;
      flow = h.none.flow;
      main = h.none.main;
      text = h.none.text;
      is_text = h.none.is_text;
      refused = h.none.refused;
    },
  )
  prepare_stops idle file inputs asks status.NoMemory paths h = tt
  prepare_stops idle file inputs asks status.Ok paths h = absurd h
  prepare_stops idle file inputs asks (status.Failed fault) paths h = absurd h
  prepare_stops idle file inputs asks status.Usage paths h = absurd h
  prepare_stops idle file inputs asks status.Write paths h = absurd h
  prepare_stops idle file inputs asks (status.NotInSubset rule span) paths h = absurd h
  prepare_stops idle file inputs asks (status.Launch place) paths h = absurd h
  prepare_stops idle file inputs asks status.Keep paths h = absurd h
  prepare_stops idle file inputs asks status.TooMany paths h = absurd h

  -- ---- the CWL document and the input object

  module _ (idle : IsIdle t) (file : List ℕ) where
    module _ (asked : IsCwlOf words file None) where
      document_said : (s : Status) (paths : List (List ℕ)) → MainStops tells file refused rose s paths → Said s paths
      document_said = main_stops idle file None (inr (inl asked))

      document_stops : (s : Status) (paths : List (List ℕ)) → DocumentStops tells refused rose file s paths → Said s paths
      document_stops (status.NotInSubset rule span) paths h = (idle, inl (record { file = file; inputs = None; asked = asked; outside = h }))
      document_stops (status.Read path) paths h = document_said (status.Read path) paths h
      document_stops (status.Document code span) paths h = document_said (status.Document code span) paths h
      document_stops status.NoMemory paths h = tt
      document_stops status.Ok paths h = absurd h
      document_stops (status.Failed fault) paths h = absurd h
      document_stops status.Usage paths h = absurd h
      document_stops (status.Inputs code name) paths h = absurd h
      document_stops status.Write paths h = absurd h
      document_stops (status.Launch place) paths h = absurd h
      document_stops status.Keep paths h = absurd h
      document_stops status.TooMany paths h = absurd h

      document_is_work : (w : Work) → WritesDocument tells refused rose file w → IsWork tells refused rose gives refuses words t w
      document_is_work (work.Text text) h = record { run = inl idle; cause = inr (idle, inr (inl (record { file = file; inputs = None; asked = asked; is_text = h }))) }
      document_is_work (work.Stop stop) h = record { run = inl idle; cause = document_stops stop.status stop.paths h }

    module _ (path : List ℕ) (asked : IsCwlOf words file (Some path)) where
      object_said : (s : Status) (paths : List (List ℕ)) → PrepareStops tells refused rose file (Some path) s paths → Said s paths
      object_said = prepare_stops idle file (Some path) (inr (path, refl, asked))

      object_stops : (s : Status) (paths : List (List ℕ)) → ObjectStops tells refused rose file (Some path) s paths → Said s paths
      object_stops (status.NotInSubset rule span) paths h = (idle, inl (record { file = file; inputs = Some path; asked = asked; outside = h }))
      object_stops (status.Read p) paths h = object_said (status.Read p) paths h
      object_stops (status.Document code span) paths h = object_said (status.Document code span) paths h
      object_stops (status.Inputs code name) paths h = object_said (status.Inputs code name) paths h
      object_stops status.NoMemory paths h = tt
      object_stops status.Ok paths h = absurd h
      object_stops (status.Failed fault) paths h = absurd h
      object_stops status.Usage paths h = absurd h
      object_stops status.Write paths h = absurd h
      object_stops (status.Launch place) paths h = absurd h
      object_stops status.Keep paths h = absurd h
      object_stops status.TooMany paths h = absurd h

      object_is_work : (w : Work) → WritesObject tells refused rose file (Some path) w → IsWork tells refused rose gives refuses words t w
      object_is_work (work.Text text) h = record { run = inl idle; cause = inr (idle, inr (inl (record { file = file; inputs = Some path; asked = asked; is_text = h }))) }
      object_is_work (work.Stop stop) h = record { run = inl idle; cause = object_stops stop.status stop.paths h }

    -- a translation
    pub cwl_is_work : (inputs : Option (List ℕ)) → IsCwlOf words file inputs → (w : Work) → Translates tells refused rose file inputs w → IsWork tells refused rose gives refuses words t w
    cwl_is_work None asked w h = document_is_work asked w h
    cwl_is_work (Some path) asked w h = object_is_work path asked w h

  -- ---- the inputs to fill in, and the program's own texts

  pub form_is_work : IsIdle t → (file : List ℕ) → IsFormOf words file → (w : Work) → WritesForm tells refused rose file w → IsWork tells refused rose gives refuses words t w
  form_is_work idle file asked (work.Text text) h =
      record { run = inl idle; cause = inr (idle, inr (inr (inl (record { file = file; asked = asked; is_text = h })))) }
  form_is_work idle file asked (work.Stop stop) h = record { run = inl idle; cause = main_stops idle file None (inr (inr (refl, inl asked))) stop.status stop.paths h }

  pub print_is_work : IsIdle t → (page : Page) → IsPrintOf words page → (w : Work) → Prints page w → IsWork tells refused rose gives refuses words t w
  print_is_work idle page asked (work.Text text) h = record { run = inl idle; cause = inr (idle, inr (inr (inr (inl (record { page = page; asked = asked; says = h }))))) }
  print_is_work idle page asked (work.Stop stop) h = asks_is_work idle status.NoMemory stop h tt

  -- ---- a bundle

  module _ (idle : IsIdle t) (file : List ℕ) (asked : IsBundleOf words file) where
    bundle_said : (s : Status) (paths : List (List ℕ)) → MainStops tells file refused rose s paths → Said s paths
    bundle_said = main_stops idle file None (inr (inr (refl, inr asked)))

    bundle_stops : (s : Status) (paths : List (List ℕ)) → BundleStops tells refused rose file s paths → Said s paths
    bundle_stops (status.NotInSubset rule span) paths h = (idle, inr (record { file = file; asked = asked; unbundled = h }))
    bundle_stops (status.Read path) paths h = bundle_said (status.Read path) paths h
    bundle_stops (status.Document code span) paths h = bundle_said (status.Document code span) paths h
    bundle_stops status.NoMemory paths h = tt
    bundle_stops status.Ok paths h = absurd h
    bundle_stops (status.Failed fault) paths h = absurd h
    bundle_stops status.Usage paths h = absurd h
    bundle_stops (status.Inputs code name) paths h = absurd h
    bundle_stops status.Write paths h = absurd h
    bundle_stops (status.Launch place) paths h = absurd h
    bundle_stops status.Keep paths h = absurd h
    bundle_stops status.TooMany paths h = absurd h

    pub bundle_is_work : (w : Work) → WritesBundle tells refused rose file w → IsWork tells refused rose gives refuses words t w
    bundle_is_work (work.Text text) h = record { run = inl idle; cause = inr (idle, inr (inr (inr (inr (record { file = file; asked = asked; is_text = h }))))) }
    bundle_is_work (work.Stop stop) h = record { run = inl idle; cause = bundle_stops stop.status stop.paths h }

  -- ---- a run

  module _ (file : List ℕ) (inputs : Option (List ℕ)) (options : RunOptions) (asked : IsRunOf words file inputs options) (w : Work) where
    stopped_is_work : HasStopped tells refused rose file inputs t w → IsWork tells refused rose gives refuses words t w
    stopped_is_work h = record {
      run = inl h.idle;
      cause = subst (Cause tells refused rose gives refuses words t) (sym h.is) (prepare_stops h.idle file inputs (inl (options, asked)) h.stop.status h.stop.paths h.cause);
    }

    -- a run of a document
    pub run_is_work : RunsFile tells refused rose gives refuses file inputs options t w → IsWork tells refused rose gives refuses words t w
    run_is_work (inl h) = stopped_is_work h
    run_is_work (inr h) =
        let m = main_with h.checked h.given options h.prepared.fits.flow in
        let started : IsStarted tells words m = record {
          text = h.prepared.fits.text;
          asked = record { file = file; inputs = inputs; asked = asked; checked = h.prepared.has; main = h.prepared.fits.main; is_text = h.prepared.fits.is_text };
          reads = h.prepared.fits.reads;
        } in
        main_is_work tells refused rose gives refuses words t m started w h.ran
