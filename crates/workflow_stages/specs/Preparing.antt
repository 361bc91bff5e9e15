-- What a run starts with: the checked form of its document, and the inputs of the main workflow.
use Rattle.std.specs.Prelude.{◌≡◌, ◌⊎◌, ℕ, true, List, [], ◌∷◌, Option, Some, None, Result, Ok, Err, codes, ⊤}
use Rattle.wdl_value.specs.declared.env.Bind.{Bind}
use Rattle.wdl_port.specs.Files.{IsFile}
use Rattle.report_text.specs.declared.status.Status.{Status}
use Rattle.report_text.specs.declared.status.Status.TheVariants as status
use Rattle.wdl_typed.specs.declared.checked.Checked.{Checked}
use Rattle.wdl_typed.specs.declared.flow.FlowDef.{FlowDef}
use Rattle.wdl_typed.specs.Journal.{inputs_fit}
use Rattle.wdl_json.specs.Inputs.{inputs_in, main_of}
use Rattle.wdl_json.specs.declared.fault.InputFault.TheVariants.{Bad}
use Rattle.workflow_stages.specs.declared.ended.CommandStop.{CommandStop}
use Rattle.workflow_stages.specs.declared.prepare.Prepared.{Prepared}
use Rattle.workflow_stages.specs.Documents.{HasChecked, HasMain, HasNoMain, IsRefused, IsUnreadDocument, Tells}

-- ---- the text of the inputs

-- the text of the inputs: that of the file, or `{}` where none is named
abbrev pub IsInputsText : Tells → Option (List ℕ) → List ℕ → Type 0
IsInputsText tells None text = text ≡ codes "{}"
IsInputsText tells (Some path) text = IsFile (tells path) text

abbrev pub ReadStops : (List ℕ → Type 0) → Type 0 → Option (List ℕ) → Status → Type 0
ReadStops refused rose inputs (status.Read path) = (inputs ≡ Some path) × refused path × rose
ReadStops refused rose inputs status.NoMemory = ⊤
ReadStops refused rose inputs s = ⊥

abbrev pub ReadsInputs : Tells → (List ℕ → Type 0) → Type 0 → Option (List ℕ) → Result (List ℕ) Status → Type 0
ReadsInputs tells refused rose inputs (Ok text) = IsInputsText tells inputs text
ReadsInputs tells refused rose inputs (Err s) = ReadStops refused rose inputs s

-- ---- the inputs

abbrev pub GiveStops : Checked → FlowDef → List ℕ → Status → Type 0
GiveStops c f text (status.Inputs code name) = inputs_in c.structs f text ≡ Err (Bad code name)
GiveStops c f text status.NoMemory = ⊤
GiveStops c f text s = ⊥

abbrev pub GivesInputs : Checked → FlowDef → List ℕ → Result (List Bind) Status → Type 0
GivesInputs c f text (Ok given) = inputs_in c.structs f text ≡ Ok given
GivesInputs c f text (Err s) = GiveStops c f text s

-- ---- what a run starts with

-- these are the inputs of the main workflow, which a text gives, and they fit
pub record HasGiven (tells : Tells) (inputs : Option (List ℕ)) (c : Checked) (given : List Bind) : Type 0 where
  pub flow : FlowDef
  pub main : main_of c.flows c.main ≡ Some flow
  pub text : List ℕ
  pub is_text : IsInputsText tells inputs text
  pub reads : inputs_in c.structs flow text ≡ Ok given
  pub fit : inputs_fit c.structs flow.inputs given ≡ true

-- a text gives no inputs
pub record HasNoGiven (tells : Tells) (inputs : Option (List ℕ)) (c : Checked) (code : ℕ) (name : Option (List ℕ)) : Type 0 where
  pub flow : FlowDef
  pub main : main_of c.flows c.main ≡ Some flow
  pub text : List ℕ
  pub is_text : IsInputsText tells inputs text
  pub refused : inputs_in c.structs flow text ≡ Err (Bad code name)

abbrev pub GiveInStops : Tells → (List ℕ → Type 0) → Type 0 → Option (List ℕ) → Checked → Status → Type 0
GiveInStops tells refused rose inputs c (status.Inputs code name) = HasNoGiven tells inputs c code name
GiveInStops tells refused rose inputs c (status.Read path) = (inputs ≡ Some path) × refused path × rose
GiveInStops tells refused rose inputs c status.NoMemory = ⊤
GiveInStops tells refused rose inputs c s = ⊥

-- said where there is a main workflow
abbrev pub GivesIn : Tells → (List ℕ → Type 0) → Type 0 → Option (List ℕ) → Checked → Result (List Bind) Status → Type 0
GivesIn tells refused rose inputs c (Ok given) = (f : FlowDef) → main_of c.flows c.main ≡ Some f → HasGiven tells inputs c given
GivesIn tells refused rose inputs c (Err s) = (f : FlowDef) → main_of c.flows c.main ≡ Some f → GiveInStops tells refused rose inputs c s

abbrev pub IsMainlessStop : List ℕ → Status → List (List ℕ) → Type 0
IsMainlessStop file (status.Document code span) paths = (code ≡ 327) × (span ≡ record { doc = 0; start = 0; end = 0 }) × (paths ≡ file ∷ [])
IsMainlessStop file status.NoMemory paths = ⊤
IsMainlessStop file s paths = ⊥

-- the inputs break a rule
pub record HasBadInputs (tells : Tells) (file : List ℕ) (inputs : Option (List ℕ)) (code : ℕ) (name : Option (List ℕ)) : Type 0 where
  pub checked : Checked
  pub has : HasChecked tells file checked
  pub none : HasNoGiven tells inputs checked code name

-- the inputs file is refused, of a document with a main workflow
pub record HasUnreadInputs (tells : Tells) (refused : List ℕ → Type 0) (rose : Type 0) (file : List ℕ) (inputs : Option (List ℕ)) (path : List ℕ) : Type 0 where
  pub checked : Checked
  pub has : HasChecked tells file checked
  pub flow : FlowDef
  pub main : main_of checked.flows checked.main ≡ Some flow
  pub named : inputs ≡ Some path
  pub refusal : refused path
  pub counted : rose

abbrev pub PrepareStops : Tells → (List ℕ → Type 0) → Type 0 → List ℕ → Option (List ℕ) → Status → List (List ℕ) → Type 0
PrepareStops tells refused rose file inputs (status.Read path) paths =
    IsUnreadDocument tells file refused rose path ⊎ HasUnreadInputs tells refused rose file inputs path
PrepareStops tells refused rose file inputs (status.Document code span) paths = IsRefused tells file code span paths ⊎ HasNoMain tells file code span paths
PrepareStops tells refused rose file inputs (status.Inputs code name) paths = HasBadInputs tells file inputs code name
PrepareStops tells refused rose file inputs status.NoMemory paths = ⊤
PrepareStops tells refused rose file inputs s paths = ⊥

pub record IsPrepared (tells : Tells) (file : List ℕ) (inputs : Option (List ℕ)) (c : Checked) (given : List Bind) : Type 0 where
  pub has : HasChecked tells file c
  pub fits : HasGiven tells inputs c given

abbrev pub Prepares : Tells → (List ℕ → Type 0) → Type 0 → List ℕ → Option (List ℕ) → Result Prepared CommandStop → Type 0
Prepares tells refused rose file inputs (Ok p) =
    IsPrepared tells file inputs p.checked p.given × ((number : ℕ) × (f : FlowDef) × HasMain tells file p.checked number f p.paths)
Prepares tells refused rose file inputs (Err stop) = PrepareStops tells refused rose file inputs stop.status stop.paths
