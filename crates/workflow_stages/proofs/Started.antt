-- What a run starts with, over two calls of the shelf.
use Rattle.std.proofs.Common.{◌≡◌, inl, inr, ℕ, List, Option, Some, None, Ok, IsSome, Bor, is_some, option_copied, sym, subst, refl, true, false}
use Rattle.std.proofs.lemmas.Bool.{false≢true}
use Rattle.wdl_value.specs.declared.env.Bind.{Bind}
use Rattle.report_text.specs.declared.status.Status.{Status}
use Rattle.report_text.specs.declared.status.Status.TheVariants as status
use Rattle.wdl_port.specs.Files.{IsFile}
use Rattle.wdl_library.specs.declared.library.Library.{Library}
use Rattle.wdl_typed.specs.declared.checked.Checked.{Checked}
use Rattle.wdl_typed.specs.declared.flow.FlowDef.{FlowDef}
use Rattle.wdl_json.specs.Inputs.{main_of}
use Rattle.workflow_stages.specs.Documents.{GatherStops, HasChecked, HasLocated, MainInStops, MainStops, Rules, Tells, TypeStops}
use Rattle.workflow_stages.specs.Preparing.{GiveInStops, HasGiven, IsInputsText, IsMainlessStop, PrepareStops}

-- what a reference to a part is, or is not
pub is_nothing : (o : Option (Bor FlowDef)) (m : Option FlowDef) → option_copied o ≡ m → is_some o ≡ false → m ≡ None
is_nothing None m e n = sym e
is_nothing (Some f) m e n = absurd (false≢true (sym n))

pub is_something : (o : Option (Bor FlowDef)) (m : Option FlowDef) → option_copied o ≡ m → is_some o ≡ true → (f : FlowDef) × (m ≡ Some f)
is_something None m e n = absurd (false≢true n)
is_something (Some f) m e n = (f.now, sym e)

-- the main workflow has a number
pub has_number : (flows : List FlowDef) (main : Option ℕ) (f : FlowDef) → main_of flows main ≡ Some f → (k : ℕ) × (main ≡ Some k)
has_number flows None f h = cc
has_number flows (Some k) f h = (k, refl)

pub is_numbered : (main : Option ℕ) (k : ℕ) → main ≡ Some k → IsSome main
is_numbered None k h = cc
is_numbered (Some k) n h = refl

pub checked_in : (tells : Tells) (file : List ℕ) (c : Checked) (paths : List (List ℕ)) → HasLocated tells file c paths → HasChecked tells file c
checked_in tells file c paths h = record { lib = h.lib; has = h.has; is_typed = h.is_typed }

module _ (tells : Tells) (refused : List ℕ → Type 0) (rose : Type 0) (file : List ℕ) where
  -- no library
  pub gather_main : (s : Status) (paths : List (List ℕ)) → GatherStops tells file refused rose s paths → MainStops tells file refused rose s paths
  gather_main (status.Read path) paths h = h
  gather_main (status.Document code span) paths h = inl (inl h)
  gather_main status.NoMemory paths h = tt
  gather_main status.Ok paths h = absurd h
  gather_main (status.Failed fault) paths h = absurd h
  gather_main status.Usage paths h = absurd h
  gather_main (status.Inputs code name) paths h = absurd h
  gather_main status.Write paths h = absurd h
  gather_main (status.NotInSubset rule span) paths h = absurd h
  gather_main (status.Launch place) paths h = absurd h
  gather_main status.Keep paths h = absurd h
  gather_main status.TooMany paths h = absurd h

  -- no main workflow
  pub main_prepare : (inputs : Option (List ℕ)) (s : Status) (paths : List (List ℕ)) → MainStops tells file refused rose s paths → PrepareStops tells refused rose file inputs s paths
  main_prepare inputs (status.Read path) paths h = inl h
  main_prepare inputs (status.Document code span) paths h = h
  main_prepare inputs status.NoMemory paths h = tt
  main_prepare inputs status.Ok paths h = absurd h
  main_prepare inputs (status.Failed fault) paths h = absurd h
  main_prepare inputs status.Usage paths h = absurd h
  main_prepare inputs (status.Inputs code name) paths h = absurd h
  main_prepare inputs status.Write paths h = absurd h
  main_prepare inputs (status.NotInSubset rule span) paths h = absurd h
  main_prepare inputs (status.Launch place) paths h = absurd h
  main_prepare inputs status.Keep paths h = absurd h
  main_prepare inputs status.TooMany paths h = absurd h

module _ (lib : Library) (file : List ℕ) where
  -- no checked form
  pub type_main : (s : Status) (paths : List (List ℕ)) → TypeStops lib s paths → MainInStops lib file s paths
  type_main (status.Document code span) paths h = inl h
  type_main status.NoMemory paths h = tt
  type_main status.Ok paths h = absurd h
  type_main (status.Failed fault) paths h = absurd h
  type_main status.Usage paths h = absurd h
  type_main (status.Inputs code name) paths h = absurd h
  type_main (status.Read path) paths h = absurd h
  type_main status.Write paths h = absurd h
  type_main (status.NotInSubset rule span) paths h = absurd h
  type_main (status.Launch place) paths h = absurd h
  type_main status.Keep paths h = absurd h
  type_main status.TooMany paths h = absurd h

  -- one without a main workflow
  pub mainless_in : (c : Checked) → Rules lib (Ok c) → main_of c.flows c.main ≡ None → (s : Status) (paths : List (List ℕ)) → IsMainlessStop file s paths → MainInStops lib file s paths
  mainless_in c typed none (status.Document code span) paths h = inr (record { checked = c; is_typed = typed; none = none; is_code = h.0; is_span = h.1; named = h.2 })
  mainless_in c typed none status.NoMemory paths h = tt
  mainless_in c typed none status.Ok paths h = absurd h
  mainless_in c typed none (status.Failed fault) paths h = absurd h
  mainless_in c typed none status.Usage paths h = absurd h
  mainless_in c typed none (status.Inputs code name) paths h = absurd h
  mainless_in c typed none (status.Read path) paths h = absurd h
  mainless_in c typed none status.Write paths h = absurd h
  mainless_in c typed none (status.NotInSubset rule span) paths h = absurd h
  mainless_in c typed none (status.Launch place) paths h = absurd h
  mainless_in c typed none status.Keep paths h = absurd h
  mainless_in c typed none status.TooMany paths h = absurd h

module _ (tells : Tells) (refused : List ℕ → Type 0) (rose : Type 0) (file : List ℕ) (inputs : Option (List ℕ)) (c : Checked) (has : HasChecked tells file c) where
  -- the shelf tells and refuses as before, and a count that rose later rose
  module _ (told : Tells) (same : (p : List ℕ) → told p ≡ tells p) where
    text_before : (i : Option (List ℕ)) (text : List ℕ) → IsInputsText told i text → IsInputsText tells i text
    text_before None text h = h
    text_before (Some path) text h = subst (λ o. IsFile o text) (same path) h

    pub given_before : (given : List Bind) → HasGiven told inputs c given → HasGiven tells inputs c given
    given_before given h = record { flow = h.flow; main = h.main; text = h.text; is_text = text_before inputs h.text h.is_text; reads = h.reads; fit = h.fit }

    pub stops_before : (f : FlowDef) → main_of c.flows c.main ≡ Some f → (refuses : List ℕ → Type 0) (rises : Type 0) → ((p : List ℕ) → refuses p → refused p) → (rises → rose)
        → (s : Status) (paths : List (List ℕ)) → GiveInStops told refuses rises inputs c s → PrepareStops tells refused rose file inputs s paths
    stops_before f main refuses rises back up (status.Inputs code name) paths h =
        record { checked = c; has = has; none = record { flow = h.flow; main = h.main; text = h.text; is_text = text_before inputs h.text h.is_text; refused = h.refused } }
    stops_before f main refuses rises back up (status.Read path) paths h = inr (record { checked = c; has = has; flow = f; main = main; named = h.0; refusal = back path h.1; counted = up h.2 })
    stops_before f main refuses rises back up status.NoMemory paths h = tt
    stops_before f main refuses rises back up status.Ok paths h = absurd h
    stops_before f main refuses rises back up (status.Failed fault) paths h = absurd h
    stops_before f main refuses rises back up status.Usage paths h = absurd h
    stops_before f main refuses rises back up (status.Document code span) paths h = absurd h
    stops_before f main refuses rises back up status.Write paths h = absurd h
    stops_before f main refuses rises back up (status.NotInSubset rule span) paths h = absurd h
    stops_before f main refuses rises back up (status.Launch place) paths h = absurd h
    stops_before f main refuses rises back up status.Keep paths h = absurd h
    stops_before f main refuses rises back up status.TooMany paths h = absurd h
