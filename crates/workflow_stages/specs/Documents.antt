-- The checked form of the document at a path, or why there is none.
use Rattle.std.specs.Prelude.{◌≡◌, ◌⊎◌, ℕ, List, [], ◌∷◌, Option, Some, None, Result, Ok, Err, map, slice_get, ⊤}
use Rattle.wdl_base.specs.declared.span.Span.{Span}
use Rattle.report_text.specs.declared.status.Status.{Status}
use Rattle.report_text.specs.declared.status.Status.TheVariants as status
use Rattle.wdl_library.specs.declared.doc.Doc.{Doc}
use Rattle.wdl_library.specs.declared.library.Library.{Library}
use Rattle.wdl_typed.specs.declared.checked.Checked.{Checked}
use Rattle.wdl_sources.specs.Walks.{HasReached}
use Rattle.wdl_imports.specs.Libraries.{HasLibrary, HasNone}
use Rattle.wdl_check_doc.specs.Checked.{IsTyped, typed}
use Rattle.wdl_check_rules.specs.declared.fault.CheckFault.{CheckFault}
use Rattle.wdl_check_rules.specs.declared.fault.CheckFault.TheVariants.{Bad}
use Rattle.wdl_json.specs.Inputs.{main_of}
use Rattle.wdl_typed.specs.declared.flow.FlowDef.{FlowDef}
use Rattle.workflow_stages.specs.declared.checking.Located.{Located}
use Rattle.workflow_stages.specs.declared.ended.CommandStop.{CommandStop}

-- what a shelf tells of its files
abbrev pub Tells : Type 0
Tells = List ℕ → Option (List ℕ)

-- the paths of the documents, by their numbers
abbrev pub paths_of : Library → List (List ℕ)
paths_of lib = map (λ (d : Doc). d.path) lib.docs

-- what the rules give of a library
abbrev pub Rules : Library → Result Checked CheckFault → Type 0
Rules lib = IsTyped (typed lib.docs lib.structs)

module _ (tells : Tells) (root : List ℕ) where
  -- the bytes read have a library, whose checked form this is
  pub record HasChecked (c : Checked) : Type 0 where
    pub lib : Library
    pub has : HasLibrary tells root lib
    pub is_typed : Rules lib (Ok c)

  -- the shelf refuses the path of a document, to which those before it lead, and its count of faults rose
  pub record IsUnreadDocument (refused : List ℕ → Type 0) (rose : Type 0) (path : List ℕ) : Type 0 where
    pub reached : HasReached tells root path
    pub refusal : refused path
    pub counted : rose

  -- the bytes read have no library; the span lies in the document at the path that has its number
  pub record IsUngathered (code : ℕ) (span : Span) (paths : List (List ℕ)) : Type 0 where
    pub path : List ℕ
    pub none : HasNone tells root code path span
    pub named : slice_get paths span.doc ≡ Some path

  -- the bytes read have a library without a checked form
  pub record IsUnchecked (code : ℕ) (span : Span) (paths : List (List ℕ)) : Type 0 where
    pub lib : Library
    pub has : HasLibrary tells root lib
    pub none : Rules lib (Err (Bad code span))
    pub named : paths ≡ paths_of lib

  abbrev pub IsRefused : ℕ → Span → List (List ℕ) → Type 0
  IsRefused code span paths = IsUngathered code span paths ⊎ IsUnchecked code span paths

  -- the bytes read have a checked form without a main workflow
  pub record HasNoMain (code : ℕ) (span : Span) (paths : List (List ℕ)) : Type 0 where
    pub checked : Checked
    pub has : HasChecked checked
    pub none : main_of checked.flows checked.main ≡ None
    pub is_code : code ≡ 327
    pub is_span : span ≡ record { doc = 0; start = 0; end = 0 }
    pub named : paths ≡ root ∷ []

  -- the bytes read have a library with this checked form, and these are the paths of its documents
  pub record HasLocated (c : Checked) (paths : List (List ℕ)) : Type 0 where
    pub lib : Library
    pub has : HasLibrary tells root lib
    pub is_typed : Rules lib (Ok c)
    pub named : paths ≡ paths_of lib

  -- the same, and the checked form has this main workflow, by its number
  pub record HasMain (c : Checked) (number : ℕ) (f : FlowDef) (paths : List (List ℕ)) : Type 0 where
    pub located : HasLocated c paths
    pub numbered : c.main ≡ Some number
    pub main : main_of c.flows c.main ≡ Some f

  -- ---- stages

  abbrev pub GatherStops : (List ℕ → Type 0) → Type 0 → Status → List (List ℕ) → Type 0
  GatherStops refused rose (status.Read path) paths = IsUnreadDocument refused rose path
  GatherStops refused rose (status.Document code span) paths = IsUngathered code span paths
  GatherStops refused rose status.NoMemory paths = ⊤
  GatherStops refused rose s paths = ⊥

  abbrev pub Gathers : (List ℕ → Type 0) → Type 0 → Result Library CommandStop → Type 0
  Gathers refused rose (Ok lib) = HasLibrary tells root lib
  Gathers refused rose (Err stop) = GatherStops refused rose stop.status stop.paths

  abbrev pub CheckStops : (List ℕ → Type 0) → Type 0 → Status → List (List ℕ) → Type 0
  CheckStops refused rose (status.Read path) paths = IsUnreadDocument refused rose path
  CheckStops refused rose (status.Document code span) paths = IsRefused code span paths
  CheckStops refused rose status.NoMemory paths = ⊤
  CheckStops refused rose s paths = ⊥

  abbrev pub Checks : (List ℕ → Type 0) → Type 0 → Result Checked CommandStop → Type 0
  Checks refused rose (Ok c) = HasChecked c
  Checks refused rose (Err stop) = CheckStops refused rose stop.status stop.paths

  abbrev pub MainStops : (List ℕ → Type 0) → Type 0 → Status → List (List ℕ) → Type 0
  MainStops refused rose (status.Read path) paths = IsUnreadDocument refused rose path
  MainStops refused rose (status.Document code span) paths = IsRefused code span paths ⊎ HasNoMain code span paths
  MainStops refused rose status.NoMemory paths = ⊤
  MainStops refused rose s paths = ⊥

  abbrev pub LocatesMain : (List ℕ → Type 0) → Type 0 → Result Located CommandStop → Type 0
  LocatesMain refused rose (Ok l) = (number : ℕ) × (f : FlowDef) × HasMain l.checked number f l.paths
  LocatesMain refused rose (Err stop) = MainStops refused rose stop.status stop.paths

-- ---- one library

-- the rules give a checked form without a main workflow; the first document is at this path
pub record LacksMain (lib : Library) (root : List ℕ) (code : ℕ) (span : Span) (paths : List (List ℕ)) : Type 0 where
  pub checked : Checked
  pub is_typed : Rules lib (Ok checked)
  pub none : main_of checked.flows checked.main ≡ None
  pub is_code : code ≡ 327
  pub is_span : span ≡ record { doc = 0; start = 0; end = 0 }
  pub named : paths ≡ root ∷ []

abbrev pub TypeStops : Library → Status → List (List ℕ) → Type 0
TypeStops lib (status.Document code span) paths = Rules lib (Err (Bad code span)) × (paths ≡ paths_of lib)
TypeStops lib status.NoMemory paths = ⊤
TypeStops lib s paths = ⊥

abbrev pub Types : Library → Result Checked CommandStop → Type 0
Types lib (Ok c) = Rules lib (Ok c)
Types lib (Err stop) = TypeStops lib stop.status stop.paths

abbrev pub LocatesIn : Library → Result Located CommandStop → Type 0
LocatesIn lib (Ok l) = Rules lib (Ok l.checked) × (l.paths ≡ paths_of lib)
LocatesIn lib (Err stop) = TypeStops lib stop.status stop.paths

abbrev pub MainInStops : Library → List ℕ → Status → List (List ℕ) → Type 0
MainInStops lib root (status.Document code span) paths = (Rules lib (Err (Bad code span)) × (paths ≡ paths_of lib)) ⊎ LacksMain lib root code span paths
MainInStops lib root status.NoMemory paths = ⊤
MainInStops lib root s paths = ⊥

-- these are the checked form and the paths of the library, and it has this main workflow
pub record HasMainIn (lib : Library) (c : Checked) (paths : List (List ℕ)) : Type 0 where
  pub is_typed : Rules lib (Ok c)
  pub named : paths ≡ paths_of lib
  pub flow : FlowDef
  pub main : main_of c.flows c.main ≡ Some flow

abbrev pub LocatesMainIn : Library → List ℕ → Result Located CommandStop → Type 0
LocatesMainIn lib root (Ok l) = HasMainIn lib l.checked l.paths
LocatesMainIn lib root (Err stop) = MainInStops lib root stop.status stop.paths

-- ---- the stop of a broken rule

-- the document at the path has the number of the span; or memory ended
abbrev pub IsRefusal : ℕ → Span → List ℕ → Status → List (List ℕ) → Type 0
IsRefusal code span path (status.Document k at) paths = (k ≡ code) × (at ≡ span) × (slice_get paths span.doc ≡ Some path)
IsRefusal code span path status.NoMemory paths = ⊤
IsRefusal code span path s paths = ⊥

-- the documents have these paths; or memory ended
abbrev pub IsUntypedStop : ℕ → Span → List (List ℕ) → Status → List (List ℕ) → Type 0
IsUntypedStop code span all (status.Document k at) paths = (k ≡ code) × (at ≡ span) × (paths ≡ all)
IsUntypedStop code span all status.NoMemory paths = ⊤
IsUntypedStop code span all s paths = ⊥
