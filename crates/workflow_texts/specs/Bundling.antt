-- What is written of a workflow and its imports as one document, and which workflows have no such document.
use Rattle.std.specs.Prelude.{◌≡◌, ◌≤◌, ◌<◌, ◌⊎◌, ℕ, Bool, true, false, List, Option, Some, None, Result, Ok, Err, length, ⊤}
use Rattle.wdl_base.specs.declared.error.NoMemory.{NoMemory}
use Rattle.wdl_base.specs.declared.span.Span.{Span}
use Rattle.report_text.specs.declared.status.Status.{Status}
use Rattle.report_text.specs.declared.status.Status.TheVariants as status
use Rattle.wdl_ast.specs.declared.document.Document.{Document}
use Rattle.wdl_port.specs.Causes.{Rose}
use Rattle.wdl_library.specs.declared.library.Library.{Library}
use Rattle.wdl_typed.specs.declared.checked.Checked.{Checked}
use Rattle.wdl_typed.specs.declared.flow.FlowDef.{FlowDef}
use Rattle.wdl_sources.specs.Walks.{HasReached}
use Rattle.wdl_bundle.specs.Bundled.{bundled, workflow_call}
use Rattle.wdl_bundle.specs.declared.fault.BundleFault.{BundleFault}
use Rattle.wdl_bundle.specs.declared.fault.BundleFault.TheVariants as fault
use Rattle.wdl_print.specs.Printed.{printed_document}
use Rattle.wdl_same.specs.Forms as forms
use Rattle.workflow_stages.specs.declared.ended.CommandStop.{CommandStop}
use Rattle.workflow_stages.specs.declared.ended.Work.{Work}
use Rattle.workflow_stages.specs.declared.ended.Work.TheVariants as work
use Rattle.workflow_stages.specs.Alone.{alone, alone_refused}
use Rattle.workflow_stages.specs.Documents.{Checks, HasChecked, HasMain, IsRefused, MainStops, Tells}
use Rattle.workflow_stages.specs.Paths.{ArePaths}
use Rattle.workflow_texts.specs.Translating.{library_of}

-- ---- the bundle of a library

-- the main workflow with the tasks that it calls and the structs, as one document
abbrev pub bundle_of : Library → Document
bundle_of lib = bundled lib.docs lib.structs

-- the first call of a workflow in the main workflow, if there is one
abbrev pub flow_call : Library → Option Span
flow_call lib = workflow_call lib.docs

abbrev pub bundle_text : Library → List ℕ
bundle_text lib = printed_document (bundle_of lib)

-- Both have the same structs and the same main workflow, but for spans and the names and numbers of tasks.
abbrev pub is_same : Checked → Checked → Bool
is_same c d = forms.same_but_names (library_of c) c.main (library_of d) d.main

-- ---- a text alone

-- the text alone has a checked form that is the same as this one
pub record IsSameForm (c : Checked) (file text : List ℕ) : Type 0 where
  pub form : Checked
  pub has : HasChecked (alone file text) file form
  pub same : is_same c form ≡ true

-- the text alone has another checked form
pub record HasOtherForm (c : Checked) (file text : List ℕ) : Type 0 where
  pub form : Checked
  pub has : HasChecked (alone file text) file form
  pub other : is_same c form ≡ false

-- the text alone has no checked form
pub record HasNoForm (file text : List ℕ) : Type 0 where
  pub code : ℕ
  pub span : Span
  pub paths : List (List ℕ)
  pub refused : IsRefused (alone file text) file code span paths

-- the text leads to a document that does not stand beside it
pub record HasNoImport (file text : List ℕ) : Type 0 where
  pub path : List ℕ
  pub reached : HasReached (alone file text) file path
  pub missing : alone_refused file text path

-- the text alone has no checked form that is the same as this one
abbrev pub IsOther : Checked → List ℕ → List ℕ → Type 0
IsOther c file text = (HasNoForm file text ⊎ HasNoImport file text) ⊎ HasOtherForm c file text

-- ---- the rules of bundles

abbrev pub nowhere : Span
nowhere = record { doc = 0; start = 0; end = 0 }

-- 620: the main workflow calls a workflow, the first time at the span
pub record CallsWorkflow (lib : Library) (rule : ℕ) (span : Span) : Type 0 where
  pub is_rule : rule ≡ 620
  pub calls_workflow : flow_call lib ≡ Some span

-- 621: the text is longer than a document may be
pub record IsTooLong (lib : Library) (rule : ℕ) (span : Span) : Type 0 where
  pub is_rule : rule ≡ 621
  pub is_span : span ≡ nowhere
  pub calls_no_workflow : flow_call lib ≡ None
  pub long : 1048576 < length (bundle_text lib)

-- 622: the text alone does not have the checked form of the documents
pub record IsChanged (lib : Library) (c : Checked) (file : List ℕ) (rule : ℕ) (span : Span) : Type 0 where
  pub is_rule : rule ≡ 622
  pub is_span : span ≡ nowhere
  pub calls_no_workflow : flow_call lib ≡ None
  pub short : length (bundle_text lib) ≤ 1048576
  pub other : IsOther c file (bundle_text lib)

-- The rule is broken at the span, and no lower one is broken.
abbrev pub Breaks : Library → Checked → List ℕ → ℕ → Span → Type 0
Breaks lib c file rule span = (CallsWorkflow lib rule span ⊎ IsTooLong lib rule span) ⊎ IsChanged lib c file rule span

-- ---- what is written

-- The text of the bundle of the documents at a path: no rule is broken, and alone it has their checked form, but for spans and the names
-- and numbers of tasks.
pub record IsBundleText (tells : Tells) (file text : List ℕ) : Type 0 where
  pub checked : Checked
  pub number : ℕ
  pub flow : FlowDef
  pub paths : List (List ℕ)
  pub source : HasMain tells file checked number flow paths
  pub calls_no_workflow : flow_call source.located.lib ≡ None
  pub says : text ≡ bundle_text source.located.lib
  pub short : length text ≤ 1048576
  pub same : IsSameForm checked file text

-- a rule of bundles is broken by the main workflow of the documents at a path
pub record HasUnbundled (tells : Tells) (file : List ℕ) (rule : ℕ) (span : Span) (paths : List (List ℕ)) : Type 0 where
  pub checked : Checked
  pub number : ℕ
  pub flow : FlowDef
  pub all : List (List ℕ)
  pub source : HasMain tells file checked number flow all
  pub broken : Breaks source.located.lib checked file rule span
  pub named : ArePaths all span.doc paths

abbrev pub BundleStops : Tells → (List ℕ → Type 0) → Type 0 → List ℕ → Status → List (List ℕ) → Type 0
BundleStops tells refused rose file (status.NotInSubset rule span) paths = HasUnbundled tells file rule span paths
BundleStops tells refused rose file s paths = MainStops tells file refused rose s paths

-- the work of the command
abbrev pub WritesBundle : Tells → (List ℕ → Type 0) → Type 0 → List ℕ → Work → Type 0
WritesBundle tells refused rose file (work.Text text) = IsBundleText tells file text
WritesBundle tells refused rose file (work.Stop stop) = BundleStops tells refused rose file stop.status stop.paths

-- ---- stages

-- the fault of a rule that the bundle breaks as a whole
abbrev pub fault_of : ℕ → BundleFault
fault_of rule = fault.Bad rule nowhere

-- the text of a document, which is not too long
abbrev pub IsPrint : Document → Result (List ℕ) BundleFault → Type 0
IsPrint d (Ok text) = (text ≡ printed_document d) × (length text ≤ 1048576)
IsPrint d (Err (fault.Bad rule span)) = (rule ≡ 621) × (span ≡ nowhere) × (1048576 < length (printed_document d))
IsPrint d (Err fault.NoMemory) = ⊤

-- the text of the bundle of a library, without 620 and 621
pub record IsText (lib : Library) (text : List ℕ) : Type 0 where
  pub calls_no_workflow : flow_call lib ≡ None
  pub says : text ≡ bundle_text lib
  pub short : length text ≤ 1048576

abbrev pub HasText : Library → Result (List ℕ) BundleFault → Type 0
HasText lib (Ok text) = IsText lib text
HasText lib (Err (fault.Bad rule span)) = CallsWorkflow lib rule span ⊎ IsTooLong lib rule span
HasText lib (Err fault.NoMemory) = ⊤

-- the checked form that the text has alone, or why it has none
abbrev pub ChecksAlone : List ℕ → List ℕ → Result Checked CommandStop → Type 0
ChecksAlone file text r = (before : ℕ) × (now : ℕ) × Checks (alone file text) file (alone_refused file text) (Rose before now) r

abbrev pub is_starved : Status → Bool
is_starved status.NoMemory = true
is_starved s = false

-- whether the text alone has a checked form that is the same as this one
abbrev pub Compares : Checked → List ℕ → List ℕ → Result Bool NoMemory → Type 0
Compares c file text (Ok true) = IsSameForm c file text
Compares c file text (Ok false) = IsOther c file text
Compares c file text (Err e) = ⊤

-- the text of the bundle of a library, without any fault
abbrev pub IsCheckedText : Library → Checked → List ℕ → List ℕ → Type 0
IsCheckedText lib c file text = IsText lib text × IsSameForm c file text

abbrev pub HasCheckedText : Library → Checked → List ℕ → Result (List ℕ) BundleFault → Type 0
HasCheckedText lib c file (Ok text) = IsCheckedText lib c file text
HasCheckedText lib c file (Err (fault.Bad rule span)) = Breaks lib c file rule span
HasCheckedText lib c file (Err fault.NoMemory) = ⊤

abbrev pub BundleInStops : Library → Checked → List (List ℕ) → List ℕ → Status → List (List ℕ) → Type 0
BundleInStops lib c all file (status.NotInSubset rule span) paths = Breaks lib c file rule span × ArePaths all span.doc paths
BundleInStops lib c all file status.NoMemory paths = ⊤
BundleInStops lib c all file s paths = ⊥

abbrev pub BundleWork : Library → Checked → List (List ℕ) → List ℕ → Work → Type 0
BundleWork lib c all file (work.Text text) = IsCheckedText lib c file text
BundleWork lib c all file (work.Stop stop) = BundleInStops lib c all file stop.status stop.paths
