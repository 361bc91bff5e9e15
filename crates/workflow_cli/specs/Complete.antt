-- The other way round: which status comes. Each sentence yields to want of memory.
use Rattle.std.specs.Prelude.{◌≡◌, ◌⊎◌, ℕ, false, List, [], Option, Some, None, Ok, Err, Contains, ⊤}
use Rattle.wdl_base.specs.declared.request.Request.{Request}
use Rattle.wdl_base.specs.declared.span.Span.{Span}
use Rattle.wdl_value.specs.declared.env.Bind.{Bind}
use Rattle.report_text.specs.declared.status.Status.{Status}
use Rattle.report_text.specs.declared.status.Status.TheVariants as status
use Rattle.wdl_value.specs.declared.ty.StructDef.{StructDef}
use Rattle.wdl_port.specs.Causes.{Rose}
use Rattle.wdl_library.specs.declared.doc.Doc.{Doc}
use Rattle.wdl_typed.specs.declared.checked.Checked.{Checked}
use Rattle.wdl_typed.specs.declared.flow.FlowDef.{FlowDef}
use Rattle.wdl_typed.specs.Flow.{too_many}
use Rattle.wdl_sources.specs.Walks.{AreFiles, Files}
use Rattle.wdl_imports.specs.Libraries.{IsLibrary}
use Rattle.wdl_check_doc.specs.Checked as check
use Rattle.wdl_json.specs.Inputs.{inputs_in, main_of}
use Rattle.workflow_cli.specs.declared.asking.Page.{Page}
use Rattle.workflow_cli.specs.Asking.{IsBundleOf, IsCheckOf, IsCwlOf, IsForInputs, IsForMain, IsFormOf, IsPrintOf, IsRunOf, Words, asked}
use Rattle.wdl_json.specs.declared.fault.InputFault.TheVariants.{Bad}
use Rattle.workflow_stages.specs.Documents.{Tells}
use Rattle.workflow_stages.specs.Preparing.{IsInputsText}
use Rattle.workflow_texts.specs.Translating.{IsInSubset}
use Rattle.workflow_cli.specs.Causes.{Names}
use Rattle.workflow_cli.specs.Running.{Main, Trace, flow_of}

abbrev pub IsOr : Status → Status → Type 0
IsOr s r = (r ≡ s) ⊎ (r ≡ status.NoMemory)

-- words without a reading give Usage, where its line can be written
abbrev pub UsageIsComplete : Words → Type 0 → Status → Type 0
UsageIsComplete words cut r = asked words ≡ None → ¬ cut → IsOr status.Usage r

-- these bytes have a library, and each library of theirs has this checked form
pub record AreChecked (files : Files) (root : List ℕ) (c : Checked) : Type 0 where
  pub docs : List Doc
  pub structs : List StructDef
  pub is_library : IsLibrary files root docs structs
  pub typed : (ds : List Doc) (ss : List StructDef) → IsLibrary files root ds ss → (check.typed ds ss).typed ≡ Some (check.parts_of c)

-- whatever the bytes are that the shelf does not tell, the document at the path has this checked form
abbrev pub MustHave : Tells → List ℕ → Checked → Type 0
MustHave tells root c = (files : Files) → AreFiles tells files → AreChecked files root c

-- a check of a document that has a checked form gives Ok, where no count rises
abbrev pub CheckIsComplete : Tells → Words → Type 0 → Type 0 → Status → Type 0
CheckIsComplete tells words unread cut r = (file : List ℕ) (c : Checked) → IsCheckOf words file → MustHave tells file c → ¬ unread → ¬ cut → IsOr status.Ok r

-- the inputs of a document that has a checked form with a main workflow give Ok, where no count rises
abbrev pub FormIsComplete : Tells → Words → Type 0 → Type 0 → Status → Type 0
FormIsComplete tells words unread cut r =
    (file : List ℕ) (c : Checked) (f : FlowDef) → IsFormOf words file → MustHave tells file c → main_of c.flows c.main ≡ Some f
    → ¬ unread → ¬ cut → IsOr status.Ok r

-- help and the version give Ok, or Write where a count rises
abbrev pub PrintIsComplete : Words → Type 0 → Status → Type 0
PrintIsComplete words cut r = (page : Page) → IsPrintOf words page → IsOr status.Ok r ⊎ ((r ≡ status.Write) × cut)

-- whatever the bytes are that the shelf does not tell, the document at the path has no checked form
abbrev pub MustLack : Tells → List ℕ → Type 0
MustLack tells root = (files : Files) (docs : List Doc) (structs : List StructDef)
    → AreFiles tells files → IsLibrary files root docs structs → (check.typed docs structs).typed ≡ None

abbrev pub IsSomeDocument : Status → Type 0
IsSomeDocument r = (code : ℕ) × (span : Span) × (r ≡ status.Document code span)

-- a document that has no checked form gives Document, where no count rises
abbrev pub DocumentIsComplete : Tells → Words → Type 0 → Type 0 → Status → Type 0
DocumentIsComplete tells words unread cut r =
    (file : List ℕ) → Names words file → MustLack tells file → ¬ unread → ¬ cut → IsSomeDocument r ⊎ (r ≡ status.NoMemory)

-- a run, a translation or a bundle of a document that has a checked form without a main workflow, or its inputs, give Document with the
-- code 327, where no count rises
abbrev pub MainIsComplete : Tells → Words → Type 0 → Type 0 → Status → Type 0
MainIsComplete tells words unread cut r =
    (file : List ℕ) (inputs : Option (List ℕ)) (c : Checked) → IsForMain words file inputs → MustHave tells file c
    → main_of c.flows c.main ≡ None → ¬ unread → ¬ cut → IsOr (status.Document 327 (record { doc = 0; start = 0; end = 0 })) r

-- inputs that break a rule give Inputs with its code, where no count rises
abbrev pub InputsIsComplete : Tells → Words → Type 0 → Type 0 → Status → Type 0
InputsIsComplete tells words unread cut r =
    (file : List ℕ) (inputs : Option (List ℕ)) (c : Checked) (f : FlowDef) (code : ℕ) (name : Option (List ℕ))
    → IsForInputs words file inputs → MustHave tells file c → main_of c.flows c.main ≡ Some f
    → ((text : List ℕ) → IsInputsText tells inputs text → inputs_in c.structs f text ≡ Err (Bad code name))
    → ¬ unread → ¬ cut → IsOr (status.Inputs code name) r

-- whatever the bytes are that the shelf does not tell, the text of the inputs, where they are named, gives some
abbrev pub MustGive : Tells → Option (List ℕ) → Checked → FlowDef → Type 0
MustGive tells None c f = ⊤
MustGive tells (Some path) c f = (given : List Bind) × ((text : List ℕ) → IsInputsText tells (Some path) text → inputs_in c.structs f text ≡ Ok given)

abbrev pub IsSomeExclusion : Status → Type 0
IsSomeExclusion r = (rule : ℕ) × (span : Span) × (r ≡ status.NotInSubset rule span)

-- A translation of a document that has a checked form with a main workflow, with inputs that break no rule, gives Ok where no rule of
-- the subset is broken, and NotInSubset where one is; where no count rises.
abbrev pub CwlIsComplete : Tells → Words → Type 0 → Type 0 → Status → Type 0
CwlIsComplete tells words unread cut r =
    (file : List ℕ) (inputs : Option (List ℕ)) (c : Checked) (number : ℕ) (f : FlowDef)
    → IsCwlOf words file inputs → MustHave tells file c → c.main ≡ Some number → main_of c.flows c.main ≡ Some f
    → MustGive tells inputs c f → ¬ unread → ¬ cut
    → (IsInSubset c number → IsOr status.Ok r) × (¬ (IsInSubset c number) → IsSomeExclusion r ⊎ (r ≡ status.NoMemory))

-- A bundle of a document that has a checked form with a main workflow gives Ok, or NotInSubset with a rule that is broken, where no count
-- rises.
abbrev pub BundleIsComplete : Tells → Words → Type 0 → Type 0 → Status → Type 0
BundleIsComplete tells words unread cut r =
    (file : List ℕ) (c : Checked) (f : FlowDef) → IsBundleOf words file → MustHave tells file c → main_of c.flows c.main ≡ Some f
    → ¬ unread → ¬ cut → IsOr status.Ok r ⊎ IsSomeExclusion r

-- A run gives Ok where no count rises, also not that of the keeper, the document has a checked form with a main workflow, the inputs
-- break no rule, the launcher refuses no job of the flow over the journal, and that flow has no fault and is not too many.
abbrev pub RunIsComplete : Tells → Words → (Request → Type 0) → Type 0 → Type 0 → Trace → Status → Type 0
RunIsComplete tells words refuses unread cut t r =
    (file : List ℕ) (inputs : Option (List ℕ)) (m : Main) → IsRunOf words file inputs m.options → MustHave tells file m.checked
    → main_of m.checked.flows m.checked.main ≡ Some m.flow
    → ((text : List ℕ) → IsInputsText tells inputs text → inputs_in m.checked.structs m.flow text ≡ Ok m.given)
    → ¬ unread → ¬ cut → ¬ (Rose t.keeper.faults t.keeper_now.faults)
    → ((q : Request) → Contains (flow_of m t.journal).jobs q → ¬ (refuses q)) → (flow_of m t.journal).faults ≡ [] → too_many (flow_of m t.journal) ≡ false
    → IsOr status.Ok r
