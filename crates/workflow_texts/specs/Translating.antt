-- What is written of a workflow as CWL, and which workflows have no such document.
use Rattle.std.specs.Prelude.{◌≡◌, ◌<◌, ℕ, true, List, [], ◌++◌, Option, Some, None, Result, Ok, Err, codes, ⊤}
use Rattle.std.specs.List.{Any}
use Rattle.wdl_base.specs.declared.error.NoMemory.{NoMemory}
use Rattle.wdl_base.specs.declared.span.Span.{Span}
use Rattle.wdl_value.specs.declared.env.Bind.{Bind}
use Rattle.report_text.specs.declared.status.Status.{Status}
use Rattle.report_text.specs.declared.status.Status.TheVariants as status
use Rattle.wdl_typed.specs.declared.checked.Checked.{Checked}
use Rattle.wdl_typed.specs.declared.flow.FlowDef.{FlowDef}
use Rattle.wdl_typed.specs.Bodies as bodies
use Rattle.wdl_json.specs.Inputs.{inputs_in}
use Rattle.wdl_typed.specs.declared.task.TInput.{TInput}
use Rattle.cwl_image.specs.Named.{names_are_names}
use Rattle.cwl_image.specs.Subset as rules
use Rattle.cwl_emit.specs.Objects.{object_text}
use Rattle.cwl_records.specs.declared.leaf.RecordLeaf.{RecordLeaf}
use Rattle.cwl_records.specs.declared.lowering.Lowered.{Lowered}
use Rattle.cwl_subset.specs.declared.subset.Subset.{Subset}
use Rattle.wide_formed.specs.Forms.{LoweredForm, Says as SaysForm, lowering}
use Rattle.workflow_stages.specs.declared.ended.CommandStop.{CommandStop}
use Rattle.workflow_stages.specs.declared.ended.Work.{Work}
use Rattle.workflow_stages.specs.declared.ended.Work.TheVariants as work
use Rattle.workflow_stages.specs.Documents.{HasMain, MainStops, Tells}
use Rattle.workflow_stages.specs.Paths.{ArePaths}
use Rattle.workflow_stages.specs.Preparing.{IsInputsText, PrepareStops}

abbrev pub library_of : Checked → bodies.Library
library_of c = bodies.library c.structs c.tasks c.flows

-- a checked form without aliases and struct inputs
abbrev pub lowered : Checked → ℕ → LoweredForm
lowered c number = lowering (library_of c) number

-- A library breaks no rule of the subset.
abbrev pub BreaksNone : bodies.Library → ℕ → Type 0
BreaksNone lib number = rules.in_subset lib number ≡ true

abbrev pub HasNames : bodies.Library → Type 0
HasNames lib = names_are_names lib ≡ true

-- It breaks the rule at the span, and no lower rule.
pub record BreaksLowest (lib : bodies.Library) (number rule : ℕ) (span : Span) : Type 0 where
  pub broken : Any (λ (s : Span). s ≡ span) (rules.rule rule lib number)
  pub lowest : (n : ℕ) → n < rule → rules.rule n lib number ≡ []

-- The form without aliases and struct inputs breaks no rule of the subset.
abbrev pub IsInSubset : Checked → ℕ → Type 0
IsInSubset c number = BreaksNone (lowered c number).lib number

-- each of its names is a NAME
abbrev pub IsNamed : Checked → ℕ → Type 0
IsNamed c number = HasNames (lowered c number).lib

-- It breaks the rule at the span, and no lower rule.
abbrev pub IsLowest : Checked → ℕ → ℕ → Span → Type 0
IsLowest c number rule span = BreaksLowest (lowered c number).lib number rule span

-- the text of the document
abbrev pub Says : Checked → ℕ → List ℕ → Type 0
Says c number text = SaysForm (lowered c number) number text

-- the text of the inputs, where they are named, gives these inputs
abbrev pub GivesAll : Tells → Option (List ℕ) → Checked → FlowDef → Type 0
GivesAll tells None c f = ⊤
GivesAll tells (Some path) c f =
    (text : List ℕ) × (given : List Bind) × IsInputsText tells (Some path) text × (inputs_in c.structs f text ≡ Ok given)

-- ---- the text of the output

-- the CWL document of the main workflow
pub record IsDocumentOf (tells : Tells) (file text : List ℕ) : Type 0 where
  pub checked : Checked
  pub number : ℕ
  pub flow : FlowDef
  pub paths : List (List ℕ)
  pub source : HasMain tells file checked number flow paths
  pub in_subset : IsInSubset checked number
  pub named : IsNamed checked number
  pub says : Says checked number text

-- the CWL input object of the inputs that a text gives, and a newline
pub record IsObjectOf (tells : Tells) (file : List ℕ) (inputs : Option (List ℕ)) (text : List ℕ) : Type 0 where
  pub checked : Checked
  pub number : ℕ
  pub flow : FlowDef
  pub paths : List (List ℕ)
  pub source : HasMain tells file checked number flow paths
  pub read : List ℕ
  pub is_read : IsInputsText tells inputs read
  pub given : List Bind
  pub reads : inputs_in checked.structs flow read ≡ Ok given
  pub in_subset : IsInSubset checked number
  pub named : IsNamed checked number
  pub says : text ≡ object_text given ++ codes "\n"

abbrev pub IsCwlText : Tells → List ℕ → Option (List ℕ) → List ℕ → Type 0
IsCwlText tells file None text = IsDocumentOf tells file text
IsCwlText tells file (Some path) text = IsObjectOf tells file (Some path) text

-- ---- what is not in the subset

-- The rule is the lowest that the main workflow and what it reaches break, and is broken at the span.
pub record HasOutside (tells : Tells) (file : List ℕ) (inputs : Option (List ℕ)) (rule : ℕ) (span : Span) (paths : List (List ℕ)) : Type 0 where
  pub checked : Checked
  pub number : ℕ
  pub flow : FlowDef
  pub all : List (List ℕ)
  pub source : HasMain tells file checked number flow all
  pub given : GivesAll tells inputs checked flow
  pub lowest : IsLowest checked number rule span
  pub named : ArePaths all span.doc paths

abbrev pub DocumentStops : Tells → (List ℕ → Type 0) → Type 0 → List ℕ → Status → List (List ℕ) → Type 0
DocumentStops tells refused rose file (status.NotInSubset rule span) paths = HasOutside tells file None rule span paths
DocumentStops tells refused rose file s paths = MainStops tells file refused rose s paths

abbrev pub ObjectStops : Tells → (List ℕ → Type 0) → Type 0 → List ℕ → Option (List ℕ) → Status → List (List ℕ) → Type 0
ObjectStops tells refused rose file inputs (status.NotInSubset rule span) paths = HasOutside tells file inputs rule span paths
ObjectStops tells refused rose file inputs s paths = PrepareStops tells refused rose file inputs s paths

abbrev pub WritesDocument : Tells → (List ℕ → Type 0) → Type 0 → List ℕ → Work → Type 0
WritesDocument tells refused rose file (work.Text text) = IsDocumentOf tells file text
WritesDocument tells refused rose file (work.Stop stop) = DocumentStops tells refused rose file stop.status stop.paths

abbrev pub WritesObject : Tells → (List ℕ → Type 0) → Type 0 → List ℕ → Option (List ℕ) → Work → Type 0
WritesObject tells refused rose file inputs (work.Text text) = IsObjectOf tells file inputs text
WritesObject tells refused rose file inputs (work.Stop stop) = ObjectStops tells refused rose file inputs stop.status stop.paths

-- the work of the command
abbrev pub Translates : Tells → (List ℕ → Type 0) → Type 0 → List ℕ → Option (List ℕ) → Work → Type 0
Translates tells refused rose file None w = WritesDocument tells refused rose file w
Translates tells refused rose file (Some path) w = WritesObject tells refused rose file (Some path) w

-- ---- of a form without aliases and struct inputs, whose documents have these paths

abbrev pub form_with : Checked → List RecordLeaf → List TInput → LoweredForm
form_with c records source = record { lib = library_of c; records = records; source = source }

abbrev pub form_of : Lowered → LoweredForm
form_of l = form_with l.checked l.records l.source

abbrev pub FormStops : Checked → List (List ℕ) → Status → List (List ℕ) → Type 0
FormStops c all (status.NotInSubset rule span) paths = ((number : ℕ) → c.main ≡ Some number → BreaksLowest (library_of c) number rule span) × ArePaths all span.doc paths
FormStops c all status.NoMemory paths = ⊤
FormStops c all s paths = ⊥

abbrev pub SubsetOf : Checked → List (List ℕ) → Result Subset CommandStop → Type 0
SubsetOf c all (Ok s) = s.checked ≡ c
SubsetOf c all (Err stop) = FormStops c all stop.status stop.paths

-- a text, or want of memory
abbrev pub TextWork : Result (List ℕ) NoMemory → Work → Type 0
TextWork (Ok text) w = w ≡ work.Text text
TextWork (Err e) (work.Stop stop) = stop.status ≡ status.NoMemory
TextWork (Err e) (work.Text text) = ⊥

abbrev pub FormWork : Lowered → List (List ℕ) → Work → Type 0
FormWork l all (work.Text text) =
    (number : ℕ) → l.checked.main ≡ Some number
    → BreaksNone (library_of l.checked) number × HasNames (library_of l.checked) × SaysForm (form_of l) number text
FormWork l all (work.Stop stop) = FormStops l.checked all stop.status stop.paths

abbrev pub FormObjectWork : Checked → List (List ℕ) → List Bind → Work → Type 0
FormObjectWork c all given (work.Text text) =
    ((number : ℕ) → c.main ≡ Some number → BreaksNone (library_of c) number × HasNames (library_of c)) × (text ≡ object_text given ++ codes "\n")
FormObjectWork c all given (work.Stop stop) = FormStops c all stop.status stop.paths

-- ---- of a checked form, whose documents have these paths

abbrev pub SubsetStops : Checked → List (List ℕ) → Status → List (List ℕ) → Type 0
SubsetStops c all (status.NotInSubset rule span) paths = ((number : ℕ) → c.main ≡ Some number → IsLowest c number rule span) × ArePaths all span.doc paths
SubsetStops c all status.NoMemory paths = ⊤
SubsetStops c all s paths = ⊥

abbrev pub DocumentWork : Checked → List (List ℕ) → Work → Type 0
DocumentWork c all (work.Text text) = (number : ℕ) → c.main ≡ Some number → IsInSubset c number × IsNamed c number × Says c number text
DocumentWork c all (work.Stop stop) = SubsetStops c all stop.status stop.paths

abbrev pub ObjectWork : Checked → List (List ℕ) → List Bind → Work → Type 0
ObjectWork c all given (work.Text text) =
    ((number : ℕ) → c.main ≡ Some number → IsInSubset c number × IsNamed c number) × (text ≡ object_text given ++ codes "\n")
ObjectWork c all given (work.Stop stop) = SubsetStops c all stop.status stop.paths
