-- The bundle of a library.
use Rattle.std.specs.Prelude.{◌≡◌, ℕ, ◌+◌, false, List, [], ◌∷◌, ◌++◌, Option, Some, None, Result, Ok, Err, length, map, replicate}
use Rattle.wdl_base.specs.declared.span.Span.{Span}
use Rattle.wdl_value.specs.Fits.{Structs}
use Rattle.wdl_ast.specs.declared.document.Document.{Document}
use Rattle.wdl_ast.specs.declared.document.Section.{Section}
use Rattle.wdl_ast.specs.declared.document.Section.TheVariants as section
use Rattle.wdl_ast.specs.declared.workflow.CallTarget.{CallTarget}
use Rattle.wdl_ast.specs.declared.workflow.Workflow.{Workflow}
use Rattle.wdl_ast.specs.declared.workflow.WorkflowElement.{WorkflowElement}
use Rattle.wdl_library.specs.declared.doc.Doc.{Doc}
use Rattle.wdl_check_rules.specs.Locals.{Naming}
use Rattle.wdl_bundle.specs.declared.calls.Met.{Met}
use Rattle.wdl_bundle.specs.declared.fault.BundleFault.{BundleFault}
use Rattle.wdl_bundle.specs.declared.fault.BundleFault.TheVariants.{Bad, NoMemory}
use Rattle.wdl_bundle.specs.Bodies.{workflow_with}
use Rattle.wdl_bundle.specs.Called.{Offer, Reach, Task, all_offers, all_tasks, calls_of, first_workflow, is_set, marked, spaces}
use Rattle.wdl_bundle.specs.StructSections.{all_declared, struct_sections}
use Rattle.struct_names.specs.Known.{Known, known}
use Rattle.wdl_bundle.specs.TaskNames.{Name, name_at, name_of, names_from, own_names}
use Rattle.wdl_copies.specs.Renamed.{task_with}

-- ---- document 0

abbrev pub workflow_in : List Section → Option Workflow
workflow_in [] = None
workflow_in (section.Workflow w ∷ ss) = Some w
workflow_in (s ∷ ss) = workflow_in ss

abbrev pub main_of : Known → Option Workflow
main_of k = workflow_in k.doc.document.sections

abbrev pub elements_of : Option Workflow → List WorkflowElement
elements_of None = []
elements_of (Some w) = w.elements

-- ---- sections

abbrev pub task_section : Task → Option Name → List Section
task_section t None = []
task_section t (Some name) = section.Task (task_with t.locals name t.section) ∷ []

-- those of the tasks that have a name, which stand from this place on
abbrev pub task_sections : List (Option Name) → ℕ → List Task → List Section
task_sections names at [] = []
task_sections names at (t ∷ ts) = task_section t (name_at names at) ++ task_sections names (at + 1) ts

abbrev pub main_section : Naming → (CallTarget → Option Name) → Option Workflow → List Section
main_section locals named None = []
main_section locals named (Some w) = section.Workflow (workflow_with locals named w) ∷ []

-- ---- the document

-- what the calls of a document may name, which offers this itself
abbrev pub reach_with : Known → List Offer → List (List Offer) → Reach
reach_with k own all = record { own = own; spaces = spaces all k.doc.imports }

abbrev pub calls_from : Known → Reach → List Met
calls_from k reach = calls_of reach (elements_of (main_of k))

-- the names of the tasks that these calls name
abbrev pub names_for : List Offer → List Task → List Met → List (Option Name)
names_for own tasks calls = names_from (is_set (marked (replicate (length tasks) false) calls)) (own_names own) 0 tasks

abbrev pub sections_with : Known → List Known → Structs → Reach → List Task → List (Option Name) → List Section
sections_with k all structs reach tasks names =
    struct_sections k.locals (all_declared all) structs ++ task_sections names 0 tasks ++ main_section k.locals (name_of reach names) (main_of k)

abbrev pub sections_from : Known → List Known → Structs → Reach → List Section
sections_from k all structs reach = sections_with k all structs reach (all_tasks 0 all) (names_for reach.own (all_tasks 0 all) (calls_from k reach))

abbrev pub nowhere : Span
nowhere = record { doc = 0; start = 0; end = 0 }

abbrev pub document_of : List Section → Document
document_of ss = record { version = nowhere; number = nowhere; sections = ss }

abbrev pub document_from : Known → List Known → Structs → Reach → Document
document_from k all structs reach = document_of (sections_from k all structs reach)

abbrev pub refused_from : Known → Reach → Option Span
refused_from k reach = first_workflow (calls_from k reach)

-- what the first document is, and what each document offers
abbrev pub document_in : List Known → Structs → List (List Offer) → Document
document_in (k ∷ ks) structs (own ∷ more) = document_from k (k ∷ ks) structs (reach_with k own (own ∷ more))
document_in ks structs all = document_of []

abbrev pub refused_in : List Known → List (List Offer) → Option Span
refused_in (k ∷ ks) (own ∷ more) = refused_from k (reach_with k own (own ∷ more))
refused_in ks all = None

-- The structs of the library in order, then the tasks that the main workflow calls by document number and order of the text, then the
-- main workflow, all with the names of the library for structs, with the new names of tasks, and without metadata.
unfoldable pub bundled : List Doc → Structs → Document
bundled docs structs = document_in (map known docs) structs (all_offers 0 (map known docs))

-- the first call of a workflow in the main workflow
unfoldable pub workflow_call : List Doc → Option Span
workflow_call docs = refused_in (map known docs) (all_offers 0 (map known docs))

-- Either the document comes, where nothing is refused, or 620 at what is refused.
abbrev pub Answers : Option Span → Document → Result Document BundleFault → Type 0
Answers refused document (Ok d) = (refused ≡ None) × (d ≡ document)
Answers refused document (Err (Bad rule span)) = (rule ≡ 620) × (refused ≡ Some span)
Answers refused document (Err NoMemory) = Unit
