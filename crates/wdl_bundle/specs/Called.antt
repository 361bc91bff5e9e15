-- The tasks of a library, and what the calls of its main workflow name.
use Rattle.std.specs.Prelude.{ℕ, ◌+◌, Bool, true, false, List, [], ◌∷◌, ◌++◌, Option, Some, None, length, map, option_map, option_and_then, slice_get, slice_set, slice_index_or}
use Rattle.std.specs.List.{find}
use Rattle.std.specs.Str.{bytes_eq}
use Rattle.wdl_base.specs.declared.span.Span.{Span}
use Rattle.wdl_ast.specs.declared.document.Section.{Section}
use Rattle.wdl_ast.specs.declared.document.Section.TheVariants as section
use Rattle.wdl_ast.specs.declared.leaf.Ident.{Ident}
use Rattle.wdl_ast.specs.declared.task.TaskSection.{TaskSection}
use Rattle.wdl_ast.specs.declared.workflow.Call.{Call}
use Rattle.wdl_ast.specs.declared.workflow.CallTarget.{CallTarget}
use Rattle.wdl_ast.specs.declared.workflow.Statement.{Statement, Statement-F, fold-Statement}
use Rattle.wdl_ast.specs.declared.workflow.Statement.TheOpen as layer
use Rattle.wdl_ast.specs.declared.workflow.TargetMember.{TargetMember}
use Rattle.wdl_ast.specs.declared.workflow.WorkflowElement.{WorkflowElement}
use Rattle.wdl_ast.specs.declared.workflow.WorkflowElement.TheVariants as element
use Rattle.wdl_library.specs.declared.doc.Link.{Link}
use Rattle.wdl_check_rules.specs.Locals.{Naming, stands_for}
use Rattle.wdl_check_types.specs.Places.{call_span}
use Rattle.wdl_bundle.specs.declared.calls.Met.{Met}
use Rattle.wdl_bundle.specs.declared.reach.Callee.{Callee}
use Rattle.wdl_bundle.specs.declared.reach.Callee.TheVariants as callee
use Rattle.wdl_bundle.specs.declared.reach.Offer.{Offer as HeldOffer}
use Rattle.wdl_bundle.specs.declared.reach.Reach.{Reach as HeldReach}
use Rattle.wdl_bundle.specs.declared.reach.Space.{Space as HeldSpace}
use Rattle.wdl_bundle.specs.declared.tasks.Task.{Task as HeldTask}
use Rattle.struct_names.specs.Known.{Known}

-- ---- the tasks of all documents, by document number and order of the text

-- the task of that number of the document of that number, both counted from 0
pub record Task : Type 0 where
  pub doc : ℕ
  pub number : ℕ
  pub locals : Naming
  pub section : TaskSection

abbrev pub tasks_in : List Section → List TaskSection
tasks_in [] = []
tasks_in (section.Task t ∷ ss) = t ∷ tasks_in ss
tasks_in (s ∷ ss) = tasks_in ss

abbrev pub tasks_from : ℕ → Naming → ℕ → List TaskSection → List Task
tasks_from doc locals number [] = []
tasks_from doc locals number (t ∷ ts) = record { doc = doc; number = number; locals = locals; section = t } ∷ tasks_from doc locals (number + 1) ts

abbrev pub tasks_of : ℕ → Known → List Task
tasks_of doc k = tasks_from doc k.locals 0 (tasks_in k.doc.document.sections)

-- those of documents that are numbered from this number on
abbrev pub all_tasks : ℕ → List Known → List Task
all_tasks doc [] = []
all_tasks doc (k ∷ ks) = tasks_of doc k ++ all_tasks (doc + 1) ks

-- ---- what documents offer

-- a task, by its place among all tasks, or a workflow
pub record Offer : Type 0 where
  pub name : List ℕ
  pub callee : Callee

abbrev pub offers_from : ℕ → List Section → List Offer
offers_from at [] = []
offers_from at (section.Task t ∷ ss) = record { name = t.name.name; callee = callee.Task at } ∷ offers_from (at + 1) ss
offers_from at (section.Workflow w ∷ ss) = record { name = w.name.name; callee = callee.Workflow } ∷ offers_from at ss
offers_from at (s ∷ ss) = offers_from at ss

-- those of each document, where the first task has this place
abbrev pub all_offers : ℕ → List Known → List (List Offer)
all_offers at [] = []
all_offers at (k ∷ ks) = offers_from at k.doc.document.sections ∷ all_offers (at + length (tasks_in k.doc.document.sections)) ks

-- the name of an import, with what its document offers
pub record Space : Type 0 where
  pub name : List ℕ
  pub offers : List Offer

abbrev pub space_at : List ℕ → Option (List Offer) → List Space
space_at name None = []
space_at name (Some offers) = record { name = name; offers = offers } ∷ []

abbrev pub spaces : List (List Offer) → List Link → List Space
spaces all [] = []
spaces all (l ∷ ls) = space_at l.namespace (slice_get all l.doc) ++ spaces all ls

-- ---- targets of calls

-- what the document offers itself, and its imports
pub record Reach : Type 0 where
  pub own : List Offer
  pub spaces : List Space

abbrev pub offer_named : List Offer → List ℕ → Option Offer
offer_named offers name = find (λ (o : Offer). bytes_eq o.name name) offers

abbrev pub space_named : List Space → List ℕ → Option Space
space_named ss name = find (λ (s : Space). bytes_eq s.name name) ss

abbrev pub named_in : Reach → Ident → Option TargetMember → Option Offer
named_in r first None = offer_named r.own first.name
named_in r first (Some m) = option_and_then (λ (s : Space). offer_named s.offers m.name.name) (space_named r.spaces first.name)

abbrev pub callee_of : Reach → CallTarget → Option Callee
callee_of r t = option_map (λ (o : Offer). o.callee) (named_in r t.first t.second)

-- ---- the calls of a workflow, in the order of the text

abbrev pub seen : Reach → Call → Met
seen r c = record { callee = callee_of r c.target; span = call_span c }

abbrev pub append_all : List (List Met) → List Met
append_all [] = []
append_all (cs ∷ more) = cs ++ append_all more

abbrev pub calls_step : Reach → Statement-F (List Met) → List Met
calls_step r (layer.Declaration d) = []
calls_step r (layer.Call c) = seen r c ∷ []
calls_step r (layer.Scatter s) = append_all s.body
calls_step r (layer.Conditional s) = append_all s.body

abbrev pub calls_in : Reach → Statement → List Met
calls_in r = fold-Statement (List Met) (calls_step r)

abbrev pub calls_of : Reach → List WorkflowElement → List Met
calls_of r [] = []
calls_of r (element.Statement s ∷ es) = calls_in r s ++ calls_of r es
calls_of r (e ∷ es) = calls_of r es

-- the first call of a workflow
abbrev pub unless_workflow : Option Callee → Span → Option Span → Option Span
unless_workflow (Some callee.Workflow) s later = Some s
unless_workflow o s later = later

abbrev pub first_workflow : List Met → Option Span
first_workflow [] = None
first_workflow (c ∷ cs) = unless_workflow c.callee c.span (first_workflow cs)

-- ---- the tasks that are called

-- a mark is set for each task that a call names
abbrev pub mark : List Bool → Option Callee → List Bool
mark marks (Some (callee.Task at)) = slice_set marks at true
mark marks o = marks

abbrev pub marked : List Bool → List Met → List Bool
marked marks [] = marks
marked marks (c ∷ cs) = marked (mark marks c.callee) cs

abbrev pub is_set : List Bool → ℕ → Bool
is_set marks at = slice_index_or marks at false

-- ---- as code has them

abbrev pub task_of : HeldTask → Task
task_of t = record { doc = t.doc; number = t.number; locals = stands_for t.locals.now; section = t.section.now }

abbrev pub offer_of : HeldOffer → Offer
offer_of o = record { name = o.name.now; callee = o.callee }

abbrev pub space_of : HeldSpace → Space
space_of s = record { name = s.name.now; offers = map offer_of s.offers.now }

abbrev pub reach_of : HeldReach → Reach
reach_of r = record { own = map offer_of r.own.now; spaces = map space_of r.spaces.now }
