-- The tasks and workflows of documents, in the order of the text (OpenWDL 1.1, "WDL Documents").
use Rattle.std.specs.Prelude.{Bool, true, false, List, [], ◌∷◌, ◌++◌, Option, Some, None, map}
use Rattle.wdl_base.specs.declared.span.Span.{Span}
use Rattle.wdl_value.specs.Fits.{Structs}
use Rattle.wdl_ast.specs.declared.document.Section.{Section}
use Rattle.wdl_ast.specs.declared.document.Section.TheVariants as section
use Rattle.wdl_ast.specs.declared.leaf.Ident.{Ident}
use Rattle.wdl_ast.specs.declared.task.TaskSection.{TaskSection}
use Rattle.wdl_ast.specs.declared.workflow.Workflow.{Workflow}
use Rattle.wdl_typed.specs.declared.task.TaskDef.{TaskDef}
use Rattle.wdl_check_types.specs.Outcome.{Outcome, done, then_}
use Rattle.wdl_check_decls.specs.Names.{first_repeated}
use Rattle.wdl_check_task.specs.Tasks.{task_typed, unless_repeated}
use Rattle.wdl_check_flow.specs.declared.flow.FlowHead.{FlowHead}
use Rattle.wdl_check_flow.specs.Flows.{head_typed}
use Rattle.wdl_check_doc.specs.declared.runnable.FlowPart.{FlowPart as HeldFlow}
use Rattle.wdl_check_doc.specs.declared.runnable.Headed.{Headed as HeldHead}
use Rattle.wdl_check_doc.specs.declared.runnable.TaskPart.{TaskPart as HeldTask}
use Rattle.wdl_check_doc.specs.Outcomes.{placed}
use Rattle.wdl_check_doc.specs.Parts.{Part, part_of, world}

abbrev pub tasks_in : List Section → List TaskSection
tasks_in [] = []
tasks_in (section.Task t ∷ ss) = t ∷ tasks_in ss
tasks_in (s ∷ ss) = tasks_in ss

abbrev pub workflows_in : List Section → List Workflow
workflows_in [] = []
workflows_in (section.Workflow f ∷ ss) = f ∷ workflows_in ss
workflows_in (s ∷ ss) = workflows_in ss

-- ---- names

abbrev pub idents_in : List Section → List Ident
idents_in [] = []
idents_in (section.Task t ∷ ss) = t.name ∷ idents_in ss
idents_in (section.Workflow f ∷ ss) = f.name ∷ idents_in ss
idents_in (s ∷ ss) = idents_in ss

-- the first name, where a workflow stands before
abbrev pub first_name : List Workflow → Option Span
first_name [] = None
first_name (f ∷ fs) = Some f.name.span

abbrev pub second_name : List Workflow → Option Span
second_name [] = None
second_name (f ∷ fs) = first_name fs

abbrev pub second_of : Bool → List Workflow → Option Span
second_of true fs = first_name fs
second_of false fs = second_name fs

-- 321: a name that stands before, or a second workflow
abbrev pub names_in : List Section → Outcome (Unit {0})
names_in ss = unless_repeated (first_repeated [] (idents_in ss)) (unless_repeated (second_name (workflows_in ss)) (done tt))

abbrev pub names_typed : Part → Outcome (Unit {0})
names_typed p = placed p.number (names_in p.sections)

-- ---- the tasks and workflows of all documents

pub record TaskPart : Type 0 where
  pub part : Part
  pub task : TaskSection

pub record FlowPart : Type 0 where
  pub part : Part
  pub workflow : Workflow

abbrev pub task_part : Part → TaskSection → TaskPart
task_part p t = record { part = p; task = t }

abbrev pub flow_part : Part → Workflow → FlowPart
flow_part p f = record { part = p; workflow = f }

abbrev pub tasks_at : Part → List TaskPart
tasks_at p = map (task_part p) (tasks_in p.sections)

abbrev pub flows_at : Part → List FlowPart
flows_at p = map (flow_part p) (workflows_in p.sections)

abbrev pub tasks_of : List Part → List TaskPart
tasks_of [] = []
tasks_of (p ∷ ps) = tasks_at p ++ tasks_of ps

abbrev pub flows_of : List Part → List FlowPart
flows_of [] = []
flows_of (p ∷ ps) = flows_at p ++ flows_of ps

abbrev pub task_of : HeldTask → TaskPart
task_of t = record { part = part_of t.part; task = t.task.now }

abbrev pub flow_of : HeldFlow → FlowPart
flow_of f = record { part = part_of f.part; workflow = f.workflow.now }

-- ---- their types

abbrev pub task_in : Structs → TaskPart → Outcome TaskDef
task_in structs t = placed t.part.number (task_typed (world structs t.part) t.task)

-- a workflow with what its calls see
pub record Headed : Type 0 where
  pub flow : FlowPart
  pub head : FlowHead

abbrev pub headed : FlowPart → FlowHead → Headed
headed f h = record { flow = f; head = h }

abbrev pub headed_of : HeldHead → Headed
headed_of h = record { flow = flow_of h.flow; head = h.head }

abbrev pub head_of : Structs → FlowPart → Outcome FlowHead
head_of structs f = placed f.part.number (head_typed (world structs f.part) f.workflow)

abbrev pub head_in : Structs → FlowPart → Outcome Headed
head_in structs f = then_ (head_of structs f) (λ h. done (headed f h))
