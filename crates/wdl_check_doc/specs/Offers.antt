-- What the calls of each document may name (OpenWDL 1.1, "Call Statement"): its own tasks, and the tasks and the workflow of each
-- document that it imports.
use Rattle.std.specs.Prelude.{ℕ, ◌+◌, List, [], ◌∷◌, ◌++◌, length, take, drop, map, slice_get, Option, Some, None}
use Rattle.wdl_value.specs.declared.ty.Member.{Member}
use Rattle.wdl_typed.specs.declared.flow.Target.TheVariants as target
use Rattle.wdl_typed.specs.declared.task.TDecl.{TDecl}
use Rattle.wdl_typed.specs.declared.task.TaskDef.{TaskDef}
use Rattle.wdl_library.specs.declared.doc.Link.{Link}
use Rattle.wdl_check_flow.specs.Targets.{Offer, Space}
use Rattle.wdl_check_doc.specs.Parts.{Part}
use Rattle.wdl_check_doc.specs.Runnables.{Headed, tasks_in, workflows_in}

-- ---- the tasks and workflows of all documents, by their numbers

abbrev pub result_of : TDecl → Member
result_of d = record { name = d.name; ty = d.ty }

abbrev pub task_offer : ℕ → TaskDef → Offer
task_offer number t = record { name = t.name; target = target.Task number; inputs = t.inputs; outputs = map result_of t.outputs }

-- the tasks with numbers from this one on
abbrev pub task_offers : ℕ → List TaskDef → List Offer
task_offers number [] = []
task_offers number (t ∷ ts) = task_offer number t ∷ task_offers (number + 1) ts

abbrev pub flow_offer : ℕ → Headed → Offer
flow_offer number h = record { name = h.flow.workflow.name.name; target = target.Flow number; inputs = h.head.inputs; outputs = h.head.outputs }

abbrev pub flow_offers : ℕ → List Headed → List Offer
flow_offers number [] = []
flow_offers number (h ∷ hs) = flow_offer number h ∷ flow_offers (number + 1) hs

-- ---- by document

-- the tasks of a document, and with them its workflow
pub record Table : Type 0 where
  pub own : List Offer
  pub all : List Offer

abbrev pub table : List Offer → List Offer → Table
table own flows = record { own = own; all = own ++ flows }

-- What each document offers: the tasks and workflows stand by document, in the order of the text.
abbrev pub tables : List Part → List Offer → List Offer → List Table
tables [] ts fs = []
tables (p ∷ ps) ts fs =
    table (take (length (tasks_in p.sections)) ts) (take (length (workflows_in p.sections)) fs)
    ∷ tables ps (drop (length (tasks_in p.sections)) ts) (drop (length (workflows_in p.sections)) fs)

-- ---- what a document reaches

abbrev pub own_at : Option Table → List Offer
own_at None = []
own_at (Some t) = t.own

abbrev pub space_at : List ℕ → Option Table → List Space
space_at name None = []
space_at name (Some t) = record { name = name; offers = t.all } ∷ []

abbrev pub spaces : List Table → List Link → List Space
spaces ts [] = []
spaces ts (l ∷ ls) = space_at l.namespace (slice_get ts l.doc) ++ spaces ts ls
