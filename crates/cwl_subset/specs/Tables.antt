-- Tables of the lowest broken rules of tasks and of workflows.
use Rattle.std.specs.Prelude.{ℕ, zero, suc, List, [], ◌∷◌, Option, Some, None, map, slice_get}
use Rattle.wdl_value.specs.Fits.{Structs}
use Rattle.wdl_typed.specs.declared.flow.FlowDef.{FlowDef}
use Rattle.wdl_typed.specs.declared.flow.Statement.{Statement, Statement-F, fold-Statement}
use Rattle.wdl_typed.specs.declared.flow.Statement.TheOpen as layer
use Rattle.wdl_typed.specs.declared.flow.Target.{Target}
use Rattle.wdl_typed.specs.declared.flow.Target.TheVariants as target
use Rattle.wdl_typed.specs.declared.task.TaskDef.{TaskDef}
use Rattle.wdl_typed.specs.Bodies.{Library}
use Rattle.cwl_image.specs.declared.broken.Broken.{Broken}
use Rattle.cwl_image.specs.Subset.{flow_broken, task_broken}
use Rattle.cwl_rules.specs.Lowest.{lower, lowest}

abbrev pub Table : Type 0
Table = List (Option Broken)

abbrev pub entry : Option (Option Broken) → Option Broken
entry None = None
entry (Some b) = b

-- of what a call names, by a table of the tasks and one of the workflows
abbrev pub target_entry : Table → Table → Target → Option Broken
target_entry tasks flows (target.Task k) = entry (slice_get tasks k)
target_entry tasks flows (target.Flow k) = entry (slice_get flows k)

abbrev pub all_lower : Table → Option Broken
all_lower [] = None
all_lower (b ∷ bs) = lower b (all_lower bs)

abbrev pub called_step : (Target → Option Broken) → Statement-F (Option Broken) → Option Broken
called_step targets (layer.Decl d) = None
called_step targets (layer.Call c) = targets c.target
called_step targets (layer.Scatter s) = all_lower s.body
called_step targets (layer.If i) = all_lower i.body

abbrev pub called_by : (Target → Option Broken) → Statement → Option Broken
called_by targets = fold-Statement (Option Broken) (called_step targets)

-- the lowest of what the statements call
abbrev pub called_entry : (Target → Option Broken) → List Statement → Option Broken
called_entry targets ss = all_lower (map (called_by targets) ss)

-- the next table of the workflows, by what each breaks itself
abbrev pub next_table : (Target → Option Broken) → List FlowDef → Table → Table
next_table targets [] own = []
next_table targets (f ∷ fs) [] = []
next_table targets (f ∷ fs) (o ∷ own) = lower o (called_entry targets f.body) ∷ next_table targets fs own

abbrev pub first_table : List FlowDef → Table
first_table flows = map (λ (f : FlowDef). None) flows

abbrev pub task_table : Structs → List TaskDef → Table
task_table structs tasks = map (λ (t : TaskDef). lowest (task_broken structs t)) tasks

abbrev pub own_table : Library → List FlowDef → Table
own_table lib flows = map (λ (f : FlowDef). lowest (flow_broken lib f)) flows

-- the table of the workflows to a depth
unfoldable pub table_at : List FlowDef → Table → Table → ℕ → Table
table_at flows own tasks zero = first_table flows
table_at flows own tasks (suc depth) = next_table (target_entry tasks (table_at flows own tasks depth)) flows own
