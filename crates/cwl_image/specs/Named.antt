-- The names of a library, each of which is a NAME.
use Rattle.std.specs.Prelude.{ℕ, Bool, ◌&&◌, List, map}
use Rattle.std.specs.List.{list_all}
use Rattle.wdl_base.specs.Names.{is_name}
use Rattle.wdl_typed.specs.declared.flow.FlowDef.{FlowDef}
use Rattle.wdl_typed.specs.declared.flow.Statement.{Statement, Statement-F, fold-Statement}
use Rattle.wdl_typed.specs.declared.flow.Statement.TheOpen as layer
use Rattle.wdl_typed.specs.declared.task.TaskDef.{TaskDef}
use Rattle.wdl_typed.specs.Bodies.{Library, arg_names}
use Rattle.wdl_typed.specs.Declarations.{decl_names, input_names, task_names}

abbrev pub are_names : List (List ℕ) → Bool
are_names = list_all is_name

abbrev pub all_true : List Bool → Bool
all_true = list_all (λ b. b)

abbrev pub named_step : Statement-F Bool → Bool
named_step (layer.Decl d) = is_name d.name
named_step (layer.Call c) = is_name c.name && are_names (arg_names c.args)
named_step (layer.Scatter s) = is_name s.item && all_true s.body
named_step (layer.If i) = all_true i.body

-- the names of the declarations, calls, arguments and items in a statement
abbrev pub statement_named : Statement → Bool
statement_named = fold-Statement Bool named_step

abbrev pub body_named : List Statement → Bool
body_named ss = all_true (map statement_named ss)

abbrev pub task_named : TaskDef → Bool
task_named t = are_names (task_names t)

abbrev pub flow_named : FlowDef → Bool
flow_named f = are_names (input_names f.inputs) && body_named f.body && are_names (decl_names f.outputs)

-- Each name of the tasks and workflows is a NAME.
abbrev pub names_are_names : Library → Bool
names_are_names lib = list_all task_named lib.tasks && list_all flow_named lib.flows
