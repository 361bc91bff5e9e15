-- The names and calls that statements give out, whatever the table of answers.
use Rattle.std.specs.Prelude.{ℕ, List, [], ◌∷◌, ◌++◌, Option, Some, None, map, slice_get}
use Rattle.wdl_base.specs.declared.name.Key.{Key}
use Rattle.wdl_typed.specs.declared.flow.FlowDef.{FlowDef}
use Rattle.wdl_typed.specs.declared.flow.Statement.{Statement, Statement-F, fold-Statement}
use Rattle.wdl_typed.specs.declared.flow.Statement.TheOpen as layer
use Rattle.wdl_typed.specs.declared.flow.Target.{Target}
use Rattle.wdl_typed.specs.declared.flow.Target.TheVariants as target
use Rattle.wdl_typed.specs.declared.task.TDecl.{TDecl}
use Rattle.wdl_typed.specs.declared.task.TaskDef.{TaskDef}
use Rattle.wdl_typed.specs.Declarations.{plain_key}
use Rattle.wdl_typed.specs.Flow.{Names, all_given, output_keys}

abbrev pub output_key : List ℕ → List ℕ → Key
output_key call name = record { first = call; second = Some name }

abbrev pub task_outputs : Option TaskDef → List TDecl
task_outputs None = []
task_outputs (Some t) = t.outputs

abbrev pub flow_outputs : Option FlowDef → List TDecl
flow_outputs None = []
flow_outputs (Some f) = f.outputs

abbrev pub outputs_of : List TaskDef → List FlowDef → Target → List TDecl
outputs_of tasks flows (target.Task k) = task_outputs (slice_get tasks k)
outputs_of tasks flows (target.Flow k) = flow_outputs (slice_get flows k)

abbrev pub none : Names
none = record { keys = []; calls = [] }

abbrev pub both : Names → Names → Names
both m n = record { keys = m.keys ++ n.keys; calls = m.calls ++ n.calls }

abbrev pub with_decl : Names → List ℕ → Names
with_decl n name = record { keys = n.keys ++ plain_key name ∷ []; calls = n.calls }

abbrev pub with_call : Names → List ℕ → List TDecl → Names
with_call n call outputs = record { keys = n.keys ++ output_keys call outputs; calls = n.calls ++ call ∷ [] }

abbrev pub names_step : List TaskDef → List FlowDef → Statement-F Names → Names
names_step tasks flows (layer.Decl d) = with_decl none d.name
names_step tasks flows (layer.Call c) = with_call none c.name (outputs_of tasks flows c.target)
names_step tasks flows (layer.Scatter s) = all_given s.body
names_step tasks flows (layer.If i) = all_given i.body

abbrev pub names_in : List TaskDef → List FlowDef → Statement → Names
names_in tasks flows = fold-Statement Names (names_step tasks flows)

abbrev pub all_names : List TaskDef → List FlowDef → List Statement → Names
all_names tasks flows ss = all_given (map (names_in tasks flows) ss)
