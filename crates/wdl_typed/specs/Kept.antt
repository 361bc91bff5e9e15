-- What a checked form keeps.
use Rattle.std.specs.Prelude.{ℕ, Bool, true, false, ◌&&◌, ◌+◌, ◌^◌, nat_lt, List, [], ◌∷◌, ◌++◌, Option, Some, None, length, map}
use Rattle.std.specs.List.{list_all}
use Rattle.wdl_value.specs.Fits.{Structs}
use Rattle.wdl_typed.specs.declared.flow.FlowDef.{FlowDef}
use Rattle.wdl_typed.specs.declared.flow.Statement.{Statement, Statement-F, fold-Statement}
use Rattle.wdl_typed.specs.declared.flow.Statement.TheOpen as layer
use Rattle.wdl_typed.specs.declared.task.TaskDef.{TaskDef}
use Rattle.wdl_typed.specs.Bodies.{Library, Seen, all_declared, body_gives, body_nests, is_numbered, items_differ}
use Rattle.wdl_typed.specs.Declarations.{decl_names, decls_typed, in_body, input_names, inputs_bound, inputs_typed, task_typed}
use Rattle.wdl_typed.specs.KnownTypes.{are_structs}
use Rattle.wdl_typed.specs.Lists.{are_distinct}

-- what a body sees at its beginning
abbrev pub inputs_seen : FlowDef → Seen
inputs_seen f = record { names = inputs_bound f.inputs; calls = [] }

-- outputs see the inputs and what the body gives out
abbrev pub outputs_typed : Structs → FlowDef → Option Seen → Bool
outputs_typed structs f None = false
outputs_typed structs f (Some s) = decls_typed (in_body structs) structs (inputs_bound f.inputs ++ s.names) f.outputs

abbrev pub flow_names : FlowDef → List (List ℕ)
flow_names f = input_names f.inputs ++ all_declared f.body ++ decl_names f.outputs

abbrev pub flow_typed : Library → FlowDef → Bool
flow_typed lib f =
    are_distinct (flow_names f)
    && items_differ f.body (flow_names f)
    && is_numbered f.body
    && body_nests lib.flows 24 f.body
    && inputs_typed lib.structs [] f.inputs
    && outputs_typed lib.structs f (body_gives lib f.body (inputs_seen f))

abbrev pub main_is_there : List FlowDef → Option ℕ → Bool
main_is_there flows None = true
main_is_there flows (Some k) = nat_lt k (length flows)

-- ---- counts

abbrev pub sum_of : List ℕ → ℕ
sum_of [] = 0
sum_of (n ∷ ns) = n + sum_of ns

abbrev pub count_step : Statement-F ℕ → ℕ
count_step (layer.Decl d) = 1
count_step (layer.Call c) = 1
count_step (layer.Scatter s) = 1 + sum_of s.body
count_step (layer.If i) = 1 + sum_of i.body

-- the statements, those of the bodies in them too
abbrev pub count_statements : List Statement → ℕ
count_statements ss = sum_of (map (fold-Statement ℕ count_step) ss)

-- the tasks, workflows, statements and parts of commands
abbrev pub count : Library → ℕ
count lib =
    length lib.tasks + length lib.flows
    + sum_of (map (λ (t : TaskDef). length t.command) lib.tasks)
    + sum_of (map (λ (f : FlowDef). count_statements f.body) lib.flows)

-- The structs, tasks and workflows are well typed, and the main workflow is one of them.
abbrev pub is_checked : Library → Option ℕ → Bool
is_checked lib main =
    are_structs lib.structs
    && list_all (task_typed lib.structs) lib.tasks
    && list_all (flow_typed lib) lib.flows
    && main_is_there lib.flows main
    && nat_lt (count lib) (2 ^ 32)
