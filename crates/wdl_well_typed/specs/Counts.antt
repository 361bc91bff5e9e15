-- How much a library has in all, kind by kind.
use Rattle.std.specs.Prelude.{ℕ, ◌+◌, List, length, map}
use Rattle.wdl_typed.specs.declared.flow.FlowDef.{FlowDef}
use Rattle.wdl_typed.specs.declared.flow.Statement.{Statement, fold-Statement}
use Rattle.wdl_typed.specs.declared.task.TaskDef.{TaskDef}
use Rattle.wdl_typed.specs.Kept.{count_statements, count_step, sum_of}

abbrev pub statement_count : Statement → ℕ
statement_count = fold-Statement ℕ count_step

abbrev pub bodies_count : List FlowDef → ℕ
bodies_count flows = sum_of (map (λ (f : FlowDef). count_statements f.body) flows)

abbrev pub commands_count : List TaskDef → ℕ
commands_count tasks = sum_of (map (λ (t : TaskDef). length t.command) tasks)

abbrev pub count_of : List TaskDef → List FlowDef → ℕ
count_of tasks flows = length tasks + length flows + commands_count tasks + bodies_count flows
