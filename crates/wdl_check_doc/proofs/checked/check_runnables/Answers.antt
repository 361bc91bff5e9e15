use Rattle.std.proofs.Common.{[], List, Err, map, rules}
use Rattle.wdl_typed.specs.declared.flow.FlowDef.{FlowDef}
use Rattle.wdl_typed.specs.declared.task.TaskDef.{TaskDef}
use Rattle.wdl_check_types.specs.Outcome.{Answers, done, then_}
use Rattle.wdl_check_types.proofs.OutcomeLaws.{then_err, then_ok}
use Rattle.wdl_check_doc.specs.Checked.{checked_parts, main_of, runnables_typed}
use Rattle.wdl_check_doc.specs.Flows.{flows_nest, flows_typed}
use Rattle.wdl_check_doc.specs.Outcomes.{each}
use Rattle.wdl_check_doc.specs.Parts.{part_of}
use Rattle.wdl_check_doc.specs.Runnables.{task_in, tasks_of}
use Rattle.wdl_check_doc.proofs.checked.check_runnables.Goals as goal

pub returns-in_err-flows : goal.returns-in_err-flows
returns-in_err-flows c =
    let structs = c.args.structs.now in
    let ps = map part_of c.args.parts.now in
    let tasks = c.in_ok-tasks-2.tasks in
    let h : Answers (runnables_typed structs ps) (Err c.in_err-flows.field-0.0) =
    then_ok (each (task_in structs) [] (tasks_of ps))
    (λ (ts : List TaskDef). then_ (flows_typed structs ps ts) (λ fs. then_ (flows_nest fs) (λ u. done (checked_parts structs ts fs (main_of ps))))) tasks (Err c.in_err-flows.field-0.0)
    (search rules)
    (then_err (flows_typed structs ps tasks) (λ (fs : List FlowDef). then_ (flows_nest fs) (λ u. done (checked_parts structs tasks fs (main_of ps)))) c.in_err-flows.field-0.0 (search rules)) in
    search rules

pub returns-in_err-check_nesting : goal.returns-in_err-check_nesting
returns-in_err-check_nesting c =
    let structs = c.args.structs.now in
    let ps = map part_of c.args.parts.now in
    let tasks = c.in_ok-tasks-2.tasks in
    let flows = c.in_ok-flows.flows in
    let h : Answers (runnables_typed structs ps) (Err c.in_err-check_nesting.field-0.0) =
    then_ok (each (task_in structs) [] (tasks_of ps))
    (λ (ts : List TaskDef). then_ (flows_typed structs ps ts) (λ fs. then_ (flows_nest fs) (λ u. done (checked_parts structs ts fs (main_of ps))))) tasks (Err c.in_err-check_nesting.field-0.0)
    (search rules)
    (then_ok (flows_typed structs ps tasks) (λ (fs : List FlowDef). then_ (flows_nest fs) (λ u. done (checked_parts structs tasks fs (main_of ps)))) flows (Err c.in_err-check_nesting.field-0.0)
    (search rules)
    (then_err (flows_nest flows) (λ u. done (checked_parts structs tasks flows (main_of ps))) c.in_err-check_nesting.field-0.0 (search rules))) in
    search rules
