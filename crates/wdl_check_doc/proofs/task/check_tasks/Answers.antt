use Rattle.std.proofs.Common.{◌+◌, ap, drop, map, rules}
use Rattle.wdl_check_doc.specs.Runnables.{task_of}
use Rattle.wdl_check_doc.proofs.Lists.{each_end, each_err, each_on_to, drop_end}
use Rattle.wdl_check_doc.proofs.task.check_tasks.Goals as goal
use Rattle.wdl_check_rules.proofs.MemberLaws.{at_front as drop_at}

pub returns-in_err-check_task_in : goal.returns-in_err-check_task_in
returns-in_err-check_task_in c =
    let h = each_err _ c.loop-task.typed (map task_of (drop c.loop-task.task-index c.args.tasks.now)) (task_of c.task-item.result) (map task_of (drop (c.loop-task.task-index + 1) c.args.tasks.now)) _ c.in_err-check_task_in.field-0.0
    (ap (map task_of) (drop_at c.args.tasks.now c.loop-task.task-index c.task-item.result c.loop-task-test.true c.task-item.is)) c.loop-task.invariant c.in_err-check_task_in.ensures in
    search rules

pub loop-task-preserved : goal.loop-task-preserved
loop-task-preserved c =
    each_on_to _ c.loop-task.typed c.push.new.self (map task_of (drop c.loop-task.task-index c.args.tasks.now)) (task_of c.task-item.result) (map task_of (drop (c.loop-task.task-index + 1) c.args.tasks.now)) _ c.in_ok-check_task_in.field-0 (search rules)
    (ap (map task_of) (drop_at c.args.tasks.now c.loop-task.task-index c.task-item.result c.loop-task-test.true c.task-item.is)) c.loop-task.invariant c.in_ok-check_task_in.ensures

pub returns : goal.returns
returns c = each_end _ _ _ _ (ap (map task_of) (drop_end c.args.tasks.now c.loop-task.task-index c.loop-task-test.false)) c.loop-task.invariant
