use Rattle.wdl_check_doc.proofs.Lists.{answers_placed}
use Rattle.wdl_check_doc.proofs.task.check_task_in.Goals as goal

pub returns : goal.returns
returns c =
    rw c.placed.ensures (answers_placed c.args.task.now.part.number _ c.check_task.result (rw c.empty-calls.ensures at c.check_task.ensures.typing))
