use Rattle.wdl_check_types.proofs.OutcomeLaws.{then_ok}
use Rattle.wdl_check_decls.specs.Expressions.{world}
use Rattle.wdl_check_task.specs.Tasks.{with_outputs, work_typed}
use Rattle.wdl_check_task.proofs.task.after_head.Goals as goal

pub returns-in-Ok : goal.returns-in-Ok
returns-in-Ok c =
    let w = world c.args.seeing.now in
    let names = c.args.names.now in
    let t = c.args.section.now in
    then_ok (work_typed w names t) (with_outputs w names t c.args.head) c.in-Ok.work _ c.in-Ok.ensures c.with_outputs.ensures
