use Rattle.wdl_check_types.proofs.OutcomeLaws.{then_ok}
use Rattle.wdl_check_decls.specs.Expressions.{world}
use Rattle.wdl_check_task.specs.Tasks.{after_head, head_bound, head_typed}
use Rattle.wdl_check_task.proofs.task.check_sections.Goals as goal

pub returns : goal.returns
returns c =
    let w = world c.args.seeing.now in
    let t = c.args.section.now in
    then_ok (head_typed w t) (λ h. after_head w (head_bound h) t h) c.in_ok-head.head _ c.in_ok-head.ensures.value
    (rw c.in_ok-head.ensures.names at c.after_head.ensures)
