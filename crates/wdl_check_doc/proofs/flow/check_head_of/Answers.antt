use Rattle.wdl_check_doc.proofs.Lists.{answers_placed}
use Rattle.wdl_check_doc.proofs.flow.check_head_of.Goals as goal

pub returns : goal.returns
returns c =
    rw c.placed.ensures (answers_placed c.args.flow.now.part.number _ c.check_head.result (rw c.empty-calls.ensures at c.check_head.ensures))
