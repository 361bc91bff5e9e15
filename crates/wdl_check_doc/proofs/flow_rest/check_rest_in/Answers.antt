use Rattle.wdl_check_doc.proofs.Lists.{answers_placed}
use Rattle.wdl_check_doc.proofs.flow_rest.check_rest_in.Goals as goal

pub returns : goal.returns
returns c =
    rw c.placed.ensures
    (answers_placed c.args.headed.now.flow.part.number _ c.check_rest_with.result
    (rw (c.as_slice-2.ensures.value, c.as_slice-3.ensures.value, c.in_ok-own.ensures, c.in_ok-spaces.ensures, c.as_slice.ensures) at c.check_rest_with.ensures))
