use Rattle.std.proofs.Common.{rules}
use Rattle.wdl_check_doc.proofs.Lists.{answers_placed}
use Rattle.wdl_check_doc.proofs.nesting.check_flow.Goals as goal

pub returns : goal.returns
returns c = rw c.placed.ensures (answers_placed c.args.flow.now.span.doc _ c.check_body.result (search rules))
