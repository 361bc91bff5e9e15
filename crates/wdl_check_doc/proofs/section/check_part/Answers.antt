use Rattle.std.proofs.Common.{rules}
use Rattle.wdl_check_doc.proofs.Lists.{answers_placed}
use Rattle.wdl_check_doc.proofs.section.check_part.Goals as goal

pub returns : goal.returns
returns c = rw c.placed.ensures (answers_placed c.args.part.now.number _ c.check_sections.result (search rules))
