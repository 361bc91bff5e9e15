use Rattle.wdl_check_doc.proofs.Made.{parts_kept}
use Rattle.wdl_check_doc.proofs.Within.{answer_placed}
use Rattle.wdl_check_doc.proofs.library.check.Goals as goal

pub new-requires : goal.new-requires
new-requires c = record {
  kept = parts_kept c.args.library.now.docs c.args.library.now.structs c.in-Ok.parts c.args.library.now.linked c.args.library.now.named c.in-Ok.ensures;
}

pub returns-in-Err-clause-place : goal.returns-in-Err-clause-place
returns-in-Err-clause-place c = answer_placed c.args.library.now.docs c.args.library.now.structs c.in-Err.fault c.in-Err.ensures
