use Rattle.std.proofs.Common.{rules}
use Rattle.wdl_check_doc.proofs.Main.{main_some}
use Rattle.wdl_check_doc.proofs.checked.main_of.Goals as goal

pub returns : goal.returns
returns c = main_some c.args.parts.now c.in_ok-first.first.now (search rules) c.count_flows.result (search rules) c.if-count_flows-eq0.false
