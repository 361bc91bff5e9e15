use Rattle.std.proofs.Common.{arith}
use Rattle.wdl_load.proofs.Lines.{one_line}
use Rattle.wdl_load.proofs.text.push_calls.Goals as goal

pub loop-number-preserved : goal.loop-number-preserved
loop-number-preserved c = one_line c.loop-number.number c.args.count _ _ _ (omega arith) c.in_ok-push_call.ensures c.loop-number.invariant
