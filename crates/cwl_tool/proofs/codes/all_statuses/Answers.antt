use Rattle.std.proofs.Common.{◌<◌, arith}
use Rattle.cwl_tool.proofs.Statuses.{one_more}
use Rattle.cwl_tool.proofs.codes.all_statuses.Goals as goal

pub loop-status-preserved : goal.loop-status-preserved
loop-status-preserved c =
    let below : c.loop-status.status < 256 = omega (arith, c.loop-status-test.true) in
    one_more c.loop-status.status 256 c.loop-status.statuses c.push.new.self _ below c.in_ok-push.ensures.ok c.loop-status.invariant
