use Rattle.std.proofs.Common.{◌<◌, true, false, arith, sym, ◌∙◌, append-nil}
use Rattle.cwl_tool.proofs.Statuses.{one_among}
use Rattle.cwl_tool.proofs.codes.statuses_among.Goals as goal
use Rattle.cwl_tool.proofs.codes.statuses_among.Goals.{then-is_among+in_ok-push, else-is_among}

pub loop-status-preserved : goal.loop-status-preserved
loop-status-preserved c =
    let below : c.loop-status.status < 256 = omega (arith, c.loop-status-test.true) in
    elim c.if-is_among.branch [
      | then-is_among+in_ok-push w ↦
          one_among c.args.numbers.now c.loop-status.status 256 true c.loop-status.statuses c.if-is_among.statuses _ below
          (sym w.if-is_among.true ∙ c.is_among.ensures) (w.statuses-is ∙ w.in_ok-push.ensures.ok) c.loop-status.invariant
      | else-is_among w ↦
          one_among c.args.numbers.now c.loop-status.status 256 false c.loop-status.statuses c.if-is_among.statuses _ below
          (sym w.if-is_among.false ∙ c.is_among.ensures) (w.statuses-is ∙ sym (append-nil c.loop-status.statuses)) c.loop-status.invariant
    ]
