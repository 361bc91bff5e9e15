use Rattle.command_text.proofs.Indents.{common_whole}
use Rattle.command_text.proofs.lines.common.Goals as goal

pub returns : goal.returns
returns c =
    common_whole c.args.left.now c.args.right.now c.loop-at.at c.min-most.result c.min-most.ensures c.loop-at.auto.at-end
    c.loop-at-test.false c.loop-at.invariant
