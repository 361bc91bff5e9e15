use Rattle.std.proofs.Common.{◌∙◌}
use Rattle.command_text.proofs.Indents.{narrowed_step}
use Rattle.command_text.proofs.lines.narrowed.Goals as goal

pub loop-line-preserved : goal.loop-line-preserved
loop-line-preserved c =
    narrowed_step c.loop-line.prefix.now c.narrow-prefix.result.now c.args.lines.now c.loop-line.line-index _
    c.loop-line-test.true c.narrow-prefix.ensures ∙ c.loop-line.invariant
