use Rattle.command_text.specs.Marks.{Fits}
use Rattle.command_text.proofs.LineLaws.{all_lent}
use Rattle.command_text.proofs.lines.append_cut.Goals as goal

pub cut-requires : goal.cut-requires
cut-requires c = all_lent (Fits c.args.width) c.args.lines.now c.requires c.loop-line.line-index _ c.loop-line-test.true
