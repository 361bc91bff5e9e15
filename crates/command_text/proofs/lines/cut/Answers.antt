use Rattle.std.proofs.Common.{rules}
use Rattle.command_text.proofs.LineLaws.{after_indent}
use Rattle.command_text.proofs.lines.cut.Goals as goal

pub range_from-requires : goal.range_from-requires
range_from-requires c = after_indent c.args.line.now c.args.width c.utf8.line (c.requires (search rules))
