use Rattle.std.proofs.Common.{◌∙◌}
use Rattle.library_calls.proofs.Places.{to_end}
use Rattle.library_calls.proofs.parsing.cursor_at.Goals as goal

pub returns : goal.returns
returns c = c.new.ensures ∙ to_end c.args.tokens.now c.args.at
