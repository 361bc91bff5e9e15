use Rattle.std.proofs.lemmas.Iterator.Adapters.{items_from_extend}
use Rattle.std.specs.Char.Escape.{escape_default}
use Rattle.shown_text.proofs.Escapes.{from_escape}
use Rattle.shown_text.proofs.push_escape.Goals as goal

pub returns : goal.returns
returns c = items_from_extend c.extend.result c.extend.ensures.ran (from_escape (escape_default c.args.c) c.escape_default.ensures.rest)
