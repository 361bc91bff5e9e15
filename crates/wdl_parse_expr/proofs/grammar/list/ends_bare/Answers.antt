use Rattle.std.proofs.Common.{◌∙◌, arith}
use Rattle.wdl_parse_expr.proofs.Ends.{by_last}
use Rattle.wdl_parse_expr.proofs.grammar.list.ends_bare.Goals as goal

pub returns-in-len1-up : goal.returns-in-len1-up
returns-in-len1-up c = c.is_none.ensures ∙ by_last c.args.items.now c.last-item.result (omega arith) c.last-item.is
