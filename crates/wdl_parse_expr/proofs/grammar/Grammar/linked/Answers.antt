use Rattle.token_reading.specs.Outcome.{linked}
use Rattle.wdl_parse_expr.proofs.Told.{still_fails}
use Rattle.wdl_parse_expr.proofs.grammar.Grammar.linked.Goals as goal

pub returns-in-Err : goal.returns-in-Err
returns-in-Err g c = λ chain ts. still_fails chain (linked c.args.self.now.depth c.args.span c.args.links c.args.inside c.args.tree ts) c.in-Err.stop (c.in-Err.ensures ts)
