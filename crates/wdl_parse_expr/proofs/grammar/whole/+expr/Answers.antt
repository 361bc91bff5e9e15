use Rattle.std.proofs.Common.{◌≡◌, arith}
use Rattle.wdl_parse_expr.specs.Reading.{expr}
use Rattle.token_reading.proofs.Turns.{deeper}
use Rattle.wdl_parse_expr.proofs.grammar.whole.+expr.Goals as goal

pub returns-then-depth-eq0 : goal.returns-then-depth-eq0
unfolding expr
returns-then-depth-eq0 t c = let none : c.args.depth ≡ 0 = omega arith in rw none c.too_deep.ensures

pub returns : goal.returns
unfolding expr
returns t c = rw (deeper (λ n. expr n c.args.rule c.args.tokens.now) c.args.depth (omega arith)) c.of_rule.ensures
