use Rattle.std.proofs.Common.{Ok, Some, None, ap, sym, ◌∙◌}
use Rattle.wdl_parse_expr.specs.Reading.{expr, suffix, turns}
use Rattle.token_reading.proofs.Turns.{one_more}
use Rattle.token_reading.proofs.Steps.{then_is}
use Rattle.wdl_parse_expr.proofs.Told.{told_none, told_some}
use Rattle.wdl_parse_expr.proofs.grammar.Grammar.post.Goals as goal

pub returns-then-not-more : goal.returns-then-not-more
unfolding turns
returns-then-not-more g c =
    let next = suffix c.args.self.now.depth (expr c.args.self.now.depth) in
    let e = one_more (λ n. turns next n c.loop-turn.chain c.loop-turn.tokens) _ c.loop-turn._turn c.loop-turn-test.true c.loop-turn.invariant in
    let f = told_none c.loop-turn.chain c.in_ok-longer.longer c.in_ok-longer.more (next c.loop-turn.chain c.loop-turn.tokens) c.suffix.new.tokens c.in_ok-longer.ensures c.if-not-more.true in
    e ∙ then_is _ _ (None, c.suffix.new.tokens) f.0 ∙ ap (λ z. Ok (z.left, c.suffix.new.tokens)) (sym f.1)

pub loop-turn-preserved : goal.loop-turn-preserved
unfolding turns
loop-turn-preserved g c =
    let next = suffix c.args.self.now.depth (expr c.args.self.now.depth) in
    let e = one_more (λ n. turns next n c.loop-turn.chain c.loop-turn.tokens) _ c.loop-turn._turn c.loop-turn-test.true c.loop-turn.invariant in
    let f = told_some c.loop-turn.chain c.in_ok-longer.longer c.in_ok-longer.more (next c.loop-turn.chain c.loop-turn.tokens) c.suffix.new.tokens c.in_ok-longer.ensures c.if-not-more.false in
    e ∙ then_is _ _ (Some c.in_ok-longer.longer, c.suffix.new.tokens) f
