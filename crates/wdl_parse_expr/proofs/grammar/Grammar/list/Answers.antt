use Rattle.std.proofs.Common.{rules, arith}
use Rattle.std.proofs.lemmas.Grind.{common_steps}
use Rattle.token_reading.specs.Outcome.{then_, found}
use Rattle.wdl_parse_expr.specs.Reading.{list_from}
use Rattle.token_reading.proofs.Turns.{one_more}
use Rattle.wdl_parse_expr.proofs.grammar.Grammar.list.Goals as goal

pub returns-in_err-item : goal.returns-in_err-item
unfolding list_from then_ found
returns-in_err-item g c =
    let e = one_more (λ n. list_from (g.E.Element.reading c.args.self.now.depth) c.args.close n c.loop-turn.items c.loop-turn.inside c.loop-turn.tokens) _ c.loop-turn._turn c.loop-turn-test.true c.loop-turn.invariant in
    first_of (search rules, grind (arith, common_steps))

pub returns-in-None : goal.returns-in-None
unfolding list_from then_ found
returns-in-None g c =
    let e = one_more (λ n. list_from (g.E.Element.reading c.args.self.now.depth) c.args.close n c.loop-turn.items c.loop-turn.inside c.loop-turn.tokens) _ c.loop-turn._turn c.loop-turn-test.true c.loop-turn.invariant in
    first_of (search rules, grind (arith, common_steps))

pub loop-turn-preserved : goal.loop-turn-preserved
unfolding list_from then_ found
loop-turn-preserved g c =
    let e = one_more (λ n. list_from (g.E.Element.reading c.args.self.now.depth) c.args.close n c.loop-turn.items c.loop-turn.inside c.loop-turn.tokens) _ c.loop-turn._turn c.loop-turn-test.true c.loop-turn.invariant in
    first_of (search rules, grind (arith, common_steps))
