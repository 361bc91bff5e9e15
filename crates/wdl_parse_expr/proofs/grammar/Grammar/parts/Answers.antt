use Rattle.std.proofs.Common.{rules, arith}
use Rattle.std.proofs.lemmas.Grind.{common_steps}
use Rattle.token_reading.specs.Outcome.{then_}
use Rattle.wdl_parse_expr.specs.Reading.{expr, parts_from}
use Rattle.token_reading.proofs.Turns.{one_more}
use Rattle.wdl_parse_expr.proofs.grammar.Grammar.parts.Goals as goal

pub loop-turn-preserved : goal.loop-turn-preserved
unfolding parts_from then_
loop-turn-preserved g c =
    let e = one_more (λ n. parts_from (expr c.args.self.now.depth) n c.loop-turn.parts c.loop-turn.inside c.loop-turn.tokens) _ c.loop-turn._turn c.loop-turn-test.true c.loop-turn.invariant in
    first_of (search rules, grind (arith, common_steps))
