use Rattle.std.proofs.Common.{rules, arith}
use Rattle.std.proofs.lemmas.Grind.{common_steps}
use Rattle.token_reading.specs.Outcome.{then_}
use Rattle.token_reading.proofs.Turns.{one_more}
use Rattle.wdl_parse_parts.specs.Reading.Parts.{many_from}
use Rattle.wdl_parse_doc.proofs.part_list.many.Goals as goal

pub loop-turn-preserved : goal.loop-turn-preserved
unfolding many_from then_
loop-turn-preserved g c =
    let e = one_more (λ n. many_from (g.P.Part.reading) n c.loop-turn.parts c.loop-turn.tokens) _ c.loop-turn._turn c.loop-turn-test.true c.loop-turn.invariant in
    first_of (search rules, grind (arith, common_steps))
