use Rattle.std.proofs.Common.{rules, arith}
use Rattle.std.proofs.lemmas.Grind.{common_steps}
use Rattle.token_reading.specs.Outcome.{found}
use Rattle.token_reading.specs.TypeReading.{questions_from}
use Rattle.token_reading.proofs.Turns.{one_more}
use Rattle.token_reading.proofs.type_reader.questions.Goals as goal

pub loop-turn-preserved : goal.loop-turn-preserved
unfolding questions_from found
loop-turn-preserved c =
    let e = one_more (λ n. questions_from n c.loop-turn.questions c.loop-turn.tokens) _ c.loop-turn._turn c.loop-turn-test.true c.loop-turn.invariant in
    first_of (search rules, grind (arith, common_steps))
