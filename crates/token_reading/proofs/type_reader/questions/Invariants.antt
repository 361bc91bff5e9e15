use Rattle.std.proofs.Common.{◌≡◌, ◌-◌}
use Rattle.token_reading.specs.TypeReading.{questions, questions_from}
use Rattle.token_reading.proofs.type_reader.questions.Given as goal

abbrev pub invariant-loop-turn : goal.invariant-loop-turn
invariant-loop-turn l = questions l.fn.tokens ≡ questions_from (l._turn-end - l._turn) l.questions l.tokens
