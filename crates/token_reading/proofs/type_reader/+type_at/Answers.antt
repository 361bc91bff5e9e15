use Rattle.std.proofs.Common.{◌≡◌, arith}
use Rattle.token_reading.specs.TypeReading.{type_at}
use Rattle.token_reading.proofs.Turns.{deeper}
use Rattle.token_reading.proofs.type_reader.+type_at.Goals as goal

pub returns-then-depth-eq0 : goal.returns-then-depth-eq0
unfolding type_at
returns-then-depth-eq0 t c = let none : c.args.depth ≡ 0 = omega arith in rw none c.too_deep.ensures

pub returns : goal.returns
unfolding type_at
returns t c = rw (deeper (λ n. type_at n c.args.tokens.now) c.args.depth (omega arith)) c.whole.ensures
