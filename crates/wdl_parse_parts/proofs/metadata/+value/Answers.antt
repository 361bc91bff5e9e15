use Rattle.std.proofs.Common.{◌≡◌, arith}
use Rattle.token_reading.proofs.Turns.{deeper}
use Rattle.wdl_parse_parts.specs.Reading.Metadata.{meta_at}
use Rattle.wdl_parse_parts.proofs.metadata.+value.Goals as goal

pub returns-then-depth-eq0 : goal.returns-then-depth-eq0
unfolding meta_at
returns-then-depth-eq0 t c = let none : c.args.depth ≡ 0 = omega arith in rw none c.too_deep.ensures

pub returns : goal.returns
unfolding meta_at
returns t c = rw (deeper (λ n. meta_at n c.args.tokens.now) c.args.depth (omega arith)) c.value.ensures
