use Rattle.std.proofs.Common.{arith}
use Rattle.std.proofs.lemmas.Grind.{text_groups}
use Rattle.wdl_stdlib.proofs.maps.groups_of.Goals as goal

pub loop-pair-preserved : goal.loop-pair-preserved
loop-pair-preserved c = λ q. (grind (arith, text_groups, c.loop-pair.invariant q), grind (arith, text_groups, c.loop-pair.invariant q))
