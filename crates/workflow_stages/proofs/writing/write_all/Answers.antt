use Rattle.std.proofs.Common.{arith}
use Rattle.workflow_stages.proofs.ToldLemmas.{tell_more, whole_rest, rest_within}
use Rattle.workflow_stages.proofs.writing.write_all.Goals as goal

pub loop-at-preserved : goal.loop-at-preserved
loop-at-preserved g c = record {
  within = rest_within c.args.bytes.now c.loop-at.at c.in_ok-count.count c.loop-at.invariant.within c.in_ok-count.ensures.within;
  told = tell_more _ _ _ c.args.bytes.now c.loop-at.at c.in_ok-count.count _ c.in_ok-count.ensures.bytes c.loop-at.invariant.told (whole_rest c.args.bytes.now c.loop-at.at);
  later = let h = c.write.ensures.cause.later in omega arith;
}
