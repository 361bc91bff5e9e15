use Rattle.std.proofs.Common.{rules}
use Rattle.wdl_paths.proofs.SegmentLemmas.{keeps_here, pops_last, pushes}
use Rattle.wdl_paths.proofs.segment.put.Goals as goal

pub returns-then-is_here : goal.returns-then-is_here
returns-then-is_here c = keeps_here _ _ (search rules)

pub returns-then-takes_last : goal.returns-then-takes_last
returns-then-takes_last c = pops_last _ _ c.pop.result _ c.pop.ensures.items (search rules) (search rules)

pub returns : goal.returns
returns c = search (rules, pushes)
