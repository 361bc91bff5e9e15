use Rattle.std.proofs.Common.{rules}
use Rattle.wdl_paths.proofs.SegmentLemmas.{follows_more, follows_all}
use Rattle.wdl_paths.proofs.segment.put_folder.Goals as goal

pub segments-preserved : goal.segments-preserved
segments-preserved c =
    let l = c.segments in
    (search rules, follows_more _ _ _ _ c.in-Some.segment.now c.in-Some.more.now _ l.invariant.1 c.in-Some.ensures.0 c.in-Some.ensures.1 c.in_ok-put.ensures)

pub returns : goal.returns
returns c = follows_all _ _ _ _ c.segments.invariant.1 c.in_default.ensures
