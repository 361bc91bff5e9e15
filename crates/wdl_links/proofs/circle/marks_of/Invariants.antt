use Rattle.std.proofs.Common.{◌≡◌, length}
use Rattle.wdl_links.specs.Circles.{AreEnds, marked, unmarked}
use Rattle.wdl_links.proofs.circle.marks_of.Given as goal

abbrev pub invariant-loop-k : goal.invariant-loop-k
invariant-loop-k l = (length l.marks ≡ length l.docs) × AreEnds (marked l.marks) l.docs l.marks

abbrev pub decreases-loop-k : goal.decreases-loop-k
decreases-loop-k l = unmarked l.marks
