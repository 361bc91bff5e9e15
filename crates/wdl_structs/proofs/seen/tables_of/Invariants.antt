use Rattle.wdl_links.specs.Circles.{unmarked}
use Rattle.wdl_structs.proofs.SeenLaws.{AreFound}
use Rattle.wdl_structs.proofs.seen.tables_of.Given as goal

abbrev pub invariant-loop-k : goal.invariant-loop-k
invariant-loop-k l = AreFound l.docs l.tables l.marks

abbrev pub decreases-loop-k : goal.decreases-loop-k
decreases-loop-k l = unmarked l.marks
