use Rattle.wdl_links.specs.Circles.{unmarked}
use Rattle.wdl_links.proofs.CircleLemmas.{HasSeen}
use Rattle.wdl_links.proofs.circle.closing.Given as goal

abbrev pub invariant-walk : goal.invariant-walk
invariant-walk l = HasSeen l.docs l.marks l.seen l.at

abbrev pub decreases-walk : goal.decreases-walk
decreases-walk l = unmarked l.seen
