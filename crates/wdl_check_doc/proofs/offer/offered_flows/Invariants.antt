use Rattle.std.proofs.Common.{◌≡◌, ◌++◌, drop, map}
use Rattle.wdl_check_doc.specs.Offered.{offer_of}
use Rattle.wdl_check_doc.specs.Offers.{flow_offers}
use Rattle.wdl_check_doc.specs.Runnables.{headed_of}
use Rattle.wdl_check_doc.proofs.offer.offered_flows.Given as goal

abbrev pub invariant-loop-headed : goal.invariant-loop-headed
invariant-loop-headed l = map offer_of l.all.items ++ flow_offers l.number (map headed_of (drop l.headed-index l.heads)) ≡ flow_offers 0 (map headed_of l.heads)
