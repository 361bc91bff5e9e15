use Rattle.std.proofs.Common.{◌≡◌, ◌++◌, drop, map}
use Rattle.wdl_check_flow.specs.Targets.{offer_of}
use Rattle.wdl_check_doc.specs.Offered.{offer_of as held}
use Rattle.wdl_check_doc.proofs.offer.callables_of.Given as goal

abbrev pub invariant-loop-offer : goal.invariant-loop-offer
invariant-loop-offer l = map offer_of l.callables.items ++ map held (drop l.offer-index l.offers) ≡ map held l.offers
