use Rattle.std.proofs.Common.{◌≡◌, ◌++◌, drop, map}
use Rattle.wdl_bundle.specs.Called.{offer_of}
use Rattle.wdl_bundle.specs.TaskNames.{own_names}
use Rattle.wdl_bundle.proofs.names.own_names.Given as goal

abbrev pub invariant-loop-offer : goal.invariant-loop-offer
invariant-loop-offer l = l.words ++ own_names (map offer_of (drop l.offer-index l.offers)) ≡ own_names (map offer_of l.offers)
