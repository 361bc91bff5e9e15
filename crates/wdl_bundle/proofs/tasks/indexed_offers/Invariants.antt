use Rattle.std.proofs.Common.{◌≡◌, ◌++◌, drop, map}
use Rattle.wdl_bundle.specs.Called.{offer_of}
use Rattle.wdl_bundle.proofs.tasks.indexed_offers.Given as goal

abbrev pub invariant-loop-offers : goal.invariant-loop-offers
invariant-loop-offers l = map (map offer_of) l.indices.items ++ map (λ os. map offer_of os.items) (drop l.offers-index l.all) ≡ map (λ os. map offer_of os.items) l.all
