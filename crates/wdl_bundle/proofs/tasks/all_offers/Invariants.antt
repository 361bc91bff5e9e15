use Rattle.std.proofs.Common.{◌≡◌, ◌++◌, drop, map}
use Rattle.wdl_bundle.specs.Called.{all_offers, offer_of}
use Rattle.struct_names.specs.Known.{known_of}
use Rattle.wdl_bundle.proofs.tasks.all_offers.Given as goal

abbrev pub invariant-loop-known : goal.invariant-loop-known
invariant-loop-known l = map (λ os. map offer_of os.items) l.all.items ++ all_offers l.at (map known_of (drop l.known-index l.knowns)) ≡ all_offers 0 (map known_of l.knowns)
