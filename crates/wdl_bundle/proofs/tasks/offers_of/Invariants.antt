use Rattle.std.proofs.Common.{◌≡◌, ◌++◌, drop, map}
use Rattle.wdl_bundle.specs.Called.{offer_of, offers_from}
use Rattle.wdl_bundle.proofs.tasks.offers_of.Given as goal

abbrev pub invariant-loop-section : goal.invariant-loop-section
invariant-loop-section l = map offer_of l.offers.items ++ offers_from l.at (drop l.section-index l.sections) ≡ offers_from l.first l.sections
