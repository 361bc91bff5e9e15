use Rattle.std.proofs.Common.{◌≡◌, ◌++◌, drop, map}
use Rattle.wdl_bundle.specs.Called.{offer_of, space_of, spaces}
use Rattle.wdl_bundle.proofs.reach.spaces_of.Given as goal

abbrev pub invariant-loop-link : goal.invariant-loop-link
invariant-loop-link l = map space_of l.spaces.items ++ spaces (map (map offer_of) l.all) (drop l.link-index l.links) ≡ spaces (map (map offer_of) l.all) l.links
