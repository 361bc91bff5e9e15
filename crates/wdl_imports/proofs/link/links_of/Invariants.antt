use Rattle.std.proofs.Common.{◌≡◌, true, take, drop, map}
use Rattle.std.specs.List.{AllZip}
use Rattle.wdl_sources.specs.Walks.{paths}
use Rattle.wdl_imports.specs.LinksTo.{IsFor, all_among}
use Rattle.wdl_imports.proofs.link.links_of.Given as goal

abbrev pub invariant-loop-want : goal.invariant-loop-want
invariant-loop-want l =
    AllZip (IsFor (paths l.sources)) (take l.want-index l.want-items) l.links
    × (all_among (paths l.sources) (map (λ w. w.path) (drop l.want-index l.want-items)) ≡ true)
