use Rattle.std.proofs.Common.{take, drop}
use Rattle.wdl_sources.specs.Walks.{paths}
use Rattle.wdl_imports.specs.LinksTo.{AllLinks, AreNamed}
use Rattle.wdl_imports.proofs.link.all_links.Given as goal

abbrev pub invariant-loop-source : goal.invariant-loop-source
invariant-loop-source l = AllLinks (paths l.sources) (take l.source-index l.source-items) l.links × AreNamed (paths l.sources) (drop l.source-index l.source-items)
