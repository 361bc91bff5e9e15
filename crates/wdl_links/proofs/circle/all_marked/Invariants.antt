use Rattle.std.proofs.Common.{◌≡◌, drop}
use Rattle.wdl_links.specs.Circles.{all_marked}
use Rattle.wdl_links.proofs.circle.all_marked.Given as goal

abbrev pub invariant-loop-link : goal.invariant-loop-link
invariant-loop-link l = all_marked l.marks (drop l.link-index l.links) ≡ all_marked l.marks l.links
