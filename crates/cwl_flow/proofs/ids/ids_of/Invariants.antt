use Rattle.std.proofs.Common.{◌≡◌, map, take}
use Rattle.cwl_flow.specs.Blocks.{link_id}
use Rattle.cwl_flow.proofs.ids.ids_of.Given as goal

abbrev pub invariant-loop-link : goal.invariant-loop-link
invariant-loop-link l = l.ids ≡ map link_id (take l.link-index l.links)
