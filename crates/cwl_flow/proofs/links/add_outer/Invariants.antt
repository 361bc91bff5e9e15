use Rattle.std.proofs.Common.{◌≡◌, ◌++◌, map, take}
use Rattle.cwl_image.specs.Image.{block_output, linkage_of}
use Rattle.cwl_flow.specs.Blocks.{outer_type}
use Rattle.cwl_flow.proofs.links.add_outer.Given as goal

abbrev pub invariant-loop-link : goal.invariant-loop-link
invariant-loop-link l = l.links ≡ l.initial.links ++ map (linkage_of l.step) (map (block_output (outer_type l.kind)) (take l.link-index l.inner))
