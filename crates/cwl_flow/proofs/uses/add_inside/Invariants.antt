use Rattle.std.proofs.Common.{◌≡◌, ◌++◌, take}
use Rattle.cwl_image.specs.Image.{keys_of}
use Rattle.cwl_flow.proofs.uses.add_inside.Given as goal

abbrev pub invariant-loop-link : goal.invariant-loop-link
invariant-loop-link l = l.inside ≡ l.initial.inside ++ keys_of (take l.link-index l.link-items)
