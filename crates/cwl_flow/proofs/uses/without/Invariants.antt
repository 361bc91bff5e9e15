use Rattle.std.proofs.Common.{◌≡◌, ◌++◌, drop}
use Rattle.cwl_image.specs.Image.{without}
use Rattle.cwl_flow.proofs.uses.without.Given as goal

abbrev pub invariant-loop-key : goal.invariant-loop-key
invariant-loop-key l = l.outer ++ without l.inside (drop l.key-index l.keys) ≡ without l.inside l.keys
