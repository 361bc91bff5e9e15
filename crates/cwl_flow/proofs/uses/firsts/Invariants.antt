use Rattle.std.proofs.Common.{◌≡◌, [], ◌++◌, drop}
use Rattle.cwl_image.specs.Image.{firsts}
use Rattle.cwl_flow.proofs.uses.firsts.Given as goal

abbrev pub invariant-loop-key : goal.invariant-loop-key
invariant-loop-key l = l.firsts ++ firsts l.firsts (drop l.key-index l.keys) ≡ firsts [] l.keys
