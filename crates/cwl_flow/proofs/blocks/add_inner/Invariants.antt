use Rattle.std.proofs.Common.{◌≡◌, ◌++◌, take}
use Rattle.cwl_image.specs.Image.{inner_scope}
use Rattle.cwl_flow.proofs.blocks.add_inner.Given as goal

abbrev pub invariant-loop-key : goal.invariant-loop-key
invariant-loop-key l = l.inner ≡ l.initial.inner ++ inner_scope l.scope (take l.key-index l.keys)
