use Rattle.std.proofs.Common.{◌≡◌, drop}
use Rattle.cwl_image.specs.Image.{type_at}
use Rattle.cwl_tool.proofs.argument.type_at.Given as goal

abbrev pub invariant-loop-input : goal.invariant-loop-input
invariant-loop-input l = type_at (drop l.input-index l.inputs) l.name ≡ type_at l.inputs l.name
