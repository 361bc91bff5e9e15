use Rattle.std.proofs.Common.{◌≡◌, ◌++◌, drop}
use Rattle.cwl_image.specs.Image.{argument, chars_before}
use Rattle.cwl_tool.proofs.argument.argument_of.Given as goal

abbrev pub invariant-loop-part : goal.invariant-loop-part
invariant-loop-part l = l.pieces ++ chars_before l.chars (argument l.inputs (drop l.part-index l.parts)) ≡ argument l.inputs l.parts
