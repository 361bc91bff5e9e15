use Rattle.std.proofs.Common.{◌≡◌, map, take}
use Rattle.wdl_value.specs.Parts.{int_in}
use Rattle.cwl_image.specs.Image.{literal}
use Rattle.cwl_tool.proofs.literals.each_number.Given as goal

abbrev pub invariant-loop-expr : goal.invariant-loop-expr
invariant-loop-expr l = l.numbers ≡ map int_in (map literal (take l.expr-index l.exprs))
