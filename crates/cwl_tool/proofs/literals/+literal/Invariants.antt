use Rattle.std.proofs.Common.{◌≡◌, map, take}
use Rattle.cwl_image.specs.Image.{literal}
use Rattle.cwl_tool.proofs.literals.+literal.Given as goal

abbrev pub invariant-literals_of-loop-expr : goal.invariant-literals_of-loop-expr
invariant-literals_of-loop-expr l = l.values ≡ map literal (take l.expr-index l.exprs)
