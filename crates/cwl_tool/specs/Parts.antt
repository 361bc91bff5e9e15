-- One part of a command before the pieces of the parts behind it.
use Rattle.std.specs.Prelude.{List, ◌++◌}
use Rattle.wdl_typed.specs.declared.expr.TExpr.{TExpr}
use Rattle.wdl_typed.specs.declared.expr.TPart.{TPart}
use Rattle.wdl_typed.specs.declared.expr.TPart.TheVariants as part
use Rattle.cwl_model.specs.declared.tool.CwlIn.{CwlIn}
use Rattle.cwl_model.specs.declared.tool.Piece.{Piece}
use Rattle.cwl_image.specs.Image.{chars_before, hole_piece, reference}

abbrev pub with_part : List CwlIn → TPart TExpr → List Piece → List Piece
with_part ins (part.Chars s) ps = chars_before s ps
with_part ins (part.Hole h) ps = hole_piece ins (reference h.expr) ++ ps
