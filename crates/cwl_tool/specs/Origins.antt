-- The text of a string literal, casts aside.
use Rattle.std.specs.Prelude.{ℕ, List, Option}
use Rattle.wdl_value.specs.declared.value.Value.{Value, out-Value}
use Rattle.wdl_typed.specs.declared.expr.TExpr.{TExpr, fold-TExpr}
use Rattle.cwl_image.specs.Image.{origin_step, str_in}

abbrev pub text_in : Value → Option (List ℕ)
text_in x = str_in (out-Value x)

abbrev pub file_name : TExpr → Option (List ℕ)
file_name = fold-TExpr (Option (List ℕ)) origin_step
