-- The pieces of a string, with something else in the place of each expression.
use Rattle.std.specs.Prelude.{List, []}
use Rattle.wdl_typed.specs.declared.expr.TExpr.{TExpr-F, map-TExpr}
use Rattle.wdl_typed.specs.declared.expr.TExpr.TheOpen as layer
use Rattle.wdl_typed.specs.declared.expr.TPart.{TPart}

abbrev pub layer_parts : {A : Type 0} → TExpr-F A → List (TPart A)
layer_parts (layer.Strung parts) = parts
layer_parts y = []

abbrev pub parts_of : {A B : Type 0} → (A → B) → List (TPart A) → List (TPart B)
parts_of {A} {B} f parts = layer_parts (map-TExpr A B f (layer.Strung parts))
