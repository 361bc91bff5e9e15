-- The names of expressions, behind others.
use Rattle.std.specs.Prelude.{List, [], ◌++◌, map}
use Rattle.wdl_base.specs.declared.name.Key.{Key}
use Rattle.wdl_typed.specs.declared.expr.TExpr.{TExpr, TExpr-F, map-TExpr}
use Rattle.wdl_typed.specs.declared.expr.TExpr.TheOpen as layer
use Rattle.wdl_typed.specs.declared.expr.TField.{TField}
use Rattle.wdl_typed.specs.declared.expr.TPart.{TPart}
use Rattle.wdl_typed.specs.Scope.{field_names, names_of, part_names}

-- the names, and these keys behind them
unfoldable pub behind : List Key → List Key → List Key
behind names keys = names ++ keys

abbrev pub layer_parts : {A : Type 0} → TExpr-F A → List (TPart A)
layer_parts (layer.Strung parts) = parts
layer_parts y = []

-- the names of the pieces of a string
abbrev pub piece_names : List (TPart TExpr) → List Key
piece_names parts = part_names (layer_parts (map-TExpr TExpr (List Key) names_of (layer.Strung parts)))

-- the names of the arguments of a call
abbrev pub argument_names : List (TField TExpr) → List Key
argument_names fields = field_names (map (λ (f : TField TExpr). record { name = f.name; value = names_of f.value }) fields)
