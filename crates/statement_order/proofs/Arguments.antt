-- The names of a call's arguments.
use Rattle.std.proofs.Common.{◌≡◌, List, [], ◌∷◌, ◌++◌, map, refl, ap, ◌∙◌}
use Rattle.std.proofs.lemmas.List.{map-append}
use Rattle.wdl_base.specs.declared.name.Key.{Key}
use Rattle.references.specs.Names.{argument_names}
use Rattle.wdl_typed.specs.Order.{args_referred, referred}
use Rattle.wdl_typed.specs.Scope.{names_of}
use Rattle.wdl_typed.specs.declared.expr.TExpr.{TExpr}
use Rattle.wdl_typed.specs.declared.expr.TField.{TField}

pub args_are : (args : List (TField TExpr)) → map (λ (k : Key). k.first) (argument_names args) ≡ args_referred args
args_are [] = refl
args_are (a ∷ more) = map-append (λ (k : Key). k.first) (names_of a.value) (argument_names more) ∙ ap (λ ns. referred a.value ++ ns) (args_are more)
