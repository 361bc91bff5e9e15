-- An expression that is known to be sound, and the lists of such ones: what the induction over expressions has.
use Rattle.std.proofs.Common.{Bool, List, map}
use Rattle.wdl_typed.specs.declared.expr.TExpr.{TExpr, TExpr-F, map-TExpr}
use Rattle.wdl_typed.specs.declared.expr.TField.{TField}
use Rattle.wdl_typed.specs.declared.expr.TPair.{TPair}
use Rattle.wdl_typed.specs.Evaluation.{Setting, value_met}
use Rattle.wdl_typed.specs.Scope.{names_of}
use Rattle.wdl_typed.specs.Typing.{Context, type_of}
use Rattle.wdl_eval.specs.Ready.{FitsNames}
use Rattle.wdl_eval.proofs.Steps.{Fine}

module _ (c : Context) (s : Setting) where
  abbrev pub Sound : TExpr → Type 0
  Sound e = (placeholder : Bool) → FitsNames c s.env (names_of e) → Fine c.structs (type_of c e placeholder) (value_met s e)

  abbrev pub Known : Type 0
  Known = (e : TExpr) × Sound e

  abbrev pub plain : TExpr-F Known → TExpr-F TExpr
  plain = map-TExpr Known TExpr (λ (k : Known). k.0)

  abbrev pub exprs : List Known → List TExpr
  exprs = map (λ (k : Known). k.0)

  abbrev pub pairs : List (TPair Known) → List (TPair TExpr)
  pairs = map (λ (r : TPair Known). record { key = r.key.0; value = r.value.0 })

  abbrev pub fields : List (TField Known) → List (TField TExpr)
  fields = map (λ (f : TField Known). record { name = f.name; value = f.value.0 })
