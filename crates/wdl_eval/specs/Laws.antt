-- Soundness: an expression of a type has a value that fits it, or a code.
use Rattle.std.specs.Prelude.{◌≡◌, Bool, true, Some, None, Ok, Err}
use Rattle.wdl_value.specs.declared.ty.Ty.{Ty}
use Rattle.wdl_value.specs.declared.value.Value.{Value}
use Rattle.wdl_value.specs.Fits.{Structs, fits}
use Rattle.wdl_typed.specs.declared.expr.TExpr.{TExpr}
use Rattle.wdl_typed.specs.Evaluation.{Met, Setting, value_met}
use Rattle.wdl_typed.specs.Scope.{names_of}
use Rattle.wdl_typed.specs.Typing.{Context, type_of}
use Rattle.wdl_eval.specs.Ready.{FitsNames}

-- what P holds of, or a code, and never a value of a wrong kind
abbrev pub IsMet : {A : Type 0} → (A → Type 0) → Met A → Type 0
IsMet P (Ok a) = P a
IsMet P (Err (Some c)) = Unit {0}
IsMet P (Err None) = ⊥

abbrev pub IsSound : Structs → Ty → Met Value → Type 0
IsSound structs t = IsMet (λ x. fits structs x t ≡ true)

abbrev pub ValuesFit : Type 0
ValuesFit = (c : Context) (placeholder : Bool) (s : Setting) (e : TExpr) (t : Ty) → type_of c e placeholder ≡ Some t
    → FitsNames c s.env (names_of e) → IsSound c.structs t (value_met s e)
