-- When an expression may be evaluated.
use Rattle.std.specs.Prelude.{◌≡◌, Bool, true, List, Option, Some, None}
use Rattle.wdl_base.specs.declared.name.Key.{Key}
use Rattle.wdl_value.specs.declared.env.Bind.{Bind}
use Rattle.wdl_value.specs.declared.ty.Ty.{Ty}
use Rattle.wdl_value.specs.declared.value.Value.{Value}
use Rattle.wdl_value.specs.Fits.{Structs, fits}
use Rattle.wdl_typed.specs.declared.expr.TExpr.{TExpr}
use Rattle.wdl_typed.specs.Scope.{is_among, lookup, names_of, type_in}
use Rattle.wdl_typed.specs.Typing.{Context, type_of}

-- where a type is given, there is a value that fits it
abbrev pub IsGiven : Structs → Option Ty → Option Value → Type 0
IsGiven structs None x = Unit {0}
IsGiven structs (Some t) None = ⊥
IsGiven structs (Some t) (Some x) = fits structs x t ≡ true

-- each of these names has a value that fits the type that the context gives it
abbrev pub FitsNames : Context → List Bind → List Key → Type 0
FitsNames c env names = (key : Key) → is_among key names ≡ true → IsGiven c.structs (type_in c.names key) (lookup env key)

-- the expression is well typed in some context, whose names in it have values that fit
pub record IsReady (e : TExpr) (env : List Bind) : Type 0 where
  pub context : Context
  pub placeholder : Bool
  pub ty : Ty
  pub typed : type_of context e placeholder ≡ Some ty
  pub fitting : FitsNames context env (names_of e)
