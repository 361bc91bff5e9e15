-- Laws of operators and functions: values that fit a row of a table have a value that fits the row's result, or a code.
use Rattle.std.specs.Prelude.{ℕ, ◌≡◌, Bool, true, false, ◌&&◌, List, [], ◌∷◌, Option, Some, Ok, Err}
use Rattle.wdl_base.specs.declared.answer.Answer.{Answer}
use Rattle.wdl_value.specs.declared.operator.Func.{Func}
use Rattle.wdl_value.specs.declared.operator.Op.{Op}
use Rattle.wdl_value.specs.declared.ty.Ty.{Ty}
use Rattle.wdl_value.specs.declared.ty.Ty.TheVariants as ty
use Rattle.wdl_value.specs.declared.typing.FuncTyping.{FuncTyping}
use Rattle.wdl_value.specs.declared.typing.OpTyping.{OpTyping}
use Rattle.wdl_value.specs.declared.value.Value.{Value}
use Rattle.wdl_value.specs.Apply.{apply}
use Rattle.wdl_value.specs.Fits.{Structs, fits}
use Rattle.wdl_value.specs.FunctionTypes.{function_type, writes}
use Rattle.wdl_value.specs.Operate.{operate, negate}
use Rattle.wdl_value.specs.OperatorTypes.{operator_type}
use Rattle.wdl_value.specs.Outcome.{Outcome}

-- a value that fits, or a code
abbrev pub IsOfType : Structs → Ty → Outcome Value → Type 0
IsOfType structs t (Ok x) = fits structs x t ≡ true
IsOfType structs t (Err c) = Unit {0}

abbrev pub OperateFits : Type 0
OperateFits = (structs : Structs) (o : Op) (t u : Ty) (placeholder : Bool) (row : OpTyping) → operator_type o t u placeholder ≡ Some row
    → (x y : Value) → fits structs x row.left ≡ true → fits structs y row.right ≡ true → IsOfType structs row.result (operate o x y)

abbrev pub NegateFits : Type 0
NegateFits = (structs : Structs) (x : Value) → IsOfType structs ty.Int (negate x)

abbrev pub args_fit : Structs → List Value → List Ty → Bool
args_fit structs [] [] = true
args_fit structs [] (t ∷ ts) = false
args_fit structs (x ∷ xs) [] = false
args_fit structs (x ∷ xs) (t ∷ ts) = fits structs x t && args_fit structs xs ts

abbrev pub ApplyFits : Type 0
ApplyFits = (structs : Structs) (f : Func) (types : List Ty) (row : FuncTyping) → function_type f types ≡ Some row → writes f ≡ false
    → (args : List Value) → args_fit structs args row.args ≡ true → (dir : List ℕ) (answer : Option Answer) → IsOfType structs row.result (apply dir answer f args)
