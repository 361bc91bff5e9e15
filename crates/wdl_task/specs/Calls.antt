-- Calls of functions that write files, each the whole of an expression, casts aside.
use Rattle.std.specs.Prelude.{◌≡◌, ℕ, ◌^◌, ◌-◌, ◌≤◌, min, List, [], ◌∷◌, ◌++◌, Option, Some, None, Result, Ok, Err, if◌then◌else◌, length}
use denote.Ref.{Bor}
use Rattle.wdl_base.specs.declared.body.Laid.{Laid}
use Rattle.wdl_base.specs.declared.fault.EvalCode.TheVariants.{EmptyArray, TooLarge}
use Rattle.wdl_value.specs.declared.casting.CastFault.{CastFault}
use Rattle.wdl_value.specs.declared.env.Bind.{Bind}
use Rattle.wdl_value.specs.declared.operator.Func.{Func}
use Rattle.wdl_value.specs.declared.ty.Ty.{Ty}
use Rattle.wdl_value.specs.declared.value.Value.{Value}
use Rattle.wdl_value.specs.declared.value.Value.TheVariants as v
use Rattle.wdl_value.specs.Cast.{cast}
use Rattle.wdl_value.specs.FunctionTypes.{writes}
use Rattle.wdl_value.specs.Outcome.{Outcome, and_then}
use Rattle.wdl_value.specs.Written.{written_name}
use Rattle.wdl_typed.specs.declared.expr.TExpr.{TExpr, TExpr-F, fold-TExpr, para-TExpr}
use Rattle.wdl_typed.specs.declared.expr.TExpr.TheOpen as layer
use Rattle.wdl_typed.specs.Evaluation.{value_of}
use Rattle.wdl_typed.specs.Requests.{Laying, before, laid_size, may_write, next_file}

-- what the call writes
pub record Call : Type 0 where
  pub func : Func
  pub argument : TExpr

-- the call by its first argument
abbrev pub first_call : Func → List (TExpr × Option Call) → Option Call
first_call f [] = None
first_call f (p ∷ ps) = Some (record { func = f; argument = p.0 })

abbrev pub call_step : TExpr-F (TExpr × Option Call) → Option Call
call_step (layer.Apply f ps) = if writes f then first_call f ps else None
call_step (layer.Cast p t) = p.1
call_step y = None

-- the call that an expression is, casts aside
unfoldable pub call_of : TExpr → Option Call
call_of = para-TExpr (Option Call) call_step

-- the call that is lent
abbrev pub IsCall : Option Call → Option (Func × Bor TExpr) → Type 0
IsCall None None = Unit {0}
IsCall None (Some p) = ⊥
IsCall (Some c) None = ⊥
IsCall (Some c) (Some p) = (c.func ≡ p.0) × (c.argument ≡ p.1.now)

abbrev pub as_outcome : {A : Type 0} → Result A CastFault → Outcome A
as_outcome (Ok a) = Ok a
as_outcome (Err e) = Err EmptyArray

abbrev pub cast_value : Value → Ty → Outcome Value
cast_value x t = as_outcome (cast x t)

-- the name of a file, under the casts of the expression
abbrev pub Naming : Type 0
Naming = List ℕ → Outcome Value

abbrev pub name_step : TExpr-F Naming → Naming
name_step (layer.Cast f t) name = and_then (f name) (λ x. cast_value x t)
name_step y name = Ok (v.File name)

abbrev pub cast_name : TExpr → Naming
cast_name = fold-TExpr Naming name_step

-- the files with the next one
abbrev pub with_file : Func → Value → List Laid → Outcome (List Laid)
with_file f x files =
    if may_write f x (files ++ next_file f x files ∷ []) then Ok (files ++ next_file f x files ∷ []) else Err TooLarge

-- what the call that the expression is gives: the file is laid down, and its name is the value
abbrev pub named_value : TExpr → List ℕ → List Laid → Outcome Laying
named_value e name files = and_then (cast_name e name) (λ x. Ok (record { value = x; files = files }))

abbrev pub stored_value : TExpr → Func → Value → List Laid → Outcome Laying
stored_value e f x files = and_then (with_file f x files) (named_value e (written_name (length files)))

abbrev pub laid_value : List Bind → List Laid → TExpr → Call → Outcome Laying
laid_value env files e c =
    and_then (value_of (before env) c.argument) (λ x. stored_value e c.func x files)

-- files that were laid down: each has a name, and together they keep the limit
pub record AreLaid (files : List Laid) : Type 0 where
  pub counted : length files ≤ laid_size files
  pub limited : laid_size files ≤ 4194304

-- the bytes of the names and the bodies, at most the greatest number of 64 bits
abbrev pub laid_bytes : List Laid → ℕ
laid_bytes files = min (laid_size files) (2 ^ 64 - 1)
