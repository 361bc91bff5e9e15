-- A value as a value of another type (OpenWDL 1.1, "Type Coercion").
use Rattle.std.specs.Prelude.{◌≡◌, ◌≢◌, Bool, true, false, List, [], ◌∷◌, Result, Ok, Err, map}
use Rattle.wdl_value.specs.declared.value.Value.{Value, Value-F}
use Rattle.wdl_value.specs.declared.value.Value.TheVariants as v
use Rattle.wdl_value.specs.declared.value.Value.TheOpen as layer
use Rattle.wdl_value.specs.declared.value.MapRow.{MapRow}
use Rattle.wdl_value.specs.declared.ty.Ty.{Ty, Ty-F, out-Ty}
use Rattle.wdl_value.specs.declared.ty.Ty.TheOpen as type
use Rattle.wdl_value.specs.declared.casting.CastFault.{CastFault}
use Rattle.wdl_value.specs.declared.casting.CastFault.TheVariants.{EmptyArray, NoMemory as OutOfMemory}
use Rattle.std.specs.Fmt.{signed_decimal}
use Rattle.wdl_value.specs.ValueText.{bool_text}
use Rattle.wdl_value.specs.Recur.{recur}
use Rattle.wdl_value.specs.Bare.{bare}

abbrev pub Checked : Type 0 → Type 0
Checked A = Result A CastFault

abbrev pub and_then : {A B : Type 0} → Checked A → (A → Checked B) → Checked B
and_then (Ok a) f = f a
and_then (Err e) f = Err e

-- what a function gives: the outcome, unless memory runs out
abbrev pub Gives : {A : Type 0} → Checked A → Checked A → Type 0
Gives outcome (Ok a) = outcome ≡ Ok a
Gives outcome (Err e) = e ≢ OutOfMemory → outcome ≡ Err e

-- how a value is cast
abbrev pub Caster : Type 0
Caster = Ty → Checked Value

abbrev pub each : List Caster → Ty → Checked (List Value)
each [] t = Ok []
each (f ∷ fs) t = and_then (f t) (λ x. and_then (each fs t) (λ xs. Ok (x ∷ xs)))

abbrev pub each_row : List (MapRow Caster) → Ty → Ty → Checked (List (MapRow Value))
each_row [] t u = Ok []
each_row (r ∷ rows) t u = and_then (r.key t) (λ k. and_then (r.value u) (λ x. and_then (each_row rows t u) (λ xs. Ok (record { key = k; value = x } ∷ xs))))

-- A list that is empty has no cast to an array that is not.
abbrev pub list_cast : List Caster → Ty → Bool → Checked Value
list_cast [] t true = Err EmptyArray
list_cast [] t false = Ok (v.List [])
list_cast (f ∷ fs) t some = and_then (each (f ∷ fs) t) (λ xs. Ok (v.List xs))

abbrev pub map_cast : List (MapRow Caster) → Ty → Ty → Checked Value
map_cast rows t u = and_then (each_row rows t u) (λ xs. Ok (v.Map xs))

-- by the value, its parts, and the type without its question marks
abbrev pub cast_at : Value → Value-F Caster → Ty-F Ty → Checked Value
cast_at x (layer.Bool b) type.Str = Ok (v.Str (bool_text b))
cast_at x (layer.Int n) type.Str = Ok (v.Str (signed_decimal n))
cast_at x (layer.File s) type.Str = Ok (v.Str s)
cast_at x (layer.Str s) type.File = Ok (v.File s)
cast_at x (layer.List fs) (type.Array t some) = list_cast fs t some
cast_at x (layer.Pair f g) (type.Pair t u) = and_then (f t) (λ a. and_then (g u) (λ b. Ok (v.Pair a b)))
cast_at x (layer.Map rows) (type.Map t u) = map_cast rows t u
cast_at x other t = Ok x

unfoldable pub cast : Value → Ty → Checked Value
cast = recur Caster (λ x parts t. cast_at x parts (out-Ty (bare t)))

abbrev pub cast_all : List Value → Ty → Checked (List Value)
cast_all xs = each (map cast xs)

abbrev pub cast_rows : List (MapRow Value) → Ty → Ty → Checked (List (MapRow Value))
cast_rows rows = each_row (map (λ r. record { key = cast r.key; value = cast r.value }) rows)

abbrev pub cast_list : List Value → Ty → Bool → Checked Value
cast_list xs = list_cast (map cast xs)

abbrev pub cast_map : List (MapRow Value) → Ty → Ty → Checked Value
cast_map rows = map_cast (map (λ r. record { key = cast r.key; value = cast r.value }) rows)
