-- The values of operators (OpenWDL 1.1, "Expressions").
use Rattle.std.specs.Prelude.{◌++◌, Bool, false, not, ◌&&◌, ◌||◌, Ok, Err, if◌then◌else◌, ℤ, pos, negsuc, ◌==◌, ◌+ℤ◌, ◌-ℤ◌, ◌*ℤ◌, neg_ℤ, int_div, int_rem, int_lt}
use Rattle.std.specs.Cmp.Lexicographic.{slice_cmp}
use Rattle.std.specs.Ordering.{is_lt, nat_cmp}
use Rattle.wdl_base.specs.declared.fault.EvalCode.TheVariants.{Overflow, ZeroDivisor}
use Rattle.wdl_value.specs.declared.operator.Op.{Op}
use Rattle.wdl_value.specs.declared.operator.Op.TheVariants as op
use Rattle.wdl_value.specs.declared.value.Value.{Value, Value-F, out-Value}
use Rattle.wdl_value.specs.declared.value.Value.TheVariants as v
use Rattle.wdl_value.specs.declared.value.Value.TheOpen as layer
use Rattle.wdl_value.specs.Fits.{is_int}
use Rattle.wdl_value.specs.Limits.{limited}
use Rattle.wdl_value.specs.Outcome.{Outcome, and_then}
use Rattle.wdl_value.specs.Parts.{is_number, is_undefined, bool_in, int_in}
use Rattle.wdl_value.specs.SameValue.{same_value}
use Rattle.wdl_value.specs.ValueText.{text_of}

-- a whole number, where it is in the range of Int
abbrev pub int_of : ℤ → Outcome Value
int_of z = if is_int z then Ok (v.Int z) else Err Overflow

abbrev pub negate : Value → Outcome Value
negate x = int_of (neg_ℤ (int_in x))

abbrev pub is_zero : ℤ → Bool
is_zero (pos n) = n == 0
is_zero (negsuc n) = false

-- towards zero
abbrev pub quotient : ℤ → ℤ → Outcome Value
quotient m n = if is_zero n then Err ZeroDivisor else int_of (int_div m n)

-- with the sign of the dividend
abbrev pub remainder : ℤ → ℤ → Outcome Value
remainder m n = if is_zero n then Err ZeroDivisor else int_of (int_rem m n)

-- the sum of two numbers, or else the texts joined
abbrev pub sum : Value → Value → Outcome Value
sum x y = if is_number x && is_number y then int_of (int_in x +ℤ int_in y) else Ok (v.Str (text_of x ++ text_of y))

-- undefined where an operand is
abbrev pub sum_maybe : Value → Value → Outcome Value
sum_maybe x y = if is_undefined x || is_undefined y then Ok v.Absent else sum x y

abbrev pub is_less_at : {A : Type 0} → Value-F A → Value-F A → Bool
is_less_at (layer.Int m) (layer.Int n) = int_lt m n
is_less_at (layer.Bool a) (layer.Bool b) = not a && b
is_less_at (layer.Str s) (layer.Str t) = is_lt (slice_cmp nat_cmp s t)
is_less_at x y = false

-- numbers by their order, false before true, texts by their bytes
abbrev pub is_less : Value → Value → Bool
is_less x y = is_less_at (out-Value x) (out-Value y)

abbrev pub operated : Op → Value → Value → Outcome Value
operated op.Mul x y = int_of (int_in x *ℤ int_in y)
operated op.Div x y = quotient (int_in x) (int_in y)
operated op.Rem x y = remainder (int_in x) (int_in y)
operated op.Add x y = sum x y
operated op.Sub x y = int_of (int_in x -ℤ int_in y)
operated op.AddMaybe x y = sum_maybe x y
operated op.Lt x y = Ok (v.Bool (is_less x y))
operated op.Le x y = Ok (v.Bool (not (is_less y x)))
operated op.Gt x y = Ok (v.Bool (is_less y x))
operated op.Ge x y = Ok (v.Bool (not (is_less x y)))
operated op.Eq x y = Ok (v.Bool (same_value x y))
operated op.Ne x y = Ok (v.Bool (not (same_value x y)))
operated op.And x y = Ok (v.Bool (bool_in x && bool_in y))
operated op.Or x y = Ok (v.Bool (bool_in x || bool_in y))

-- the value of an operator, where it keeps the limits of values
abbrev pub operate : Op → Value → Value → Outcome Value
operate o x y = and_then (operated o x y) limited
