-- The marks of keys: the kind of a Boolean, a number, a text or a path with its text, by which two keys are one.
use Rattle.std.specs.Prelude.{ℕ, ℤ, Bool, List, ◌++◌, Option, Some, None, if◌then◌else◌, codes}
use Rattle.std.specs.Fmt.{signed_decimal}
use Rattle.wdl_value.specs.declared.value.Value.{Value, Value-F, out-Value}
use Rattle.wdl_value.specs.declared.value.Value.TheOpen as layer
use Rattle.wdl_value.specs.Fits.{is_int}
use Rattle.wdl_value.specs.ValueText.{bool_text}

abbrev pub bool_mark : Bool → Option (List ℕ)
bool_mark b = Some (codes "b" ++ bool_text b)

abbrev pub int_mark : ℤ → Option (List ℕ)
int_mark n = if is_int n then Some (codes "i" ++ signed_decimal n) else None

abbrev pub mark_at : Value-F Value → Option (List ℕ)
mark_at (layer.Bool b) = bool_mark b
mark_at (layer.Int n) = int_mark n
mark_at (layer.Str s) = Some (codes "s" ++ s)
mark_at (layer.File s) = Some (codes "f" ++ s)
mark_at x = None

abbrev pub mark_of : Value → Option (List ℕ)
mark_of x = mark_at (out-Value x)
