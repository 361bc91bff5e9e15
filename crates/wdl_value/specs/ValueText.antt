-- The text of a Bool, an Int, a Str or a File.
use Rattle.std.specs.Prelude.{ℕ, Bool, true, false, List, [], if◌then◌else◌, codes}
use Rattle.std.specs.Fmt.{signed_decimal}
use Rattle.wdl_value.specs.declared.value.Value.{Value, Value-F, out-Value}
use Rattle.wdl_value.specs.declared.value.Value.TheOpen as layer

abbrev pub has_text_at : {A : Type 0} → Value-F A → Bool
has_text_at (layer.Bool b) = true
has_text_at (layer.Int n) = true
has_text_at (layer.Str s) = true
has_text_at (layer.File s) = true
has_text_at x = false

-- the value is a Bool, an Int, a Str or a File
abbrev pub has_text : Value → Bool
has_text x = has_text_at (out-Value x)

abbrev pub bool_text : Bool → List ℕ
bool_text b = if b then codes "true" else codes "false"

abbrev pub text_at : {A : Type 0} → Value-F A → List ℕ
text_at (layer.Bool b) = bool_text b
text_at (layer.Int n) = signed_decimal n
text_at (layer.Str s) = s
text_at (layer.File s) = s
text_at x = []

abbrev pub text_of : Value → List ℕ
text_of x = text_at (out-Value x)
