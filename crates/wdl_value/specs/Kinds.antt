-- The kinds of types, as tests.
use Rattle.std.specs.Prelude.{Bool, true, false, ◌||◌}
use Rattle.wdl_value.specs.declared.ty.Ty.{Ty, Ty-F, out-Ty}
use Rattle.wdl_value.specs.declared.ty.Ty.TheOpen as type

abbrev pub bool_at : Ty-F Ty → Bool
bool_at type.Bool = true
bool_at t = false

abbrev pub int_at : Ty-F Ty → Bool
int_at type.Int = true
int_at t = false

abbrev pub str_at : Ty-F Ty → Bool
str_at type.Str = true
str_at t = false

abbrev pub file_at : Ty-F Ty → Bool
file_at type.File = true
file_at t = false

abbrev pub absent_at : Ty-F Ty → Bool
absent_at type.Absent = true
absent_at t = false

abbrev pub empty_at : Ty-F Ty → Bool
empty_at type.Empty = true
empty_at t = false

abbrev pub is_bool : Ty → Bool
is_bool t = bool_at (out-Ty t)

abbrev pub is_int : Ty → Bool
is_int t = int_at (out-Ty t)

abbrev pub is_str : Ty → Bool
is_str t = str_at (out-Ty t)

abbrev pub is_absent : Ty → Bool
is_absent t = absent_at (out-Ty t)

abbrev pub is_empty : Ty → Bool
is_empty t = empty_at (out-Ty t)

-- String or File
abbrev pub is_text : Ty → Bool
is_text t = is_str t || file_at (out-Ty t)

-- Boolean, Int, String or File
abbrev pub is_scalar : Ty → Bool
is_scalar t = is_bool t || is_int t || is_text t
