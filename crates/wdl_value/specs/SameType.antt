-- Equality of types, as a test.
use Rattle.std.specs.Prelude.{Bool, true, false, ◌&&◌}
use Rattle.std.specs.Str.{bytes_eq}
use Rattle.wdl_base.specs.Same.{same_bool}
use Rattle.wdl_value.specs.declared.ty.Ty.{Ty, Ty-F, out-Ty, fold-Ty}
use Rattle.wdl_value.specs.declared.ty.Ty.TheOpen as type

abbrev pub TypeTest : Type 0
TypeTest = Ty → Bool

abbrev pub same_at : Ty-F TypeTest → Ty-F Ty → Bool
same_at type.Bool type.Bool = true
same_at type.Int type.Int = true
same_at type.Str type.Str = true
same_at type.File type.File = true
same_at (type.Array f some) (type.Array t also) = f t && same_bool some also
same_at (type.Map f g) (type.Map t u) = f t && g u
same_at (type.Pair f g) (type.Pair t u) = f t && g u
same_at (type.Struct n) (type.Struct m) = bytes_eq n m
same_at (type.Opt f) (type.Opt t) = f t
same_at type.Absent type.Absent = true
same_at type.Empty type.Empty = true
same_at x y = false

abbrev pub same_type : Ty → Ty → Bool
same_type = fold-Ty TypeTest (λ x t. same_at x (out-Ty t))
