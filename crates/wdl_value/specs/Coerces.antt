-- Which types coerce to which (OpenWDL 1.1, "Type Coercion").
use Rattle.std.specs.Prelude.{Bool, true, false, ◌&&◌}
use Rattle.std.specs.Str.{bytes_eq}
use Rattle.wdl_value.specs.declared.ty.Ty.{Ty, Ty-F, out-Ty, fold-Ty}
use Rattle.wdl_value.specs.declared.ty.Ty.TheOpen as type
use Rattle.wdl_value.specs.Bare.{bare}
use Rattle.wdl_value.specs.SameType.{TypeTest}

-- an optional type coerces to an optional one alone, by their inner types
abbrev pub opt_coerces : TypeTest → Ty-F Ty → Bool
opt_coerces f (type.Opt t) = f t
opt_coerces f t = false

-- the type of `None` coerces to itself and to optional types
abbrev pub takes_absent : Ty-F Ty → Bool
takes_absent (type.Opt t) = true
takes_absent type.Absent = true
takes_absent t = false

-- from a type that is no optional, not Absent and not Empty, to a type without its question marks
abbrev pub plain_coerces : Ty-F TypeTest → Ty-F Ty → Bool
plain_coerces type.Bool type.Bool = true
plain_coerces type.Bool type.Str = true
plain_coerces type.Int type.Int = true
plain_coerces type.Int type.Str = true
plain_coerces type.Str type.Str = true
plain_coerces type.Str type.File = true
plain_coerces type.File type.File = true
plain_coerces type.File type.Str = true
plain_coerces (type.Array f some) (type.Array t also) = f t
plain_coerces (type.Map f g) (type.Map t u) = f t && g u
plain_coerces (type.Pair f g) (type.Pair t u) = f t && g u
plain_coerces (type.Struct n) (type.Struct m) = bytes_eq n m
plain_coerces x y = false

-- Empty coerces to any type
abbrev pub coerces_step : Ty-F TypeTest → Ty → Bool
coerces_step (type.Opt f) u = opt_coerces f (out-Ty u)
coerces_step type.Absent u = takes_absent (out-Ty u)
coerces_step type.Empty u = true
coerces_step x u = plain_coerces x (out-Ty (bare u))

abbrev pub coerces : Ty → Ty → Bool
coerces = fold-Ty TypeTest coerces_step
