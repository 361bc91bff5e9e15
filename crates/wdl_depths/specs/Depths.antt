-- Tables of the depths of structs.
use Rattle.std.specs.Prelude.{ℕ, Bool, List, map}
use Rattle.wdl_value.specs.declared.ty.StructDef.{StructDef}
use Rattle.wdl_value.specs.Fits.{Structs}
use Rattle.wdl_typed.specs.KnownTypes.{is_shallow}

-- for each struct whether its members lead through at most that many structs
abbrev pub shallow_level : ℕ → Structs → List Bool
shallow_level level structs = map (λ (d : StructDef). is_shallow level structs d.name) structs
