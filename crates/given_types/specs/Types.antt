-- What blocks make of the types of the names that their bodies give out.
use Rattle.std.specs.Prelude.{List, map}
use Rattle.wdl_value.specs.declared.ty.Ty.{Ty}
use Rattle.wdl_typed.specs.declared.scope.Bound.{Bound}

abbrev pub retyped_names : (Ty → Ty) → List Bound → List Bound
retyped_names f = map (λ (b : Bound). record { key = b.key; ty = f b.ty })
