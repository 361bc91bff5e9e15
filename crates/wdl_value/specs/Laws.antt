-- Laws of types and values.
use Rattle.std.specs.Prelude.{◌≡◌, ◌↔◌, true, Result, Ok, Err}
use Rattle.wdl_value.specs.declared.casting.CastFault.{CastFault}
use Rattle.wdl_value.specs.declared.casting.CastFault.TheVariants.{EmptyArray, NoMemory as OutOfMemory}
use Rattle.wdl_value.specs.declared.ty.Ty.{Ty}
use Rattle.wdl_value.specs.declared.value.Value.{Value}
use Rattle.wdl_value.specs.Cast.{cast}
use Rattle.wdl_value.specs.Coerces.{coerces}
use Rattle.wdl_value.specs.Fits.{Structs, fits}
use Rattle.wdl_value.specs.SameType.{same_type}
use Rattle.wdl_value.specs.SameValue.{same_value}

abbrev pub SameTypesAreEqual : Type 0
SameTypesAreEqual = (t u : Ty) → (same_type t u ≡ true) ↔ (t ≡ u)

abbrev pub SameValuesAreEqual : Type 0
SameValuesAreEqual = (x y : Value) → (same_value x y ≡ true) ↔ (x ≡ y)

-- a value that fits, or the fault of an empty array
abbrev pub IsOfType : Structs → Ty → Result Value CastFault → Type 0
IsOfType structs t (Ok x) = fits structs x t ≡ true
IsOfType structs t (Err EmptyArray) = Unit {0}
IsOfType structs t (Err OutOfMemory) = ⊥

-- what fits a type that coerces to another one is cast to what fits that one
abbrev pub CastsFit : Type 0
CastsFit = (structs : Structs) (x : Value) (t u : Ty) → fits structs x t ≡ true → coerces t u ≡ true → IsOfType structs u (cast x u)
