use Rattle.std.proofs.Common.{◌≡◌, true, Ok, Err, refl}
use Rattle.std.proofs.lemmas.Bool.{and_parts, and_from}
use Rattle.wdl_value.specs.declared.casting.CastFault.TheVariants.{EmptyArray, NoMemory as OutOfMemory}
use Rattle.wdl_value.specs.declared.ty.Ty.{Ty}
use Rattle.wdl_value.specs.declared.value.Value.{Value}
use Rattle.wdl_value.specs.Cast.{Checked, cast}
use Rattle.wdl_value.specs.Fits.{Structs, takes}
use Rattle.wdl_value.specs.Keyed.{keyed}
use Rattle.wdl_value.specs.Laws.{IsOfType}
use Rattle.wdl_value.proofs.CastTakes.{IsTaken, cast_takes}
use Rattle.wdl_value.proofs.CastParts.{casts_keep_keys}
use Rattle.wdl_value.proofs.laws.casts_fit.Goals as goal

-- a result that the type takes, and whose maps have distinct keys
both : (structs : Structs) (u : Ty) (r : Checked Value) → IsTaken structs u r → ((a : Value) → r ≡ Ok a → keyed a ≡ true) → IsOfType structs u r
both structs u (Ok a) h k = and_from (takes structs a u) (keyed a) h (k a refl)
both structs u (Err EmptyArray) h k = h
both structs u (Err OutOfMemory) h k = h

pub returns : goal.returns
returns c = record {
  law = λ structs x t u h k.
      let p = and_parts (takes structs x t) (keyed x) h in
      both structs u (cast x u) (cast_takes structs x t u p.0 k) (λ a e. casts_keep_keys structs x t u a p.0 p.1 e);
}
