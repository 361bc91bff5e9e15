-- Lists of what is landed, and the members of structs.
use Rattle.std.specs.Prelude.{ℕ, List, [], Ok, map}
use Rattle.std.specs.Option.{unwrap_or}
use Rattle.wdl_base.specs.declared.answer.Answer.{Answer}
use Rattle.wdl_value.specs.declared.ty.Member.{Member}
use Rattle.wdl_value.specs.declared.ty.Ty.{Ty}
use Rattle.wdl_value.specs.declared.value.Field.{Field}
use Rattle.wdl_value.specs.declared.value.MapRow.{MapRow}
use Rattle.wdl_value.specs.declared.value.Value.{Value}
use Rattle.wdl_value.specs.declared.value.Value.TheVariants as v
use Rattle.wdl_value.specs.Fits.{Structs, members_of}
use Rattle.wdl_value.specs.Outcome.{Outcome, and_then}
use Rattle.wdl_typed.specs.Requests.{Lander, land_all, land_members, land_rows, landed}

abbrev pub members_or_none : Structs → List ℕ → List Member
members_or_none structs name = unwrap_or (members_of structs name) []

abbrev pub lander : Structs → List ℕ → Answer → Value → Lander
lander structs dir answer x = landed structs dir answer x

abbrev pub row_landers : Structs → List ℕ → Answer → List (MapRow Value) → List (MapRow Lander)
row_landers structs dir answer rows =
    map (λ r. record { key = landed structs dir answer r.key; value = landed structs dir answer r.value }) rows

abbrev pub field_landers : Structs → List ℕ → Answer → List (Field Value) → List (Field Lander)
field_landers structs dir answer fields = map (λ f. record { name = f.name; value = landed structs dir answer f.value }) fields

abbrev pub landed_list : Structs → List ℕ → Answer → List Value → Ty → Outcome Value
landed_list structs dir answer xs t = and_then (land_all (map (lander structs dir answer) xs) t) (λ ys. Ok (v.List ys))

abbrev pub landed_map : Structs → List ℕ → Answer → List (MapRow Value) → Ty → Ty → Outcome Value
landed_map structs dir answer rows t u = and_then (land_rows (row_landers structs dir answer rows) t u []) (λ ys. Ok (v.Map ys))

abbrev pub landed_struct : Structs → List ℕ → Answer → List ℕ → List (Field Value) → Outcome Value
landed_struct structs dir answer name fields =
    and_then (land_members (field_landers structs dir answer fields) (members_of structs name)) (λ ys. Ok (v.Struct name ys))
