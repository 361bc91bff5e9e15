-- The types of members and casts behind a value.
use Rattle.std.specs.Prelude.{ℕ, List, [], ◌∷◌, Option, Some, None, option_and_then, if◌then◌else◌}
use Rattle.wdl_value.specs.declared.ty.Ty.{Ty, Ty-F, out-Ty}
use Rattle.wdl_value.specs.declared.ty.Ty.TheOpen as type
use Rattle.wdl_value.specs.Fits.{Structs, members_of}
use Rattle.wdl_typed.specs.Typing.{type_among}
use Rattle.cwl_image.specs.Expressions.{widens}
use Rattle.wdl_swaps.specs.declared.chain.Hop.{Hop}
use Rattle.wdl_swaps.specs.declared.chain.Hop.TheVariants as hop

abbrev pub member_at : Structs → List ℕ → Ty-F Ty → Option Ty
member_at structs name (type.Struct s) = option_and_then (λ ms. type_among ms name) (members_of structs s)
member_at structs name t = None

-- a member of a struct, or a cast that widens
abbrev pub hop_type : Structs → Hop → Ty → Option Ty
hop_type structs (hop.Member name) t = member_at structs name (out-Ty t)
hop_type structs (hop.Cast u) t = if widens t u then Some u else None

-- the type at the end of the hops from a value of that type
abbrev pub hops_type : Structs → List Hop → Ty → Option Ty
hops_type structs [] t = Some t
hops_type structs (h ∷ hs) t = option_and_then (hops_type structs hs) (hop_type structs h t)
