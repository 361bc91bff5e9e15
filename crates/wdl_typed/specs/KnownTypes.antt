-- Structs, and the types that a document writes.
use Rattle.std.specs.Prelude.{ℕ, zero, suc, Bool, true, false, not, ◌&&◌, List, [], ◌∷◌, ◌++◌, Option, Some, None, map}
use Rattle.std.specs.List.{list_all}
use Rattle.wdl_value.specs.declared.ty.Member.{Member}
use Rattle.wdl_value.specs.declared.ty.StructDef.{StructDef}
use Rattle.wdl_value.specs.declared.ty.Ty.{Ty, Ty-F, fold-Ty}
use Rattle.wdl_value.specs.declared.ty.Ty.TheOpen as type
use Rattle.wdl_value.specs.Fits.{Structs, members_of}
use Rattle.wdl_typed.specs.Lists.{are_distinct}

-- what a type says of itself: whether it can be written, whether it is Boolean, Int, String or File, and whether it is optional
pub record Written : Type 0 where
  pub known : Bool
  pub scalar : Bool
  pub optional : Bool

abbrev pub is_some : {A : Type 0} → Option A → Bool
is_some None = false
is_some (Some a) = true

abbrev pub scalar : Written
scalar = record { known = true; scalar = true; optional = false }

abbrev pub compound : Bool → Written
compound known = record { known = known; scalar = false; optional = false }

abbrev pub written_step : Structs → Ty-F Written → Written
written_step structs type.Bool = scalar
written_step structs type.Int = scalar
written_step structs type.Str = scalar
written_step structs type.File = scalar
written_step structs (type.Array item some) = compound item.known
written_step structs (type.Map key value) = compound (key.known && key.scalar && value.known)
written_step structs (type.Pair left right) = compound (left.known && right.known)
written_step structs (type.Struct name) = compound (is_some (members_of structs name))
written_step structs (type.Opt inner) = record { known = inner.known && not inner.optional; scalar = false; optional = true }
written_step structs type.Absent = compound false
written_step structs type.Empty = compound false

-- A document can write the type: its structs are known, a map's keys are Boolean, Int, String or File, and no optional
-- type is in an optional one.
abbrev pub is_written : Structs → Ty → Bool
is_written structs t = (fold-Ty Written (written_step structs) t).known

abbrev pub structs_step : Ty-F (List (List ℕ)) → List (List ℕ)
structs_step (type.Array item some) = item
structs_step (type.Map key value) = key ++ value
structs_step (type.Pair left right) = left ++ right
structs_step (type.Struct name) = name ∷ []
structs_step (type.Opt inner) = inner
structs_step t = []

-- the structs that a type names
abbrev pub structs_of : Ty → List (List ℕ)
structs_of = fold-Ty (List (List ℕ)) structs_step

abbrev pub members_structs : List Member → List (List ℕ)
members_structs [] = []
members_structs (m ∷ ms) = structs_of m.ty ++ members_structs ms

abbrev pub some_structs : Option (List Member) → List (List ℕ)
some_structs None = []
some_structs (Some ms) = members_structs ms

-- A struct's members lead through at most that many structs, itself among them; a circle leads through more.
unfoldable pub is_shallow : ℕ → Structs → List ℕ → Bool
is_shallow zero structs name = false
is_shallow (suc n) structs name = list_all (is_shallow n structs) (some_structs (members_of structs name))

abbrev pub member_names : List Member → List (List ℕ)
member_names = map (λ (m : Member). m.name)

abbrev pub struct_names : Structs → List (List ℕ)
struct_names = map (λ (d : StructDef). d.name)

abbrev pub are_written : Structs → List Member → Bool
are_written structs [] = true
are_written structs (m ∷ ms) = is_written structs m.ty && are_written structs ms

abbrev pub is_struct : Structs → StructDef → Bool
is_struct structs d = are_distinct (member_names d.members) && are_written structs d.members && is_shallow 32 structs d.name

abbrev pub all_structs : Structs → List StructDef → Bool
all_structs structs [] = true
all_structs structs (d ∷ ds) = is_struct structs d && all_structs structs ds

-- names and members are distinct, members' types can be written, and no members lead through more than 32 structs
abbrev pub are_structs : Structs → Bool
are_structs structs = are_distinct (struct_names structs) && all_structs structs structs
