-- The leaves of struct inputs: their members, a member of a struct type being replaced by its own members.
use Rattle.std.specs.Prelude.{ℕ, zero, suc, ◌+◌, Bool, true, false, not, ◌&&◌, List, [], ◌∷◌, ◌++◌, Option, Some, None, option_and_then, option_map, if◌then◌else◌, map, is_none, nat_le}
use Rattle.std.specs.List.{list_all}
use Rattle.wdl_base.specs.Names.{is_name}
use Rattle.wdl_value.specs.declared.ty.Member.{Member}
use Rattle.wdl_value.specs.declared.ty.Ty.{Ty, Ty-F, out-Ty}
use Rattle.wdl_value.specs.declared.ty.Ty.TheOpen as type
use Rattle.wdl_value.specs.Fits.{Structs, members_of}
use Rattle.wdl_typed.specs.declared.flow.FlowDef.{FlowDef}
use Rattle.wdl_typed.specs.declared.flow.Statement.{Statement, Statement-F, fold-Statement}
use Rattle.wdl_typed.specs.declared.flow.Statement.TheOpen as layer
use Rattle.wdl_typed.specs.declared.task.TInput.{TInput}
use Rattle.wdl_typed.specs.Bodies.{append_all}
use Rattle.wdl_typed.specs.Kept.{flow_names}
use Rattle.wdl_typed.specs.Lists.{has_name}
use Rattle.leaf_image.specs.declared.leaf.Leaf.{Leaf}
use Rattle.leaf_image.specs.declared.leaf.Place.{Place}

-- ---- struct inputs

abbrev pub is_struct : Ty-F Ty → Bool
is_struct (type.Struct s) = true
is_struct t = false

-- of a struct type, and without a default
abbrev pub is_record : TInput → Bool
is_record i = is_none i.value && is_struct (out-Ty i.ty)

-- ---- paths

abbrev pub place : List ℕ → List (List ℕ) → Ty → Place
place input path t = record { input = input; path = path; ty = t }

abbrev pub all_places : (List (List ℕ) → Ty → List Place) → List (List ℕ) → List Member → List Place
all_places f path [] = []
all_places f path (m ∷ ms) = f (path ++ m.name ∷ []) m.ty ++ all_places f path ms

abbrev pub some_places : (List (List ℕ) → Ty → List Place) → List (List ℕ) → Option (List Member) → List Place
some_places f path None = []
some_places f path (Some ms) = all_places f path ms

abbrev pub struct_places : Structs → (List (List ℕ) → Ty → List Place) → List ℕ → List (List ℕ) → Ty → Ty-F Ty → List Place
struct_places structs f input path t (type.Struct s) = some_places f path (members_of structs s)
struct_places structs f input path t u = place input path t ∷ []

-- the leaves behind a path of that type; members lead through at most 32 structs
unfoldable pub places_at : Structs → ℕ → List ℕ → List (List ℕ) → Ty → List Place
places_at structs zero input path t = []
places_at structs (suc n) input path t = struct_places structs (places_at structs n input) input path t (out-Ty t)

abbrev pub input_places : Structs → TInput → List Place
input_places structs i = if is_record i then places_at structs 33 i.name [] i.ty else []

abbrev pub places_of : Structs → List TInput → List Place
places_of structs [] = []
places_of structs (i ∷ is) = input_places structs i ++ places_of structs is

-- ---- how many structs

abbrev pub all_structs : (Ty → ℕ) → List Member → ℕ
all_structs f [] = 0
all_structs f (m ∷ ms) = f m.ty + all_structs f ms

abbrev pub some_structs : (Ty → ℕ) → Option (List Member) → ℕ
some_structs f None = 0
some_structs f (Some ms) = all_structs f ms

abbrev pub struct_count : Structs → (Ty → ℕ) → Ty-F Ty → ℕ
struct_count structs f (type.Struct s) = 1 + some_structs f (members_of structs s)
struct_count structs f t = 0

-- the structs of a value of that type: itself, and those of its members, one for each path
unfoldable pub structs_at : Structs → ℕ → Ty → ℕ
structs_at structs zero t = 0
structs_at structs (suc n) t = struct_count structs (structs_at structs n) (out-Ty t)

-- An inputs file has no room for a value of more structs than this.
unfoldable pub most_structs : ℕ
most_structs = 262144

abbrev pub is_small : Structs → TInput → Bool
is_small structs i = if is_record i then nat_le (structs_at structs 33 i.ty) most_structs else true

-- ---- names

abbrev pub joined : List ℕ → List (List ℕ) → List ℕ
joined name [] = name
joined name (m ∷ ms) = joined (name ++ 95 ∷ m) ms

-- the text, if it is a name that is not taken
abbrev pub untaken : List (List ℕ) → List ℕ → Option (List ℕ)
untaken taken s = if is_name s && not (has_name s taken) then Some s else None

abbrev pub or_else : {A : Type 0} → Option A → Option A → Option A
or_else None o = o
or_else (Some a) o = Some a

-- the text with as many `_` behind it as make it a name that is not taken, with fewer than so many
unfoldable pub free : ℕ → List (List ℕ) → List ℕ → Option (List ℕ)
free zero taken s = None
free (suc n) taken s = or_else (untaken taken s) (free n taken (s ++ 95 ∷ []))

-- With 128 of them a text is too long for a name.
abbrev pub leaf_name : List (List ℕ) → Place → Option (List ℕ)
leaf_name taken p = free 129 taken (joined p.input p.path)

abbrev pub leaf : Place → List ℕ → Leaf
leaf p name = record { input = p.input; path = p.path; ty = p.ty; name = name }

abbrev pub named : List (List ℕ) → List Place → Option (List Leaf)
named taken [] = Some []
named taken (p ∷ ps) =
    option_and_then (λ name. option_map (λ ls. leaf p name ∷ ls) (named (taken ++ name ∷ []) ps)) (leaf_name taken p)

abbrev pub items_step : Statement-F (List (List ℕ)) → List (List ℕ)
items_step (layer.Decl d) = []
items_step (layer.Call c) = []
items_step (layer.Scatter s) = s.item ∷ append_all s.body
items_step (layer.If i) = append_all i.body

abbrev pub items_in : Statement → List (List ℕ)
items_in = fold-Statement (List (List ℕ)) items_step

-- the items of the scatters in statements
abbrev pub items_of : List Statement → List (List ℕ)
items_of ss = append_all (map items_in ss)

-- the names of a workflow
abbrev pub taken_by : FlowDef → List (List ℕ)
taken_by f = flow_names f ++ items_of f.body

-- the leaves of a workflow's struct inputs, if none of these is too large and each leaf has a name
abbrev pub leaves_of : Structs → FlowDef → Option (List Leaf)
leaves_of structs f =
    if list_all (is_small structs) f.inputs then named (taken_by f) (places_of structs f.inputs) else None
