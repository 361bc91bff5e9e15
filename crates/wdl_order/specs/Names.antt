-- The names that members give and refer to.
use Rattle.std.specs.Prelude.{ℕ, Bool, false, List, [], Option, Some, None, slice_get, String, Vec}
use Rattle.std.specs.BTreeMap.{BTreeMap, get_by_text}
use Rattle.std.specs.Option.{option_map_or}
use Rattle.wdl_order.specs.declared.uses.Uses.{Uses}
use Rattle.wdl_order.specs.Positions.{Need}
use Rattle.wdl_typed.specs.Lists.{has_name}
use Rattle.wdl_typed.specs.Order.{Needing, needs_some}

abbrev pub as_needing : Uses → Needing
as_needing u = record { gives = u.gives; refers = u.refers }

abbrev pub gives_name : List ℕ → Option Needing → Bool
gives_name name None = false
gives_name name (Some n) = has_name name n.gives

-- whether the member at q gives the name
abbrev pub gives_at : List Needing → ℕ → List ℕ → Bool
gives_at all q name = gives_name name (slice_get all q)

abbrev pub needs_between : Option Needing → Option Needing → Bool
needs_between None n = false
needs_between (Some m) n = needs_some m n

-- whether the member at p needs the one at q
abbrev pub needs_at : List Needing → Need
needs_at all p q = needs_between (slice_get all p) (slice_get all q)

-- the members that give the name
abbrev pub givers_of : {Y Z : Type 0} → BTreeMap (String Y) (Vec ℕ Z) → List ℕ → List ℕ
givers_of givers name = option_map_or (λ members. members.items) (get_by_text givers name) []
