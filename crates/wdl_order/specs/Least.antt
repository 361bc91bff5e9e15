-- The least dependency order of a list: each member after those that it needs, and otherwise in the order of the list.
use Rattle.std.specs.Prelude.{ℕ, zero, suc, Bool, not, ◌&&◌, List, [], ◌∷◌, Option, Some, option_map, option_and_then, length}
use Rattle.std.specs.List.{find, range_with_len}
use Rattle.wdl_order.specs.Names.{needs_at}
use Rattle.wdl_order.specs.Positions.{Need, follows}
use Rattle.wdl_typed.specs.Lists.{has_number}
use Rattle.wdl_typed.specs.Order.{Needing}

-- a member that does not stand among these, and needs no other than these
abbrev pub is_ready : ℕ → Need → List ℕ → ℕ → Bool
is_ready count need before p = not (has_number p before) && follows count need before p

abbrev pub next : ℕ → Need → List ℕ → Option ℕ
next count need before = find (is_ready count need before) (range_with_len 0 count)

-- so many more members behind these, the first that is ready each time
unfoldable pub order_behind : ℕ → Need → List ℕ → ℕ → Option (List ℕ)
order_behind count need before zero = Some []
order_behind count need before (suc n) =
    option_and_then (λ p. option_map (λ ps. p ∷ ps) (order_behind count need (p ∷ before) n)) (next count need before)

-- the positions of the members, or nothing where they need one another in a circle
abbrev pub least_order : List Needing → Option (List ℕ)
least_order all = order_behind (length all) (needs_at all) [] (length all)
