-- What is answered for a list.
use Rattle.std.specs.Prelude.{◌≡◌, ◌<◌, ℕ, false, List, length}
use Rattle.wdl_order.specs.declared.least.Found.{Found}
use Rattle.wdl_order.specs.declared.least.Found.TheVariants.{Order, Stuck}
use Rattle.wdl_typed.specs.Order.{Needing, IsLeastOrder, is_order}

abbrev pub IsCircular : List Needing → Type 0
IsCircular all = (qs : List ℕ) → is_order all qs ≡ false

-- the positions of the least dependency order, or a member where there is none
abbrev pub Orders : List Needing → Found → Type 0
Orders all (Order ps) = IsLeastOrder all ps.items
Orders all (Stuck at) = (at < length all) × IsCircular all
