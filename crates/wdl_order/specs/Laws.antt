-- What the order is: taking the first member that is ready again and again is said in the subject's own words.
use Rattle.std.specs.Prelude.{◌≡◌, ℕ, List, Some, None}
use Rattle.wdl_typed.specs.Order.{Needing, IsLeastOrder}
use Rattle.wdl_order.specs.Least.{least_order}
use Rattle.wdl_order.specs.Outcome.{IsCircular}

-- the positions are those of the least dependency order
abbrev pub LeastOrders : Type 0
LeastOrders = (all : List Needing) (ps : List ℕ) → least_order all ≡ Some ps → IsLeastOrder all ps

-- there is no other
abbrev pub OneOrder : Type 0
OneOrder = (all : List Needing) (ps : List ℕ) → IsLeastOrder all ps → least_order all ≡ Some ps

-- there is nothing only where there is no dependency order, and wherever there is none
abbrev pub NothingIsCircular : Type 0
NothingIsCircular = (all : List Needing) → least_order all ≡ None → IsCircular all

abbrev pub CircularIsNothing : Type 0
CircularIsNothing = (all : List Needing) → IsCircular all → least_order all ≡ None
