-- Where the first item stands that passes a test, and an index that finds it.
use Rattle.std.specs.Prelude.{◌≡◌, ℕ, Bool, false, List, Option, Some, None, if◌then◌else◌}
use Rattle.std.specs.List.{position_from, slice_get}
use Rattle.std.specs.Option.{option_and_then}

-- where the first item stands that passes
abbrev pub first_place_of : {X : Type 0} → (X → Bool) → List X → Option ℕ
first_place_of test xs = position_from test 0 xs

-- an index has the place of the first item that passes each query's test, and may have any place where no item passes
abbrev pub Finds : {Q X : Type 0} → (Q → X → Bool) → (Q → Option ℕ) → List X → Type 0
Finds {Q} test at xs = (q : Q) (p : ℕ) → first_place_of (test q) xs ≡ Some p → at q ≡ Some p

abbrev pub passing : {X : Type 0} → (X → Bool) → Option X → Option X
passing test None = None
passing test (Some x) = if test x then Some x else None

-- the item at a place, where it passes
abbrev pub item_at : {X : Type 0} → (X → Bool) → List X → Option ℕ → Option X
item_at test xs place = passing test (option_and_then (slice_get xs) place)

abbrev pub passes : {X : Type 0} → (X → Bool) → Option X → Bool
passes test None = false
passes test (Some x) = test x
