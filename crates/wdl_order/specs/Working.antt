-- Members that wait for one another: what holds while they are placed one by one.
use Rattle.std.specs.Prelude.{◌≡◌, ◌≢◌, ℕ, ◌<◌, Bool, true, false, ◌⊎◌, List, length}
use Rattle.std.specs.BTreeSet.{BTreeSet, contains}
use Rattle.std.specs.Ordering.{nat_cmp}
use Rattle.wdl_typed.specs.Lists.{has_number}
use Rattle.wdl_order.specs.declared.working.Working.{Working}
use Rattle.wdl_order.specs.declared.least.Found.{Found}
use Rattle.wdl_order.specs.declared.least.Found.TheVariants.{Order, Stuck}
use Rattle.wdl_order.specs.Positions.{Need, IsLeastOf, HasNone}
use Rattle.wdl_order.specs.Rows.{AllBelow, has, is_set, row}

-- ys is xs without some numbers of row p, whose flags are set
pub record Trims (xs ys : List (List ℕ)) (flags : List Bool) (p : ℕ) : Type 0 where
  pub long : length ys ≡ length xs
  pub others : (r : ℕ) → r ≢ p → row ys r ≡ row xs r
  pub less : (q : ℕ) → has ys p q ≡ true → has xs p q ≡ true
  pub lost : (q : ℕ) → has xs p q ≡ true → (is_set flags q ≡ true) ⊎ (has ys p q ≡ true)

-- what each member still needs, which wait for it, and which are placed: as many as members, and each number is that of a member
pub record AreSized (left waiting : List (List ℕ)) (placed : List Bool) : Type 0 where
  pub rows : length waiting ≡ length left
  pub flags : length placed ≡ length left
  pub in_left : (p : ℕ) → AllBelow (length left) (row left p)
  pub in_waiting : (p : ℕ) → AllBelow (length left) (row waiting p)

abbrev pub IsMet : Need → List Bool → ℕ → Type 0
IsMet need placed p = (q : ℕ) → need p q ≡ true → is_set placed q ≡ true

-- Each member that is not placed is ready, is still to be settled, or waits for one that is not placed.
pub record AreKept (need : Need) (left waiting : List (List ℕ)) (placed : List Bool) (ready : BTreeSet ℕ) (rest : List ℕ) : Type 0 where
  pub sized : AreSized left waiting placed
  pub small : (p q : ℕ) → need p q ≡ true → (p < length left) × (q < length left)
  pub accounted : (p q : ℕ) → need p q ≡ true → (is_set placed q ≡ true) ⊎ (has left p q ≡ true)
  pub awaited : (p q : ℕ) → has waiting q p ≡ true → (need p q ≡ true) × (is_set placed q ≡ false)
  pub needed : (p q : ℕ) → has left p q ≡ true → need p q ≡ true
  pub free : (p : ℕ) → contains nat_cmp ready p ≡ true → (p < length left) × (is_set placed p ≡ false) × IsMet need placed p
  pub closed : (p : ℕ) → is_set placed p ≡ true → IsMet need placed p
  pub pending : (p : ℕ) → has_number p rest ≡ true → (p < length left) × (is_set placed p ≡ false)
  pub held : (p : ℕ) → p < length left → is_set placed p ≡ false
      → (contains nat_cmp ready p ≡ true) ⊎ ((has_number p rest ≡ true) ⊎ ((q : ℕ) × (has waiting q p ≡ true)))

abbrev pub IsKept : Need → Working → List ℕ → Type 0
IsKept need w rest = AreKept need w.left.items w.waiting.items w.placed.items w.ready rest

-- Nothing keeps the member from being placed.
pub record IsFree (need : Need) (placed : List Bool) (ready : BTreeSet ℕ) (p : ℕ) : Type 0 where
  pub taken : contains nat_cmp ready p ≡ false
  pub met : IsMet need placed p

-- the least order, or a member where there is none
abbrev pub Answers : ℕ → Need → Found → Type 0
Answers count need (Order ps) = IsLeastOf count need ps.items
Answers count need (Stuck at) = (at < count) × HasNone count need
