-- Orders of numbered members, by what each needs.
use Rattle.std.specs.Prelude.{◌≡◌, ℕ, Bool, true, false, not, ◌&&◌, ◌||◌, ◌==◌, List, [], ◌∷◌, length}
use Rattle.std.specs.Cmp.Lexicographic.{slice_cmp}
use Rattle.std.specs.List.{list_all, range_with_len}
use Rattle.std.specs.Ordering.{is_lt, nat_cmp}
use Rattle.wdl_typed.specs.Lists.{are_counted, has_number}

-- whether the first member needs the second
abbrev pub Need : Type 0
Need = ℕ → ℕ → Bool

-- Each member that this one needs is among these.
abbrev pub follows : ℕ → Need → List ℕ → ℕ → Bool
follows count need before p = list_all (λ q. not (need p q) || has_number q before) (range_with_len 0 count)

abbrev pub all_follow : ℕ → Need → List ℕ → List ℕ → Bool
all_follow count need before [] = true
all_follow count need before (p ∷ ps) = follows count need before p && all_follow count need (p ∷ before) ps

-- each number below the count once, each member after those that it needs
abbrev pub is_order_of : ℕ → Need → List ℕ → Bool
is_order_of count need ps = are_counted ps && (length ps == count) && all_follow count need [] ps

-- the least of these orders, compared from the left
pub record IsLeastOf (count : ℕ) (need : Need) (ps : List ℕ) : Type 0 where
  pub order : is_order_of count need ps ≡ true
  pub least : (qs : List ℕ) → is_order_of count need qs ≡ true → is_lt (slice_cmp nat_cmp qs ps) ≡ false

abbrev pub HasNone : ℕ → Need → Type 0
HasNone count need = (qs : List ℕ) → is_order_of count need qs ≡ false
