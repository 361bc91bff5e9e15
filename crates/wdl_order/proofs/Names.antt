-- The names that members give and refer to, name by name.
use Rattle.std.proofs.Common.{◌≡◌, ℕ, Bool, true, false, ◌==◌, ◌||◌, ◌&&◌, cond, suc, zero, Option, Some, None, List, [], ◌∷◌, ◌++◌, map, refl, ap, ◌∙◌}
use Rattle.std.proofs.lemmas.List.Concat.{flat_map-cons}
use Rattle.std.specs.List.{flat_map, list_any, slice_get}
use Rattle.wdl_order.proofs.Numbers.{has-append}
use Rattle.wdl_order.specs.declared.uses.Uses.{Uses}
use Rattle.wdl_order.specs.Names.{as_needing, gives_at, gives_name, needs_at, needs_between}
use Rattle.wdl_order.specs.Rows.{has}
use Rattle.wdl_typed.specs.Lists.{has_number}
use Rattle.wdl_typed.specs.Order.{Needing, needs_some}

-- ---- who gives a name

-- one more member of those that give a name
pub added : (old new : List ℕ) (m q : ℕ) (b r : Bool) → new ≡ cond b (old ++ m ∷ []) old
    → (has_number q new || (r && (m == q))) ≡ (has_number q old || ((b || r) && (m == q)))
added old new m q true r e =
    ap (λ ns. has_number q ns || (r && (m == q))) e ∙ ap (λ h. h || (r && (m == q))) (has-append q old (m ∷ [])) ∙ mix (has_number q old) (m == q) r
  where
    mix : (h d s : Bool) → ((h || (d || false)) || (s && d)) ≡ (h || (true && d))
    mix true d s = refl
    mix false true s = refl
    mix false false true = refl
    mix false false false = refl
added old new m q false r e = ap (λ ns. has_number q ns || (r && (m == q))) e

-- ---- who needs whom

none_gives : (names : List (List ℕ)) → list_any (λ x. gives_name x None) names ≡ false
none_gives [] = refl
none_gives (x ∷ xs) = none_gives xs

some_gives : (m : Needing) (n : Option Needing) → list_any (λ x. gives_name x n) m.refers ≡ needs_some m n
some_gives m None = none_gives m.refers
some_gives m (Some k) = refl

any_gives : (f : List ℕ → List ℕ) (q : ℕ) (n : Option Needing) → ((x : List ℕ) → has_number q (f x) ≡ gives_name x n)
    → (names : List (List ℕ)) → has_number q (flat_map f names) ≡ list_any (λ x. gives_name x n) names
any_gives f q n h [] = refl
any_gives f q n h (x ∷ xs) =
    ap (has_number q) (flat_map-cons f x xs) ∙ has-append q (f x) (flat_map f xs)
    ∙ ap (λ b. b || has_number q (flat_map f xs)) (h x) ∙ ap (λ b. gives_name x n || b) (any_gives f q n h xs)

abbrev row_by : (List ℕ → List ℕ) → Uses → List ℕ
row_by f u = flat_map f u.refers

row_needs : (f : List ℕ → List ℕ) (q : ℕ) (n : Option Needing) → ((x : List ℕ) → has_number q (f x) ≡ gives_name x n)
    → (us : List Uses) (p : ℕ) → has (map (row_by f) us) p q ≡ needs_between (slice_get (map as_needing us) p) n
row_needs f q n h [] p = refl
row_needs f q n h (u ∷ us) zero = any_gives f q n h u.refers ∙ some_gives (as_needing u) n
row_needs f q n h (u ∷ us) (suc p) = row_needs f q n h us p

pub rows_need : (f : List ℕ → List ℕ) (us : List Uses) (rows : List (List ℕ)) → rows ≡ map (row_by f) us
    → ((x : List ℕ) (q : ℕ) → has_number q (f x) ≡ gives_at (map as_needing us) q x)
    → (p q : ℕ) → has rows p q ≡ needs_at (map as_needing us) p q
rows_need f us rows e h p q =
    ap (λ rs. has rs p q) e ∙ row_needs f q (slice_get (map as_needing us) q) (λ x. h x q) us p
