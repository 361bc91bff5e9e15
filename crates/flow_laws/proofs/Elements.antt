-- Elements of lists, by the first one and those behind it.
use Rattle.std.proofs.Common.{◌≡◌, ℕ, zero, suc, ◌<◌, ◌⊎◌, inl, inr, List, [], ◌∷◌, Contains, slice_index_or, arith, refl}
use Rattle.std.proofs.lemmas.List.Elements.{Contains-append_cases, Contains-append_right}

pub only_one : {A : Type 0} {x y : A} → Contains (x ∷ []) y → x ≡ y
only_one {x = x} {y = y} c = by_place c.0 c.1 c.2
  where
    by_place : (k : ℕ) → k < 1 → slice_index_or (x ∷ []) k y ≡ y → x ≡ y
    by_place zero l e = e
    by_place (suc k) l e = absurd (omega arith)

pub none_within : {A : Type 0} (x : A) → Contains [] x → ⊥
none_within x c = omega (arith, c.1)

pub first_or_later : {A : Type 0} (x : A) (xs : List A) (y : A) → Contains (x ∷ xs) y → (x ≡ y) ⊎ Contains xs y
first_or_later x xs y c = by_case (Contains-append_cases (x ∷ []) xs y c)
  where
    by_case : Contains (x ∷ []) y ⊎ Contains xs y → (x ≡ y) ⊎ Contains xs y
    by_case (inl d) = inl (only_one d)
    by_case (inr d) = inr d

pub contains_first : {A : Type 0} (x : A) (xs : List A) → Contains (x ∷ xs) x
contains_first x xs = (0, omega arith, refl)

pub contains_later : {A : Type 0} (x : A) (xs : List A) (y : A) → Contains xs y → Contains (x ∷ xs) y
contains_later x xs y c = Contains-append_right (x ∷ []) xs y c
