-- Elements of lists that grow, and of which one is taken out.
use Rattle.std.proofs.Common.{◌≡◌, ◌≢◌, ◌<◌, ◌⊎◌, inl, inr, ℕ, zero, suc, ◌+◌, ◌-◌, List, [], ◌∷◌, ◌++◌, Some, length, get_or, take, slice_get, arith, ap, refl, sym, ◌∙◌}
use Rattle.std.specs.List.{slice_set, swap_remove}
use Rattle.std.proofs.lemmas.List.{length-set, length-take-le}
use Rattle.std.proofs.lemmas.Option.{same_Some}
use Rattle.step_net.proofs.Gets.{get_other, get_same, get_set}

module _ {A : Type 0} where
  pub within : (xs : List A) (i : ℕ) (y : A) → slice_get xs i ≡ Some y → i < length xs
  within [] i y e = cc
  within (x ∷ xs) zero y e = omega arith
  within (x ∷ xs) (suc i) y e = let h : i < length xs = within xs i y e in omega (arith, h)

  pub get_left : (xs ys : List A) (i : ℕ) (y : A) → slice_get xs i ≡ Some y → slice_get (xs ++ ys) i ≡ Some y
  get_left [] ys i y e = cc
  get_left (x ∷ xs) ys zero y e = e
  get_left (x ∷ xs) ys (suc i) y e = get_left xs ys i y e

  pub get_last : (xs : List A) (y : A) → slice_get (xs ++ y ∷ []) (length xs) ≡ Some y
  get_last [] y = refl
  get_last (x ∷ xs) y = get_last xs y

  -- An element behind a push was there, or is the last one.
  pub get_push : (xs : List A) (x y : A) (i : ℕ) → slice_get (xs ++ x ∷ []) i ≡ Some y → (slice_get xs i ≡ Some y) ⊎ ((i ≡ length xs) × (y ≡ x))
  get_push [] x y zero e = inr (refl, sym (same_Some _ _ e))
  get_push [] x y (suc i) e = cc
  get_push (z ∷ xs) x y zero e = inl e
  get_push (z ∷ xs) x y (suc i) e = shifted (get_push xs x y i e)
    where
      shifted : (slice_get xs i ≡ Some y) ⊎ ((i ≡ length xs) × (y ≡ x)) → (slice_get (z ∷ xs) (suc i) ≡ Some y) ⊎ ((suc i ≡ length (z ∷ xs)) × (y ≡ x))
      shifted (inl h) = inl h
      shifted (inr h) = inr (omega (arith, h.0), h.1)

  pub get_front : (n : ℕ) (xs : List A) (i : ℕ) (y : A) → slice_get (take n xs) i ≡ Some y → (i < n) × (slice_get xs i ≡ Some y)
  get_front zero xs i y e = cc
  get_front (suc n) [] i y e = cc
  get_front (suc n) (x ∷ xs) zero y e = (omega arith, e)
  get_front (suc n) (x ∷ xs) (suc i) y e = let h : (i < n) × (slice_get xs i ≡ Some y) = get_front n xs i y e in (omega (arith, h.0), h.1)

  pub read_at : (xs : List A) (i : ℕ) (d y : A) → i < length xs → y ≡ get_or xs i d → slice_get xs i ≡ Some y
  read_at [] i d y h e = absurd (omega (arith, h))
  read_at (x ∷ xs) zero d y h e = ap Some (sym e)
  read_at (x ∷ xs) (suc i) d y h e = read_at xs i d y (omega (arith, h)) e

  -- Of what is left, the element at k is the last one, and the others are those that were there.
  pub get_swapped : (xs : List A) (k : ℕ) (d : A) (i : ℕ) (y : A) → k < length xs → slice_get (swap_remove xs k d) i ≡ Some y
      → (i + 1 < length xs) × (((i ≡ k) × (slice_get xs (length xs - 1) ≡ Some y)) ⊎ ((i ≢ k) × (slice_get xs i ≡ Some y)))
  get_swapped xs k d i y inside e = (omega (arith, front.0, inside), by_case (get_set xs k i (get_or xs (length xs - 1) d) y inside front.1))
    where
      front : (i < length xs - 1) × (slice_get (slice_set xs k (get_or xs (length xs - 1) d)) i ≡ Some y)
      front = get_front (length xs - 1) (slice_set xs k (get_or xs (length xs - 1) d)) i y e

      by_case : ((i ≡ k) × (y ≡ get_or xs (length xs - 1) d)) ⊎ ((i ≢ k) × (slice_get xs i ≡ Some y)) → ((i ≡ k) × (slice_get xs (length xs - 1) ≡ Some y)) ⊎ ((i ≢ k) × (slice_get xs i ≡ Some y))
      by_case (inl h) = inl (h.0, read_at xs (length xs - 1) d y (omega (arith, inside)) h.1)
      by_case (inr h) = inr h

  get_taken : (n : ℕ) (xs : List A) (i : ℕ) → i < n → slice_get (take n xs) i ≡ slice_get xs i
  get_taken zero xs i h = absurd (omega (arith, h))
  get_taken (suc n) [] i h = refl
  get_taken (suc n) (x ∷ xs) zero h = refl
  get_taken (suc n) (x ∷ xs) (suc i) h = get_taken n xs i (omega (arith, h))

  get_or_is : (xs : List A) (i : ℕ) (d y : A) → slice_get xs i ≡ Some y → get_or xs i d ≡ y
  get_or_is [] i d y e = cc
  get_or_is (x ∷ xs) zero d y e = same_Some _ _ e
  get_or_is (x ∷ xs) (suc i) d y e = get_or_is xs i d y e

  pub put_last : (xs : List A) (k : ℕ) (d : A) (i : ℕ) (y : A) → i + 1 < length xs → i ≡ k → slice_get xs (length xs - 1) ≡ Some y → slice_get (swap_remove xs k d) i ≡ Some y
  put_last xs k d i y less same e =
      get_taken (length xs - 1) (slice_set xs k (get_or xs (length xs - 1) d)) i (omega (arith, less))
      ∙ ap (slice_get (slice_set xs k (get_or xs (length xs - 1) d))) same
      ∙ get_same xs k (get_or xs (length xs - 1) d) (omega (arith, less, same)) ∙ ap Some (get_or_is xs (length xs - 1) d y e)

  pub put_other : (xs : List A) (k : ℕ) (d : A) (i : ℕ) (y : A) → i + 1 < length xs → i ≢ k → slice_get xs i ≡ Some y → slice_get (swap_remove xs k d) i ≡ Some y
  put_other xs k d i y less other e =
      get_taken (length xs - 1) (slice_set xs k (get_or xs (length xs - 1) d)) i (omega (arith, less)) ∙ get_other xs k i (get_or xs (length xs - 1) d) other ∙ e

swapped : {A : Type 0} (xs : List A) (k : ℕ) (d : A) → length (swap_remove xs k d) ≡ length xs - 1
swapped xs k d = length-take-le (length xs - 1) (slice_set xs k (get_or xs (length xs - 1) d)) (omega (arith, length-set xs k (get_or xs (length xs - 1) d)))

pub swapped_length : {A B : Type 0} (xs : List A) (ys : List B) (k : ℕ) (d : A) (e : B) → length xs ≡ length ys → length (swap_remove xs k d) ≡ length (swap_remove ys k e)
swapped_length xs ys k d e h = swapped xs k d ∙ ap (λ (n : ℕ). n - 1) h ∙ sym (swapped ys k e)
