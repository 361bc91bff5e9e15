-- Elements of lists that are made of others.
use Rattle.std.proofs.Common.{◌≡◌, ℕ, zero, suc, ◌+◌, ◌<◌, ◌≤◌, ◌⊎◌, inl, inr, List, [], ◌∷◌, ◌++◌, length, replicate, Some, None, slice_get, slice_set, arith, ap, refl, Option}

module _ {A : Type 0} where
  -- ---- one list behind another

  pub get_left : (xs ys : List A) (i : ℕ) (x : A) → slice_get xs i ≡ Some x → slice_get (xs ++ ys) i ≡ Some x
  get_left [] ys i x h = absurd (let f : ⊥ = cc in f)
  get_left (y ∷ xs) ys zero x h = h
  get_left (y ∷ xs) ys (suc i) x h = get_left xs ys i x h

  pub get_old : (xs ys : List A) (i : ℕ) → i < length xs → slice_get (xs ++ ys) i ≡ slice_get xs i
  get_old [] ys i h = absurd (omega arith)
  get_old (y ∷ xs) ys zero h = refl
  get_old (y ∷ xs) ys (suc i) h = get_old xs ys i (omega (arith, h))

  pub get_at : (xs ys : List A) (i j : ℕ) → j ≡ length xs + i → slice_get (xs ++ ys) j ≡ slice_get ys i
  get_at [] ys i j e = let same : j ≡ i = omega (arith, e) in ap (slice_get ys) same
  get_at (x ∷ xs) ys i zero e = absurd (omega (arith, e))
  get_at (x ∷ xs) ys i (suc j) e = get_at xs ys i j (omega (arith, e))

  pub get_right : (xs ys : List A) (i : ℕ) → slice_get (xs ++ ys) (length xs + i) ≡ slice_get ys i
  get_right xs ys i = get_at xs ys i (length xs + i) refl

  -- where an element of both stands
  pub get_split : (xs ys : List A) (i : ℕ) (x : A) → slice_get (xs ++ ys) i ≡ Some x → (slice_get xs i ≡ Some x) ⊎ ((j : ℕ) × (i ≡ length xs + j) × (slice_get ys j ≡ Some x))
  get_split [] ys i x h = inr (i, omega arith, h)
  get_split (y ∷ xs) ys zero x h = inl h
  get_split (y ∷ xs) ys (suc i) x h = on (get_split xs ys i x h)
    where
      on : (slice_get xs i ≡ Some x) ⊎ ((j : ℕ) × (i ≡ length xs + j) × (slice_get ys j ≡ Some x)) → (slice_get xs i ≡ Some x) ⊎ ((j : ℕ) × (suc i ≡ length (y ∷ xs) + j) × (slice_get ys j ≡ Some x))
      on (inl e) = inl e
      on (inr (j, e, is)) = inr (j, omega (arith, e), is)

  pub get_none : (xs : List A) (i : ℕ) → slice_get xs i ≡ None → length xs ≤ i
  get_none [] i h = omega arith
  get_none (x ∷ xs) zero h = absurd (let f : ⊥ = cc in f)
  get_none (x ∷ xs) (suc i) h = let le = get_none xs i h in omega (arith, le)

  pub get_copy : (n i : ℕ) (x : A) → i < n → slice_get (replicate n x) i ≡ Some x
  get_copy zero i x h = absurd (omega (arith, h))
  get_copy (suc n) zero x h = refl
  get_copy (suc n) (suc i) x h = get_copy n i x (omega (arith, h))

  -- ---- one element set

  pub get_set : (xs : List A) (i : ℕ) (x : A) → i < length xs → slice_get (slice_set xs i x) i ≡ Some x
  get_set [] i x h = absurd (omega arith)
  get_set (y ∷ xs) zero x h = refl
  get_set (y ∷ xs) (suc i) x h = get_set xs i x (omega (arith, h))

  pub get_unset : (xs : List A) (i j : ℕ) (x : A) → (j ≡ i → ⊥) → slice_get (slice_set xs i x) j ≡ slice_get xs j
  get_unset [] i j x n = refl
  get_unset (y ∷ xs) zero zero x n = absurd (n refl)
  get_unset (y ∷ xs) zero (suc j) x n = refl
  get_unset (y ∷ xs) (suc i) zero x n = refl
  get_unset (y ∷ xs) (suc i) (suc j) x n = get_unset xs i j x (λ e. n (omega (arith, e)))

  -- A list that has all that another has is as long at least.
  pub kept_length : (xs ys : List A) → ((i : ℕ) (x : A) → slice_get xs i ≡ Some x → slice_get ys i ≡ Some x) → length xs ≤ length ys
  kept_length [] ys h = omega arith
  kept_length (x ∷ xs) [] h = absurd (let z : ⊥ = none_there (h 0 x refl) in z)
    where
      none_there : (let o : Option A = None in o ≡ Some x) → ⊥
      none_there e = cc
  kept_length (x ∷ xs) (y ∷ ys) h = let rest = kept_length xs ys (λ i z e. h (suc i) z e) in omega (arith, rest)
