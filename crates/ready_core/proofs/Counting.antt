-- How many elements of a list pass a test.
use Rattle.std.proofs.Common.{zero, suc, ◌≡◌, ◌<◌, ◌≤◌, ◌+◌, ℕ, Bool, true, false, cond, ◌&&◌, not, map, List, [], ◌∷◌, ◌++◌, Contains, length, take, drop, remove, count_by, slice_index_or, arith, sym, ap, ◌∙◌, refl, ◌⊎◌, inl, inr}
use Rattle.std.specs.List.{list_all, list_any}
use Rattle.std.proofs.lemmas.Bool.{false≢true, and_from, or_cases, or_parts, and_parts}
use Rattle.std.proofs.lemmas.List.{set-get_or, set_split}
use Rattle.std.proofs.lemmas.List.Sums.{sum_by-append, sum_by-cons, sum_by_push}
use Rattle.flow_laws.proofs.Elements.{contains_first, contains_later, first_or_later, none_within}

pub zero_if : (n : ℕ) → (0 < n → ⊥) → n ≡ 0
zero_if zero h = refl
zero_if (suc n) h = absurd (h (omega arith))

module _ {A : Type 0} (p : A → Bool) where
  abbrev one : A → ℕ
  one x = cond (p x) 1 0

  pub count_cons : (x : A) (xs : List A) → count_by p (x ∷ xs) ≡ one x + count_by p xs
  count_cons x xs = sum_by-cons one x xs

  pub count_push : (xs : List A) (x : A) → count_by p (xs ++ x ∷ []) ≡ count_by p xs + one x
  count_push xs x = sum_by_push one xs x

  -- the one at a place, and the others
  pub count_cut : (xs : List A) (i : ℕ) (x : A) → i < length xs → slice_index_or xs i x ≡ x → count_by p xs ≡ count_by p (remove xs i) + one x
  count_cut xs i x within is =
      let split : xs ≡ take i xs ++ x ∷ drop (suc i) xs = sym (set-get_or xs i x) ∙ set_split xs i (slice_index_or xs i x) within ∙ ap (λ y. take i xs ++ y ∷ drop (suc i) xs) is in
      omega (arith, ap (count_by p) split, sum_by-append one (take i xs) (x ∷ drop (suc i) xs), sum_by-cons one x (drop (suc i) xs), sum_by-append one (take i xs) (drop (suc i) xs))

  pub none_counts : (xs : List A) → list_any p xs ≡ false → count_by p xs ≡ 0
  none_counts [] h = refl
  none_counts (x ∷ xs) h =
      let q = or_parts (p x) (list_any p xs) h in
      omega (arith, count_cons x xs, ap (λ b. cond {A = ℕ} b 1 0) q.0, none_counts xs q.1)

  pub found : (xs : List A) → 0 < count_by p xs → (x : A) × Contains xs x × (p x ≡ true)
  found [] h = absurd (omega (arith, h))
  found (x ∷ xs) h = by_test (found xs) (p x) refl
    where
      by_test : (0 < count_by p xs → (y : A) × Contains xs y × (p y ≡ true)) → (b : Bool) → p x ≡ b → (y : A) × Contains (x ∷ xs) y × (p y ≡ true)
      by_test rest true e = (x, contains_first x xs, e)
      by_test rest false e =
          let q = rest (omega (arith, h, count_cons x xs, ap (λ b. cond {A = ℕ} b 1 0) e)) in
          (q.0, contains_later x xs q.0 q.1, q.2)

  pub counts : (xs : List A) (x : A) → Contains xs x → p x ≡ true → 0 < count_by p xs
  counts [] x c e = absurd (none_within x c)
  counts (y ∷ xs) x c e = by_case (λ d. counts xs x d e) (first_or_later y xs x c)
    where
      by_case : (Contains xs x → 0 < count_by p xs) → (y ≡ x) ⊎ Contains xs x → 0 < count_by p (y ∷ xs)
      by_case rest (inl same) = omega (arith, count_cons y xs, ap (λ b. cond {A = ℕ} b 1 0) (ap p same ∙ e))
      by_case rest (inr d) = omega (arith, count_cons y xs, rest d)

  pub passes_at : (xs : List A) → list_all p xs ≡ true → (x : A) → Contains xs x → p x ≡ true
  passes_at [] h x c = absurd (none_within x c)
  passes_at (y ∷ xs) h x c =
      let q = and_parts (p y) (list_all p xs) h in
      by_case q.0 (passes_at xs q.1 x) (first_or_later y xs x c)
    where
      by_case : p y ≡ true → (Contains xs x → p x ≡ true) → (y ≡ x) ⊎ Contains xs x → p x ≡ true
      by_case here rest (inl same) = ap p (sym same) ∙ here
      by_case here rest (inr d) = rest d

  -- where some pass, one does
  pub any_counts : (xs : List A) → 0 < count_by p xs → list_any p xs ≡ true
  any_counts xs some = by_test (list_any p xs) refl
    where
      by_test : (b : Bool) → list_any p xs ≡ b → b ≡ true
      by_test true e = refl
      by_test false e = absurd (omega (arith, some, none_counts xs e))

  pub counts_any : (xs : List A) → list_any p xs ≡ true → 0 < count_by p xs
  counts_any [] h = absurd (false≢true h)
  counts_any (x ∷ xs) h = by_case (counts_any xs) (or_cases (p x) (list_any p xs) h)
    where
      by_case : (list_any p xs ≡ true → 0 < count_by p xs) → (p x ≡ true) ⊎ (list_any p xs ≡ true) → 0 < count_by p (x ∷ xs)
      by_case rest (inl e) = omega (arith, count_cons x xs, ap (λ b. cond {A = ℕ} b 1 0) e)
      by_case rest (inr e) = omega (arith, count_cons x xs, rest e)

  pub all_pass : (xs : List A) → ((x : A) → Contains xs x → p x ≡ true) → list_all p xs ≡ true
  all_pass [] h = refl
  all_pass (x ∷ xs) h = and_from (p x) (list_all p xs) (h x (contains_first x xs)) (all_pass xs (λ y c. h y (contains_later x xs y c)))

  pub count_joined : (xs ys : List A) → count_by p (xs ++ ys) ≡ count_by p xs + count_by p ys
  count_joined = sum_by-append one

-- Those that pass and those that do not are all.
module _ {A : Type 0} (p q : A → Bool) where
  split_one : (a b : Bool) → cond {A = ℕ} (a && b) 1 0 + cond {A = ℕ} (a && not b) 1 0 ≡ cond a 1 0
  split_one true true = refl
  split_one true false = refl
  split_one false b = refl

  pub count_split : (xs : List A) → count_by (λ x. p x && q x) xs + count_by (λ x. p x && not (q x)) xs ≡ count_by p xs
  count_split [] = refl
  count_split (x ∷ xs) =
      omega (arith, count_cons (λ y. p y && q y) x xs, count_cons (λ y. p y && not (q y)) x xs, count_cons p x xs, split_one (p x) (q x), count_split xs)

  pub count_both : (xs : List A) → count_by (λ x. p x && q x) xs ≤ count_by p xs
  count_both xs = omega (arith, count_split xs)

pub count_mapped : {A B : Type 0} (f : A → B) (p : B → Bool) (xs : List A) → count_by p (map f xs) ≡ count_by (λ x. p (f x)) xs
count_mapped f p [] = refl
count_mapped f p (x ∷ xs) = omega (arith, count_cons p (f x) (map f xs), count_cons (λ y. p (f y)) x xs, count_mapped f p xs)

pub count_same : {A : Type 0} (p q : A → Bool) → ((x : A) → p x ≡ q x) → (xs : List A) → count_by p xs ≡ count_by q xs
count_same p q h [] = refl
count_same p q h (x ∷ xs) = omega (arith, count_cons p x xs, count_cons q x xs, ap (λ b. cond {A = ℕ} b 1 0) (h x), count_same p q h xs)
