-- Elements of lists, and names among them.
use Rattle.std.proofs.Common.{◌≡◌, ℕ, zero, suc, nat_lt, ◌⊎◌, inl, inr, Bool, true, false, ◌||◌, List, [], ◌∷◌, ◌++◌, map, length, Some, Contains, arith, sym, ap, ◌∙◌, subst, refl}
use Rattle.std.specs.List.{slice_get}
use Rattle.std.specs.Str.{bytes_eq}
use Rattle.std.proofs.lemmas.Bool.{false≢true, lt-ltb, ltb-true, or_left, or_right}
use Rattle.std.proofs.lemmas.Slice.Eq.{bytes_eq-Decides}
use Rattle.wdl_typed.specs.Lists.{has_name}
use Rattle.cwl_model.proofs.Rounds.{first_is, first_or_later, later_is, none_is}
use Rattle.wdl_stdlib.proofs.Keys.{bytes_eq-refl as bytes_same}

pub same_bytes : (s t : List ℕ) → bytes_eq s t ≡ true → s ≡ t
same_bytes s t h = (bytes_eq-Decides s t).0 h

-- ---- elements

pub either : {A : Type 0} (xs ys : List A) (z : A) → Contains (xs ++ ys) z → Contains xs z ⊎ Contains ys z
either [] ys z c = inr c
either (x ∷ xs) ys z c = by_case (first_or_later x (xs ++ ys) z c) (either xs ys z)
  where
    by_case : (x ≡ z) ⊎ Contains (xs ++ ys) z → (Contains (xs ++ ys) z → Contains xs z ⊎ Contains ys z) → Contains (x ∷ xs) z ⊎ Contains ys z
    by_case (inl e) rest = inl (subst (Contains (x ∷ xs)) e (first_is x xs))
    by_case (inr d) rest = by_side (rest d)
      where
        by_side : Contains xs z ⊎ Contains ys z → Contains (x ∷ xs) z ⊎ Contains ys z
        by_side (inl a) = inl (later_is x xs z a)
        by_side (inr b) = inr b

pub on_left : {A : Type 0} (xs ys : List A) (z : A) → Contains xs z → Contains (xs ++ ys) z
on_left [] ys z c = absurd (none_is z c)
on_left (x ∷ xs) ys z c = by_case (first_or_later x xs z c) (on_left xs ys z)
  where
    by_case : (x ≡ z) ⊎ Contains xs z → (Contains xs z → Contains (xs ++ ys) z) → Contains (x ∷ (xs ++ ys)) z
    by_case (inl e) rest = subst (Contains (x ∷ (xs ++ ys))) e (first_is x (xs ++ ys))
    by_case (inr d) rest = later_is x (xs ++ ys) z (rest d)

pub on_right : {A : Type 0} (xs ys : List A) (z : A) → Contains ys z → Contains (xs ++ ys) z
on_right [] ys z c = c
on_right (x ∷ xs) ys z c = later_is x (xs ++ ys) z (on_right xs ys z c)

pub mapped : {A B : Type 0} (f : A → B) (xs : List A) (x : A) → Contains xs x → Contains (map f xs) (f x)
mapped f [] x c = absurd (none_is x c)
mapped {A} {B} f (y ∷ xs) x c = by_case (first_or_later y xs x c) (mapped f xs x)
  where
    by_case : (y ≡ x) ⊎ Contains xs x → (Contains xs x → Contains (map f xs) (f x)) → Contains (f y ∷ map f xs) (f x)
    by_case (inl e) rest = subst (λ z. Contains (f y ∷ map f xs) (f z)) e (first_is (f y) (map f xs))
    by_case (inr d) rest = later_is (f y) (map f xs) (f x) (rest d)

pub of_map : {A B : Type 0} (f : A → B) (xs : List A) (z : B) → Contains (map f xs) z → (x : A) × Contains xs x × (f x ≡ z)
of_map f [] z c = absurd (none_is z c)
of_map {A} {B} f (y ∷ xs) z c = by_case (first_or_later (f y) (map f xs) z c) (of_map f xs z)
  where
    by_case : (f y ≡ z) ⊎ Contains (map f xs) z → (Contains (map f xs) z → (x : A) × Contains xs x × (f x ≡ z)) → (x : A) × Contains (y ∷ xs) x × (f x ≡ z)
    by_case (inl e) rest = (y, first_is y xs, e)
    by_case (inr d) rest = let r = rest d in (r.0, later_is y xs r.0 r.1, r.2)

pub at_number : {A : Type 0} (xs : List A) (k : ℕ) → nat_lt k (length xs) ≡ true → (x : A) × (slice_get xs k ≡ Some x)
at_number [] k h = absurd (omega (arith, ltb-true k 0 h))
at_number (x ∷ xs) zero h = (x, refl)
at_number (x ∷ xs) (suc k) h = at_number xs k (lt-ltb k (length xs) (omega (arith, ltb-true (suc k) (suc (length xs)) h)))

-- ---- names

pub is_among : (ns : List (List ℕ)) (n : List ℕ) → Contains ns n → has_name n ns ≡ true
is_among [] n c = absurd (none_is n c)
is_among (m ∷ ns) n c = by_case (first_or_later m ns n c) (is_among ns n)
  where
    by_case : (m ≡ n) ⊎ Contains ns n → (Contains ns n → has_name n ns ≡ true) → (bytes_eq m n || has_name n ns) ≡ true
    by_case (inl e) rest = or_left (bytes_eq m n) (has_name n ns) (subst (λ k. bytes_eq m k ≡ true) e (bytes_same m))
    by_case (inr d) rest = or_right (bytes_eq m n) (has_name n ns) (rest d)

-- A name that is not among others differs from each of them.
pub apart : (ns : List (List ℕ)) (n : List ℕ) → has_name n ns ≡ false → (m : List ℕ) → Contains ns m → bytes_eq m n ≡ false
apart ns n h m c = by_test (bytes_eq m n) refl
  where
    by_test : (b : Bool) → bytes_eq m n ≡ b → bytes_eq m n ≡ false
    by_test false e = e
    by_test true e = absurd (false≢true (sym h ∙ ap (λ k. has_name k ns) (sym (same_bytes m n e)) ∙ is_among ns m c))
