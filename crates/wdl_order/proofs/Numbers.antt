-- Lists of numbers: what they have, and what holds of each.
use Rattle.std.proofs.Common.{◌≡◌, ℕ, zero, suc, ◌+◌, ◌-◌, ◌<◌, ◌≤◌, Bool, true, false, not, ◌==◌, ◌||◌, ◌⊎◌, inl, inr, List, [], ◌∷◌, ◌++◌, length, get_or, slice_get, Some, take, refl, sym, ap, ◌∙◌, subst, arith}
use Rattle.std.proofs.lemmas.Bool.{false≢true, and_parts, and_from, or_cases, or_left, or_right, or_parts, or_from, not-true, both_ways, ne_eqb, eq-eqb, eqb-true, cases_eq, ltb-true}
use Rattle.std.proofs.lemmas.Cmp.{nat_eq_equiv}
use Rattle.std.specs.Bool.{nat_eq}
use Rattle.std.proofs.lemmas.Option.{same_Some}
use Rattle.std.specs.List.{AllByRecursion, IsDistinct, list_all, list_any, range_with_len}
use Rattle.std.proofs.Math.Bool.{or_assoc}
use Rattle.wdl_typed.specs.Lists.{are_below, has_number, numbers_differ}

pub has_first : (k : ℕ) (ns : List ℕ) → has_number k (k ∷ ns) ≡ true
has_first k ns = or_left (k == k) (has_number k ns) (eq-eqb k k refl)

pub has_later : (k n : ℕ) (ns : List ℕ) → has_number k ns ≡ true → has_number k (n ∷ ns) ≡ true
has_later k n ns h = or_right (n == k) (has_number k ns) h

pub has_cases : (k n : ℕ) (ns : List ℕ) → has_number k (n ∷ ns) ≡ true → (n ≡ k) ⊎ (has_number k ns ≡ true)
has_cases k n ns h = elim (or_cases (n == k) (has_number k ns) h) [ inl e ↦ inl (eqb-true n k e) | inr e ↦ inr e ]

pub or_swap : (a b c : Bool) → ((a || b) || c) ≡ (b || (a || c))
or_swap true true c = refl
or_swap true false c = refl
or_swap false true c = refl
or_swap false false c = refl

pub has-append : (k : ℕ) (ms ns : List ℕ) → has_number k (ms ++ ns) ≡ (has_number k ms || has_number k ns)
has-append k [] ns = refl
has-append k (m ∷ ms) ns = ap (λ b. (m == k) || b) (has-append k ms ns) ∙ sym (or_assoc (m == k) (has_number k ms) (has_number k ns))

pub has_front : (k n : ℕ) (ns : List ℕ) → has_number k ns ≡ true → has_number k (ns ++ n ∷ []) ≡ true
has_front k n ns h = has-append k ns (n ∷ []) ∙ or_left _ _ h

pub has_last : (n : ℕ) (ns : List ℕ) → has_number n (ns ++ n ∷ []) ≡ true
has_last n ns = has-append n ns (n ∷ []) ∙ or_right _ _ (has_first n [])

pub has_pushed : (k n : ℕ) (ns : List ℕ) → has_number k (ns ++ n ∷ []) ≡ true → (has_number k ns ≡ true) ⊎ (n ≡ k)
has_pushed k n ns h = elim (or_cases _ _ (sym (has-append k ns (n ∷ [])) ∙ h)) [
  | inl y ↦ inl y
  | inr y ↦ elim (has_cases k n [] y) [ inl e ↦ inr e | inr z ↦ absurd (false≢true z) ]
]

pub has-any : (k : ℕ) (ns : List ℕ) → has_number k ns ≡ list_any (nat_eq k) ns
has-any k [] = refl
has-any k (n ∷ ns) = ap (λ b. b || has_number k ns) (nat_eq_equiv.symm n k) ∙ ap (λ b. nat_eq k n || b) (has-any k ns)

pub below_each : (most : ℕ) (ns : List ℕ) → are_below most ns ≡ true → (k : ℕ) → has_number k ns ≡ true → k < most
below_each most [] b k h = absurd (false≢true h)
below_each most (n ∷ ns) b k h =
    let p = and_parts _ (are_below most ns) b in
    elim (has_cases k n ns h) [ inl e ↦ subst (λ x. x < most) e (ltb-true n most p.0) | inr e ↦ below_each most ns p.1 k e ]

absent : (n : ℕ) (ns : List ℕ) → has_number n ns ≡ false → AllByRecursion (λ y. nat_eq n y ≡ false) ns
absent n [] h = tt
absent n (m ∷ ms) h = let p = or_parts (m == n) (has_number n ms) h in (nat_eq_equiv.symm n m ∙ p.0, absent n ms p.1)

pub distinct : (ns : List ℕ) → numbers_differ ns ≡ true → IsDistinct nat_eq ns
unfolding IsDistinct
distinct [] h = tt
distinct (n ∷ ns) h =
    let p = and_parts (not (has_number n ns)) (numbers_differ ns) h in
    (absent n ns (not-true _ p.0), distinct ns p.1)

-- ---- what holds of each number of a range

pub range_to : (f : ℕ → Bool) (a n : ℕ) → list_all f (range_with_len a n) ≡ true → (q : ℕ) → a ≤ q → q < a + n → f q ≡ true
range_to f a zero h q l u = absurd (omega arith)
range_to f a (suc n) h q l u =
    let p = and_parts (f a) (list_all f (range_with_len (a + 1) n)) h in
    elim (cases_eq a q) [ inl e ↦ subst (λ x. f x ≡ true) e p.0 | inr e ↦ range_to f (a + 1) n p.1 q (omega arith) (omega arith) ]

pub range_from : (f : ℕ → Bool) (a n : ℕ) → ((q : ℕ) → a ≤ q → q < a + n → f q ≡ true) → list_all f (range_with_len a n) ≡ true
range_from f a zero h = refl
range_from f a (suc n) h =
    and_from (f a) (list_all f (range_with_len (a + 1) n)) (h a (omega arith) (omega arith))
    (range_from f (a + 1) n (λ q l u. h q (omega arith) (omega arith)))

pub has_range : (a n k : ℕ) → a ≤ k → k < a + n → has_number k (range_with_len a n) ≡ true
has_range a zero k l u = absurd (omega arith)
has_range a (suc n) k l u =
    elim (cases_eq a k) [
      | inl e ↦ or_left (a == k) _ (eq-eqb a k e)
      | inr e ↦ has_later k a (range_with_len (a + 1) n) (has_range (a + 1) n k (omega arith) (omega arith))
    ]

pub range_below : (a n k : ℕ) → has_number k (range_with_len a n) ≡ true → k < a + n
range_below a zero k h = absurd (false≢true h)
range_below a (suc n) k h =
    elim (has_cases k a (range_with_len (a + 1) n) h) [
      | inl e ↦ omega arith
      | inr i ↦ let l = range_below (a + 1) n k i in omega arith
    ]

pub range_first : (a n : ℕ) → a < n → range_with_len a (n - a) ≡ a ∷ range_with_len (a + 1) (n - (a + 1))
range_first a n h = let e : n - a ≡ suc (n - (a + 1)) = omega arith in ap (range_with_len a) e

pub or_none : (b : Bool) → b ≡ (b || false)
or_none true = refl
or_none false = refl

-- ---- by place

pub has_at : (ns : List ℕ) (i : ℕ) → i < length ns → has_number (get_or ns i 0) ns ≡ true
has_at [] i l = absurd (omega arith)
has_at (n ∷ ns) zero l = has_first n ns
has_at (n ∷ ns) (suc i) l = has_later (get_or ns i 0) n ns (has_at ns i (omega arith))

pub differ_at : (ns : List ℕ) (i : ℕ) → numbers_differ ns ≡ true → i < length ns → has_number (get_or ns i 0) (take i ns) ≡ false
differ_at [] i d l = absurd (omega arith)
differ_at (n ∷ ns) zero d l = refl
differ_at (n ∷ ns) (suc i) d l =
    let p = and_parts (not (has_number n ns)) (numbers_differ ns) d in
    or_from (n == get_or ns i 0) (has_number (get_or ns i 0) (take i ns))
    (ne_eqb n (get_or ns i 0) (λ e. both_ways (has_number n ns) (not-true _ p.0) (subst (λ x. has_number x ns ≡ true) (sym e) (has_at ns i (omega arith)))))
    (differ_at ns i p.1 (omega arith))

pub has_got : (ns : List ℕ) (i k : ℕ) → slice_get ns i ≡ Some k → has_number k ns ≡ true
has_got [] i k e = cc
has_got (n ∷ ns) zero k e = or_left (n == k) _ (eq-eqb n k (same_Some n k e))
has_got (n ∷ ns) (suc i) k e = has_later k n ns (has_got ns i k e)
