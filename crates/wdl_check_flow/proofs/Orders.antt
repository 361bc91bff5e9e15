-- An order has each position once: what is picked by it is the list in another order.
use Rattle.std.proofs.Common.{◌≡◌, inl, inr, ℕ, suc, ◌+◌, true, false, not, ◌==◌, ◌&&◌, List, [], ◌∷◌, ◌++◌, Option, Some, None, length, length-append, map, slice_get, arith, refl, ap, sym, ◌∙◌}
use Rattle.std.specs.List.{range_with_len}
use Rattle.std.proofs.lemmas.Bool.{and_parts, both_ways, eqb-true, false_from_ne_true, false≢true, not-true, or_cases, or_left, or_right}
use Rattle.std.proofs.lemmas.List.FromFn.{length-range_with_len}
use Rattle.wdl_order.proofs.Numbers.{below_each, has_first, has_later, has_range}
use Rattle.wdl_typed.specs.Kept.{sum_of}
use Rattle.wdl_typed.specs.Lists.{are_below, are_counted, has_number, numbers_differ}
use Rattle.wdl_typed.specs.Order.{Needing, all_met, picked}
use Rattle.wdl_order.specs.Least.{least_order}
use Rattle.wdl_order.proofs.LeastLaws.{least}
use Rattle.wdl_check_decls.proofs.ListLaws.{picked_none, picked_some}

-- ---- numbers in another order

-- each number of the one is taken out of the other, which then is empty
abbrev pub Moved : List ℕ → List ℕ → Type 0
Moved [] qs = qs ≡ []
Moved (p ∷ ps) qs = (front : List ℕ) × (back : List ℕ) × (qs ≡ front ++ p ∷ back) × Moved ps (front ++ back)

record Split (p : ℕ) (qs : List ℕ) : Type 0 where
  front : List ℕ
  back : List ℕ
  whole : qs ≡ front ++ p ∷ back

split : (p : ℕ) (qs : List ℕ) → has_number p qs ≡ true → Split p qs
split p [] h = absurd (false≢true h)
split p (q ∷ qs) h =
    elim (or_cases (q == p) (has_number p qs) h) [
      | inl e ↦ record { front = []; back = qs; whole = ap (λ x. x ∷ qs) (eqb-true q p e) }
      | inr e ↦ let s = split p qs e in record { front = q ∷ s.front; back = s.back; whole = ap (λ xs. q ∷ xs) s.whole }
    ]

kept : (k p : ℕ) (front back : List ℕ) → (p == k) ≡ false → has_number k (front ++ p ∷ back) ≡ true → has_number k (front ++ back) ≡ true
kept k p [] back n h = elim (or_cases (p == k) (has_number k back) h) [ inl e ↦ absurd (both_ways (p == k) n e) | inr e ↦ e ]
kept k p (f ∷ front) back n h =
    elim (or_cases (f == k) (has_number k (front ++ p ∷ back)) h) [
      | inl e ↦ or_left (f == k) (has_number k (front ++ back)) e
      | inr e ↦ or_right (f == k) (has_number k (front ++ back)) (kept k p front back n e)
    ]

differs : (k p : ℕ) (ps : List ℕ) → has_number p ps ≡ false → has_number k ps ≡ true → (p == k) ≡ false
differs k p ps g h = false_from_ne_true (p == k) (λ e. false≢true (sym g ∙ ap (λ x. has_number x ps) (eqb-true p k e) ∙ h))

moved : (ps qs : List ℕ) → numbers_differ ps ≡ true → ((k : ℕ) → has_number k ps ≡ true → has_number k qs ≡ true) → length ps ≡ length qs → Moved ps qs
moved [] [] d among e = refl
moved [] (q ∷ qs) d among e = absurd (omega (arith, e))
moved (p ∷ ps) qs d among e =
    let s = split p qs (among p (has_first p ps)) in
    let a = and_parts (not (has_number p ps)) (numbers_differ ps) d in (
      s.front,
      s.back,
      s.whole,
      moved ps (s.front ++ s.back) a.1
          (λ k h. kept k p s.front s.back (differs k p ps (not-true (has_number p ps) a.0) h) (ap (has_number k) (sym s.whole) ∙ among k (has_later k p ps h)))
          (omega (arith, e, ap length s.whole, length-append s.front (p ∷ s.back), length-append s.front s.back)),
    )

-- the positions of a list, in its order
pub order_moved : (all : List Needing) (ps : List ℕ) → least_order all ≡ Some ps → Moved ps (range_with_len 0 (length all))
order_moved all ps h =
    let a = and_parts (are_counted ps && (length ps == length all)) (all_met all [] ps) (least all ps h).order in
    let b = and_parts (are_counted ps) (length ps == length all) a.0 in
    let c = and_parts (are_below (length ps) ps) (numbers_differ ps) b.0 in
    let long : length ps ≡ length all = eqb-true (length ps) (length all) b.1 in
    moved ps (range_with_len 0 (length all)) c.1
    (λ k i. has_range 0 (length all) k (omega arith) (omega (arith, long, below_each (length ps) ps c.0 k i))) (long ∙ sym (length-range_with_len 0 (length all)))

-- ---- sums

abbrev pub total : (ℕ → ℕ) → List ℕ → ℕ
total f ps = sum_of (map f ps)

pub sum-append : {A : Type 0} (f : A → ℕ) (xs ys : List A) → sum_of (map f (xs ++ ys)) ≡ sum_of (map f xs) + sum_of (map f ys)
sum-append f [] ys = omega arith
sum-append f (x ∷ xs) ys = omega (arith, sum-append f xs ys)

moved_total : (f : ℕ → ℕ) (ps qs : List ℕ) → Moved ps qs → total f ps ≡ total f qs
moved_total f [] qs m = sym (ap (total f) m)
moved_total f (p ∷ ps) qs m =
    omega (arith, moved_total f ps (m.0 ++ m.1) m.3, sum-append f m.0 m.1, sum-append f m.0 (p ∷ m.1), ap (total f) m.2)

-- what the member at a position counts
abbrev pub at_place : {A : Type 0} → (A → ℕ) → Option A → ℕ
at_place f None = 0
at_place f (Some a) = f a

total_range : {A : Type 0} (f : A → ℕ) (xs : List A) (a : ℕ) (g : ℕ → ℕ) → ((i : ℕ) → g (a + i) ≡ at_place f (slice_get xs i))
    → total g (range_with_len a (length xs)) ≡ sum_of (map f xs)
total_range f [] a g h = refl
total_range f (x ∷ xs) a g h =
    let first : g a ≡ f x = ap g (omega arith) ∙ h 0 in
    let rest = total_range f xs (a + 1) g (λ i. ap g (omega arith) ∙ h (suc i)) in
    omega (arith, first, rest)

pub order_total : {A : Type 0} (f : A → ℕ) (xs : List A) (all : List Needing) (ps : List ℕ) → length all ≡ length xs → least_order all ≡ Some ps
    → total (λ p. at_place f (slice_get xs p)) ps ≡ sum_of (map f xs)
order_total f xs all ps long h =
    moved_total (λ p. at_place f (slice_get xs p)) ps (range_with_len 0 (length all)) (order_moved all ps h)
    ∙ ap (λ n. total (λ p. at_place f (slice_get xs p)) (range_with_len 0 n)) long
    ∙ total_range f xs 0 (λ p. at_place f (slice_get xs p)) (λ i. ap (λ j. at_place f (slice_get xs j)) (omega arith))

picked_total : {A : Type 0} (f : A → ℕ) (xs : List A) (ps : List ℕ) → sum_of (map f (picked xs ps)) ≡ total (λ p. at_place f (slice_get xs p)) ps
picked_total f xs [] = refl
picked_total {A} f xs (p ∷ ps) = by_got (picked_total f xs ps) (slice_get xs p) refl
  where
    by_got : sum_of (map f (picked xs ps)) ≡ total (λ q. at_place f (slice_get xs q)) ps → (o : Option A) → slice_get xs p ≡ o
        → sum_of (map f (picked xs (p ∷ ps))) ≡ total (λ q. at_place f (slice_get xs q)) (p ∷ ps)
    by_got more None e = omega (arith, more, ap (λ ys. sum_of (map f ys)) (picked_none xs p ps e), ap (at_place f) e)
    by_got more (Some x) e = omega (arith, more, ap (λ ys. sum_of (map f ys)) (picked_some xs p ps x e), ap (at_place f) e)

pub order_sum : {A : Type 0} (f : A → ℕ) (xs : List A) (all : List Needing) (ps : List ℕ) → length all ≡ length xs → least_order all ≡ Some ps
    → sum_of (map f (picked xs ps)) ≡ sum_of (map f xs)
order_sum f xs all ps long h = picked_total f xs ps ∙ order_total f xs all ps long h
