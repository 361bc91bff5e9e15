-- Numbers are counted where they are those from 0 on in another order: where they weigh the same, whatever each number weighs.
use Rattle.std.proofs.Common.{◌≡◌, inl, inr, ℕ, zero, suc, ◌+◌, ◌<◌, ◌≤◌, cond, true, not, ◌==◌, List, [], ◌∷◌, length, map, arith, refl, sym, ◌∙◌}
use Rattle.std.specs.Prelude.{nat_lt}
use Rattle.std.specs.List.{range_with_len}
use Rattle.std.proofs.lemmas.Bool.{and_from, cases_eq, cases_lt, cond-false, cond-true, eq-eqb, false_from_ne_true, false≢true, lt-ltb, ne_eqb, not_from_false, or_cases}
use Rattle.std.proofs.lemmas.List.FromFn.{length-range_with_len}
use Rattle.wdl_order.proofs.Numbers.{has_first, has_later}
use Rattle.wdl_typed.specs.Kept.{sum_of}
use Rattle.wdl_typed.specs.Lists.{are_below, are_counted, has_number, numbers_differ}

abbrev pub weight : (ℕ → ℕ) → List ℕ → ℕ
weight w ns = sum_of (map w ns)

weight-length : (ns : List ℕ) → weight (λ n. 1) ns ≡ length ns
weight-length [] = refl
weight-length (n ∷ ns) = omega (arith, weight-length ns)

-- 1 where the second number is the first
abbrev once : ℕ → ℕ → ℕ
once m n = cond (n == m) 1 0

has_weight : (m : ℕ) (ns : List ℕ) → has_number m ns ≡ true → 1 ≤ weight (once m) ns
has_weight m [] h = absurd (false≢true h)
has_weight m (n ∷ ns) h =
    elim (or_cases (n == m) (has_number m ns) h) [
      | inl e ↦ omega (arith, cond-true {A = ℕ} (n == m) 1 0 e)
      | inr e ↦ omega (arith, has_weight m ns e)
    ]

once_differ : (ns : List ℕ) → ((m : ℕ) → weight (once m) ns ≤ 1) → numbers_differ ns ≡ true
once_differ [] h = refl
once_differ (n ∷ ns) h =
    let first = cond-true {A = ℕ} (n == n) 1 0 (eq-eqb n n refl) in
    and_from (not (has_number n ns)) (numbers_differ ns)
    (not_from_false (has_number n ns) (false_from_ne_true (has_number n ns) (λ e. omega (arith, h n, first, has_weight n ns e))))
    (once_differ ns (λ m. omega (arith, h m)))

all_below : (most : ℕ) (ns : List ℕ) → ((m : ℕ) → has_number m ns ≡ true → m < most) → are_below most ns ≡ true
all_below most [] h = refl
all_below most (n ∷ ns) h =
    and_from (nat_lt n most) (are_below most ns) (lt-ltb n most (h n (has_first n ns))) (all_below most ns (λ m e. h m (has_later m n ns e)))

-- ---- the numbers of a range

before_range : (m a n : ℕ) → m < a → weight (once m) (range_with_len a n) ≡ 0
before_range m a zero h = refl
before_range m a (suc n) h =
    let other = cond-false {A = ℕ} (a == m) 1 0 (ne_eqb a m (λ e. omega (arith, h, e))) in
    omega (arith, other, before_range m (a + 1) n (omega arith))

behind_range : (m a n : ℕ) → a + n ≤ m → weight (once m) (range_with_len a n) ≡ 0
behind_range m a zero h = refl
behind_range m a (suc n) h =
    let other = cond-false {A = ℕ} (a == m) 1 0 (ne_eqb a m (λ e. omega (arith, h, e))) in
    omega (arith, other, behind_range m (a + 1) n (omega arith))

in_range : (m a n : ℕ) → weight (once m) (range_with_len a n) ≤ 1
in_range m a zero = omega arith
in_range m a (suc n) =
    elim (cases_eq a m) [
      | inl e ↦ omega (arith, cond-true {A = ℕ} (a == m) 1 0 (eq-eqb a m e), before_range m (a + 1) n (omega arith))
      | inr e ↦ omega (arith, cond-false {A = ℕ} (a == m) 1 0 (ne_eqb a m e), in_range m (a + 1) n)
    ]

pub counted_as : (ns : List ℕ) (k : ℕ) → ((w : ℕ → ℕ) → weight w ns ≡ weight w (range_with_len 0 k)) → are_counted ns ≡ true
counted_as ns k same =
    let long : length ns ≡ k = sym (weight-length ns) ∙ same (λ n. 1) ∙ weight-length (range_with_len 0 k) ∙ length-range_with_len 0 k in
    and_from (are_below (length ns) ns) (numbers_differ ns)
    (all_below (length ns) ns (λ m e. elim (cases_lt m (length ns)) [
      | inl l ↦ l
      | inr l ↦ absurd (omega (arith, has_weight m ns e, same (once m), behind_range m 0 k (omega (arith, long, l))))
    ]))
    (once_differ ns (λ m. omega (arith, same (once m), in_range m 0 k)))
