-- Cells of a block that are given to the steps of its joints.
use Rattle.std.proofs.Common.{◌≡◌, ℕ, zero, suc, ◌+◌, ◌<◌, ◌⊎◌, inl, inr, List, length, Some, slice_get, slice_set, arith, ap, ◌∙◌, refl}
use Rattle.std.proofs.lemmas.List.{length-set}
use Rattle.plan_growth.proofs.Adding.{last}
use Rattle.plan_growth.proofs.Lists.{get_set, get_unset}

-- the owners where so many cells from one on have the steps from one on
abbrev pub handed : ℕ → ℕ → ℕ → List ℕ → List ℕ
handed c u zero os = os
handed c u (suc n) os = slice_set (handed c u n os) (c + n) (u + n)

pub handed_length : (c u n : ℕ) (os : List ℕ) → length (handed c u n os) ≡ length os
handed_length c u zero os = refl
handed_length c u (suc n) os = length-set (handed c u n os) (c + n) (u + n) ∙ handed_length c u n os

pub handed_get : (c u n : ℕ) (os : List ℕ) → ((j : ℕ) → j < n → c + j < length os) → (j : ℕ) → j < n → slice_get (handed c u n os) (c + j) ≡ Some (u + j)
handed_get c u zero os inside j lt = absurd (omega (arith, lt))
handed_get c u (suc n) os inside j lt = by_case (last j n lt) (handed_get c u n os (λ i l. inside i (omega (arith, l))) j)
  where
    by_case : (j < n) ⊎ (j ≡ n) → (j < n → slice_get (handed c u n os) (c + j) ≡ Some (u + j)) → slice_get (slice_set (handed c u n os) (c + n) (u + n)) (c + j) ≡ Some (u + j)
    by_case (inl l) rest = get_unset (handed c u n os) (c + n) (c + j) (u + n) (λ e. omega (arith, e, l)) ∙ rest l
    by_case (inr e) rest =
        let size = handed_length c u n os in
        let low = inside n (omega arith) in
        let same : c + j ≡ c + n = omega (arith, e) in
        let two : u + n ≡ u + j = omega (arith, e) in
        ap (slice_get (slice_set (handed c u n os) (c + n) (u + n))) same ∙ get_set (handed c u n os) (c + n) (u + n) (omega (arith, low, size)) ∙ ap (λ (w : ℕ). Some w) two

-- A cell outside the run keeps its owner.
pub handed_other : (c u n : ℕ) (os : List ℕ) (d : ℕ) → ((j : ℕ) → j < n → d ≡ c + j → ⊥) → slice_get (handed c u n os) d ≡ slice_get os d
handed_other c u zero os d away = refl
handed_other c u (suc n) os d away = get_unset (handed c u n os) (c + n) d (u + n) (away n (omega arith)) ∙ handed_other c u n os d (λ j lt. away j (omega (arith, lt)))
