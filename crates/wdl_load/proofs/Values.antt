-- The values of the calls.
use Rattle.std.proofs.Common.{◌≡◌, ℕ, zero, suc, ◌+◌, ◌-◌, ◌/◌, ◌%◌, ◌<◌, ◌≤◌, List, get_or, length, map, ap, sym, refl, ◌∙◌, arith}
use Rattle.std.proofs.lemmas.List.FromFn.{get_or-map-range_with_len, length-map-range_with_len}
use Rattle.std.proofs.lemmas.Nat.{shr_le}
use Rattle.std.specs.List.{range_with_len}
use Rattle.wdl_load.specs.Loads.{FollowRule, load_value, value_within}

half : (i : ℕ) → i / 2 ≤ i
half i = shr_le i 1

-- a bound past the call changes nothing
within : (i b c : ℕ) → i ≤ b → i ≤ c → value_within i b ≡ value_within i c
within zero b c h k = refl
within (suc i) zero c h k = absurd (omega arith)
within (suc i) (suc b) zero h k = absurd (omega arith)
within (suc i) (suc b) (suc c) h k =
    let low = half i in
    ap (λ v. (v + (i + 1)) % 1000) (within (i / 2) b c (omega arith) (omega arith))

next : (i : ℕ) → load_value (suc i) ≡ (load_value (i / 2) + (i + 1)) % 1000
unfolding load_value
next i =
    let low = half i in
    ap (λ v. (v + (i + 1)) % 1000) (within (i / 2) i (i / 2) low (omega arith))

first : load_value 0 ≡ 2
unfolding load_value
first = refl

next_value : (i : ℕ) → load_value (i + 1) ≡ (load_value (i / 2) + (i + 1)) % 1000
next_value i = let e : i + 1 ≡ suc i = omega arith in ap load_value e ∙ next i

pub rule : FollowRule
rule = record { first = first; next = next_value }

-- each value is below 1000
pub below : (i : ℕ) → load_value i < 1000
below zero = let e = first in omega arith
below (suc i) = let e = next i in omega arith

pub first_is : (n : ℕ) → n ≡ 0 → 2 ≡ load_value n
first_is n e = sym (ap load_value e ∙ first)

-- a value by that of the call before it
pub later : (n v : ℕ) → 0 < n → v ≡ load_value ((n - 1) / 2) → (v + n) % 1000 ≡ load_value n
later n v h e =
    let up : n ≡ n - 1 + 1 = omega arith in
    ap (λ x. (x + n) % 1000) e ∙ ap (λ m. (load_value ((n - 1) / 2) + m) % 1000) up ∙ sym (next_value (n - 1)) ∙ sym (ap load_value up)

module _ (values : List ℕ) (n : ℕ) (are : values ≡ map load_value (range_with_len 0 n)) where
  pub count : length values ≡ n
  count = ap length are ∙ length-map-range_with_len load_value 0 n

  pub value_at : (i : ℕ) → i < n → get_or values i 0 ≡ load_value i
  value_at i h = ap (λ vs. get_or vs i 0) are ∙ get_or-map-range_with_len load_value 0 n i i 0 h (omega arith)

pub half_below : (n : ℕ) → 0 < n → (n - 1) / 2 < n
half_below n h = let low = half (n - 1) in omega arith
