-- The first row of a place: no row before it has that place.
use Rattle.std.proofs.Common.{◌≡◌, ℕ, suc, ◌+◌, ◌-◌, ◌≤◌, ◌<◌, Bool, true, false, cond, List, [], ◌∷◌, length, get_or, drop, drop-cons, Option, Some, None, refl, sym, ap, ◌∙◌, arith}
use Rattle.std.specs.Str.{bytes_eq}
use Rattle.std.proofs.lemmas.Slice.Eq.{bytes_eq-Decides}
use Rattle.wdl_base.specs.Places.{place_text}
use Rattle.wdl_base.specs.Same.{same_place}
use Rattle.wdl_base.specs.declared.place.Segment.{Segment}
use Rattle.wdl_port.specs.declared.table_row.TableRow.{TableRow}
use Rattle.wdl_port.specs.Table.{answer_of, first_at}
use Rattle.wdl_port.proofs.PlaceLemmas.{one_place}

-- a row whose place has another text is of another place
another : (p q : List Segment) → bytes_eq (place_text q) (place_text p) ≡ false → same_place q p ≡ false
another p q h = another_by (same_place q p) refl where
  another_by : (b : Bool) → same_place q p ≡ b → b ≡ false
  another_by false e = refl
  another_by true e = grind (arith, ap place_text (one_place q p e), bytes_eq-Decides)

skip : (r : TableRow) (rs : List TableRow) (p : List Segment) (k : ℕ) → bytes_eq (place_text r.place) (place_text p) ≡ false
    → answer_of (r ∷ rs) p k ≡ answer_of rs p k
skip r rs p k h = grind (arith, another p r.place h)

next_row : (n i : ℕ) (r : TableRow) (rs : List TableRow) → n + 1 ≤ i → drop (i - n) (r ∷ rs) ≡ drop (i - (n + 1)) rs
next_row n i r rs h = let e : i - n ≡ suc (i - (n + 1)) = omega arith in ap (λ m. drop m (r ∷ rs)) e

pub no_row : (n : ℕ) (rs : List TableRow) (p : List Segment) (k : ℕ) → first_at n rs (place_text p) ≡ None → answer_of rs p k ≡ None
no_row n [] p k h = refl
no_row n (r ∷ rs) p k h = grind (arith, skip r rs p k, no_row (n + 1) rs p k)

from_first : (n : ℕ) (r : TableRow) (rs : List TableRow) (p : List Segment) (k i : ℕ) (b : Bool) → bytes_eq (place_text r.place) (place_text p) ≡ b
    → first_at n (r ∷ rs) (place_text p) ≡ Some i
    → (first_at (n + 1) rs (place_text p) ≡ Some i → (n + 1 ≤ i) × (answer_of (drop (i - (n + 1)) rs) p k ≡ answer_of rs p k))
    → (n ≤ i) × (answer_of (drop (i - n) (r ∷ rs)) p k ≡ answer_of (r ∷ rs) p k)
from_first n r rs p k i true e h more =
    let at : n ≡ i = grind (arith, e, h) in
    let none : i - n ≡ 0 = omega arith in
    (omega arith, ap (λ m. answer_of (drop m (r ∷ rs)) p k) none)
from_first n r rs p k i false e h more =
    let rest = more (grind (arith, e, h)) in
    let below : n + 1 ≤ i = rest.0 in
    (omega arith, ap (λ xs. answer_of xs p k) (next_row n i r rs below) ∙ rest.1 ∙ sym (skip r rs p k e))

pub from_row : (n : ℕ) (rs : List TableRow) (p : List Segment) (k i : ℕ) → first_at n rs (place_text p) ≡ Some i
    → (n ≤ i) × (answer_of (drop (i - n) rs) p k ≡ answer_of rs p k)
from_row n [] p k i h = grind arith
from_row n (r ∷ rs) p k i h =
    from_first n r rs p k i (bytes_eq (place_text r.place) (place_text p)) refl h (λ more. from_row (n + 1) rs p k i more)

-- one row more at the front
pub earlier : (rs : List TableRow) (i : ℕ) (r : TableRow) (text : List ℕ) (o p : Option ℕ) → 0 < i → i ≤ length rs → r ≡ get_or rs (i - 1) r
    → p ≡ first_at i (drop i rs) text → o ≡ cond (bytes_eq (place_text r.place) text) (Some (i - 1)) p
    → o ≡ first_at (i - 1) (drop (i - 1) rs) text
earlier rs i r text o p some within is was now =
    let back : suc (i - 1) ≡ i = omega arith in
    let up : i ≡ i - 1 + 1 = omega arith in
    let front : drop (i - 1) rs ≡ r ∷ drop i rs = drop-cons rs (i - 1) r (omega arith) ∙ ap (λ x. x ∷ drop (suc (i - 1)) rs) (sym is) ∙ ap (λ m. r ∷ drop m rs) back in
    now ∙ ap (λ x. cond (bytes_eq (place_text r.place) text) (Some (i - 1)) x) (was ∙ ap (λ m. first_at m (drop i rs) text) up) ∙ sym (ap (λ xs. first_at (i - 1) xs text) front)
