-- Pieces of a text without NUL have none.
use Rattle.std.proofs.Common.{◌≡◌, ℕ, zero, suc, ◌-◌, ◌<◌, ◌==◌, Bool, true, false, cond, List, [], ◌∷◌, length, get_or, take, slice_index, refl, ap, ◌∙◌, arith}
use Rattle.std.proofs.lemmas.Bool.{or_parts, or_from}
use Rattle.std.specs.List.{slice_split, onto_first}
use Rattle.std.specs.Str.Lines.{lines, lines_of_parts, strip_carriage_return}
use Rattle.wdl_base.specs.Plain.{has_nul}
use Rattle.wdl_stdlib.specs.PathParts.{EachPlain}

pub plain-take : (n : ℕ) (bs : List ℕ) → has_nul bs ≡ false → has_nul (take n bs) ≡ false
plain-take zero bs h = refl
plain-take (suc n) [] h = refl
plain-take (suc n) (b ∷ bs) h = let p = or_parts (b == 0) (has_nul bs) h in or_from (b == 0) (has_nul (take n bs)) p.0 (plain-take n bs p.1)

onto_plain : (b : ℕ) (parts : List (List ℕ)) → (b == 0) ≡ false → EachPlain parts → EachPlain (onto_first b parts)
onto_plain b [] h k = (or_from (b == 0) false h refl, tt)
onto_plain b (x ∷ xs) h k = (or_from (b == 0) (has_nul x) h k.0, k.1)

pub split_plain : (p : ℕ → Bool) (bs : List ℕ) → has_nul bs ≡ false → EachPlain (slice_split p bs)
split_plain p [] h = (refl, tt)
split_plain p (b ∷ bs) h =
    let q = or_parts (b == 0) (has_nul bs) h in
    let rest = split_plain p bs q.1 in
    elim (p b) as (λ t. EachPlain (cond t ([] ∷ slice_split p bs) (onto_first b (slice_split p bs)))) [ true ↦ (refl, rest) | false ↦ onto_plain b (slice_split p bs) q.0 rest ]

strip_plain : (x : List ℕ) → has_nul x ≡ false → has_nul (strip_carriage_return x) ≡ false
strip_plain x h = elim (slice_index x (length x - 1) == 13) as (λ t. has_nul (cond t (take (length x - 1) x) x) ≡ false) [ true ↦ plain-take (length x - 1) x h | false ↦ h ]

lines_of_plain : (parts : List (List ℕ)) → EachPlain parts → EachPlain (lines_of_parts parts)
lines_of_plain [] h = tt
lines_of_plain (x ∷ []) h = elim (length x == 0) as (λ t. EachPlain (cond t [] (x ∷ []))) [ true ↦ tt | false ↦ h ]
lines_of_plain (x ∷ y ∷ more) h = (strip_plain x h.0, lines_of_plain (y ∷ more) h.1)

pub lines_plain : (text : List ℕ) → has_nul text ≡ false → EachPlain (lines text)
lines_plain text h = lines_of_plain (slice_split (λ b. b == 10) text) (split_plain (λ b. b == 10) text h)

pub plain_at : (xs : List (List ℕ)) (i : ℕ) (x : List ℕ) → EachPlain xs → i < length xs → x ≡ get_or xs i x → has_nul x ≡ false
plain_at [] i x h l e = absurd (omega arith)
plain_at (y ∷ ys) zero x h l e = ap has_nul e ∙ h.0
plain_at (y ∷ ys) (suc i) x h l e = plain_at ys i x h.1 (omega arith) e
