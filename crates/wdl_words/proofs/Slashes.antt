-- Texts without the slashes at their ends.
use Rattle.std.proofs.Common.{◌≡◌, ◌≢◌, ◌≤◌, ◌==◌, ◌&&◌, ℕ, true, false, not, nat_le, cond, List, [], ◌∷◌, ◌++◌, length, refl, ap, arith}
use Rattle.std.proofs.lemmas.Bool.{and_parts, ne_eqb, not-true, or_from, or_parts}
use Rattle.wdl_base.specs.Plain.{has_nul}
use Rattle.wdl_words.specs.Words.{before_slashes, begins_with_slash, is_directory, without_slashes}

pub slash_goes : (s : List ℕ) → without_slashes (s ++ 47 ∷ []) ≡ without_slashes s
slash_goes [] = refl
slash_goes (b ∷ s) = ap (before_slashes b) (slash_goes s)

pub none_goes : (s : List ℕ) → ((front : List ℕ) → s ≢ front ++ 47 ∷ []) → without_slashes s ≡ s
none_goes [] h = refl
none_goes (b ∷ []) h =
    ap (λ t. cond t [] (b ∷ [])) (ne_eqb b 47 (λ e. h [] (ap (λ c. c ∷ []) e)))
none_goes (b ∷ c ∷ s) h = ap (before_slashes b) (none_goes (c ∷ s) (λ front e. h (b ∷ front) (ap (λ l. b ∷ l) e)))

before_plain : (b : ℕ) (s : List ℕ) → (b == 0) ≡ false → has_nul s ≡ false → has_nul (before_slashes b s) ≡ false
before_plain b [] h k = elim (b == 47) as (λ t. has_nul (cond t [] (b ∷ [])) ≡ false) [ true ↦ refl | false ↦ or_from (b == 0) false h refl ]
before_plain b (c ∷ s) h k = or_from (b == 0) (has_nul (c ∷ s)) h k

slashes_plain : (s : List ℕ) → has_nul s ≡ false → has_nul (without_slashes s) ≡ false
slashes_plain [] h = h
slashes_plain (b ∷ s) h =
    let p = or_parts (b == 0) (has_nul s) h in
    before_plain b (without_slashes s) p.0 (slashes_plain s p.1)

before_short : (b : ℕ) (s : List ℕ) → length (before_slashes b s) ≤ length (b ∷ s)
before_short b [] = elim (b == 47) as (λ t. length (cond t [] (b ∷ [])) ≤ length (b ∷ [])) [ true ↦ omega arith | false ↦ omega arith ]
before_short b (c ∷ s) = omega arith

pub slashes_short : (s : List ℕ) → length (without_slashes s) ≤ length s
slashes_short [] = omega arith
slashes_short (b ∷ s) = omega (arith, before_short b (without_slashes s), slashes_short s)

pub directory_plain : (text : List ℕ) → is_directory text ≡ true → has_nul (without_slashes text) ≡ false
directory_plain text h =
    let short = nat_le (length text) 512 in
    let rest = and_parts (begins_with_slash text) (short && not (has_nul text)) h in
    slashes_plain text (not-true (has_nul text) (and_parts short (not (has_nul text)) rest.1).1)
