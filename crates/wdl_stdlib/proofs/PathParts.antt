-- The parts of a path between slashes.
use Rattle.std.proofs.Common.{◌≡◌, ◌≢◌, ℕ, zero, suc, ◌+◌, ◌-◌, ◌<◌, ◌==◌, true, false, cond, List, [], ◌∷◌, length, get_or, take, drop, refl, sym, ap, ◌∙◌, arith}
use Rattle.std.proofs.lemmas.Bool.{and_right, ne_eqb, eq-eqb}
use Rattle.std.proofs.lemmas.List.{take_all, length-drop}
use Rattle.std.specs.List.{onto_first}
use Rattle.wdl_value.specs.Paths.{parts_of, part_matches, parts_match, path_matches}

pub parts_none : (cs : List ℕ) → ((j : ℕ) → j < length cs → get_or cs j 0 ≢ 47) → parts_of cs ≡ cs ∷ []
parts_none [] h = refl
parts_none (c ∷ cs) h =
    ap (λ b. cond b ([] ∷ parts_of cs) (onto_first c (parts_of cs))) (ne_eqb c 47 (h 0 (omega arith)))
    ∙ ap (onto_first c) (parts_none cs (λ j l. h (suc j) (omega arith)))

parts_at : (cs : List ℕ) (k : ℕ) → k < length cs → get_or cs k 0 ≡ 47 → ((j : ℕ) → j < k → get_or cs j 0 ≢ 47) → parts_of cs ≡ take k cs ∷ parts_of (drop (suc k) cs)
parts_at [] k l e h = absurd (omega arith)
parts_at (c ∷ cs) zero l e h = ap (λ b. cond b ([] ∷ parts_of cs) (onto_first c (parts_of cs))) (eq-eqb c 47 e)
parts_at (c ∷ cs) (suc k) l e h =
    ap (λ b. cond b ([] ∷ parts_of cs) (onto_first c (parts_of cs))) (ne_eqb c 47 (h 0 (omega arith)))
    ∙ ap (onto_first c) (parts_at cs k (omega arith) e (λ j m. h (suc j) (omega arith)))

-- as the code cuts them out
pub parts_cut : (cs : List ℕ) (k : ℕ) → k < length cs → get_or cs k 0 ≡ 47 → ((j : ℕ) → j < k → get_or cs j 0 ≢ 47)
    → parts_of cs ≡ take k cs ∷ parts_of (take (length cs - (k + 1)) (drop (k + 1) cs))
parts_cut cs k l e h =
    let one : suc k ≡ k + 1 = omega arith in
    parts_at cs k l e h
    ∙ ap (λ z. take k cs ∷ parts_of z) (ap (λ i. drop i cs) one ∙ sym (take_all (length cs - (k + 1)) (drop (k + 1) cs) (omega (arith, length-drop (k + 1) cs))))

-- ---- one path has a part more

abbrev Unmatched : List (List ℕ) → Type 0
Unmatched parts = (parts_match parts [] ≡ false) × (parts_match [] parts ≡ false)

onto_unmatched : (c : ℕ) (parts : List (List ℕ)) → Unmatched (onto_first c parts)
onto_unmatched c [] = (refl, refl)
onto_unmatched c (p ∷ ps) = (refl, refl)

unmatched : (cs : List ℕ) → Unmatched (parts_of cs)
unmatched [] = (refl, refl)
unmatched (c ∷ cs) = elim (c == 47) as (λ b. Unmatched (cond b ([] ∷ parts_of cs) (onto_first c (parts_of cs)))) [ true ↦ (refl, refl) | false ↦ onto_unmatched c (parts_of cs) ]

pub pattern_longer : (pattern name more part piece : List ℕ) → parts_of pattern ≡ part ∷ parts_of more → parts_of name ≡ piece ∷ [] → path_matches pattern name ≡ false
pattern_longer pattern name more part piece p n =
    ap (λ z. parts_match z (parts_of name)) p ∙ ap (parts_match (part ∷ parts_of more)) n ∙ and_right (part_matches part piece) _ (unmatched more).0

pub name_longer : (pattern name more part piece : List ℕ) → parts_of pattern ≡ part ∷ [] → parts_of name ≡ piece ∷ parts_of more → path_matches pattern name ≡ false
name_longer pattern name more part piece p n =
    ap (λ z. parts_match z (parts_of name)) p ∙ ap (parts_match (part ∷ [])) n ∙ and_right (part_matches part piece) _ (unmatched more).1
