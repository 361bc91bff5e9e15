-- A pattern is matched from left to right by keeping the ends of the name that are left to match.
use Rattle.std.proofs.Common.{◌≡◌, ℕ, suc, ◌+◌, ◌==◌, Bool, true, false, cond, ◌&&◌, ◌||◌, List, [], ◌∷◌, length, map, get_or, refl, sym, ap, ◌∙◌, arith}
use Rattle.std.proofs.lemmas.Bool.{and_right}
use Rattle.std.proofs.Math.Bool.{or-false, or_assoc, and_assoc}
use Rattle.wdl_value.specs.Paths.{any_end, takes, one_then, wild}
use Rattle.wdl_stdlib.specs.Glob.{first_row, moved, spread}

-- some end of the name is in the row and passes
abbrev pub any_from : List Bool → (List ℕ → Bool) → List ℕ → Bool
any_from [] test cs = false
any_from (b ∷ bs) test [] = b && test []
any_from (b ∷ bs) test (c ∷ cs) = (b && test (c ∷ cs)) || any_from bs test cs

none_left : (test : List ℕ → Bool) (cs ds : List ℕ) → any_from (map (λ c. false) ds) test cs ≡ false
none_left test cs [] = refl
none_left test [] (d ∷ ds) = refl
none_left test (c ∷ cs) (d ∷ ds) = none_left test cs ds

pub any_first : (test : List ℕ → Bool) (cs : List ℕ) → any_from (first_row cs) test cs ≡ test cs
any_first test [] = refl
any_first test (c ∷ cs) = ap (λ b. test (c ∷ cs) || b) (none_left test cs (c ∷ cs)) ∙ or-false (test (c ∷ cs))

-- ---- one character

-- the test at the front apart
front_apart : (b : Bool) (bs : List Bool) (test : List ℕ → Bool) (cs : List ℕ) → any_from (b ∷ bs) test cs ≡ ((b && test cs) || any_from (false ∷ bs) test cs)
front_apart b bs test [] = sym (or-false (b && test []))
front_apart b bs test (c ∷ cs) = refl

any_moved : (p : ℕ) (test : List ℕ → Bool) (row : List Bool) (cs : List ℕ) → any_from (false ∷ moved p row cs) test cs ≡ any_from row (one_then p test) cs
any_moved p test [] [] = refl
any_moved p test (b ∷ bs) [] = sym (and_right b false refl)
any_moved p test [] (c ∷ cs) = refl
any_moved p test (b ∷ bs) (c ∷ cs) =
    front_apart (b && takes p c) (moved p bs cs) test cs
    ∙ ap (λ z. z || any_from (false ∷ moved p bs cs) test cs) (and_assoc b (takes p c) (test cs))
    ∙ ap (λ z. (b && (takes p c && test cs)) || z) (any_moved p test bs cs)

-- ---- a star

regroup : (seen b t e r : Bool) → (((seen || b) && t) || (((seen || b) && e) || r)) ≡ ((seen && (t || e)) || ((b && (t || e)) || r))
regroup true true true e r = refl
regroup true true false true r = refl
regroup true true false false r = refl
regroup true false t e r = sym (or_assoc t e r)
regroup false true t e r = sym (or_assoc t e r)
regroup false false t e r = refl

spread_last : (seen b t : Bool) → ((seen || b) && t) ≡ ((seen && t) || (b && t))
spread_last true b true = refl
spread_last true true false = refl
spread_last true false false = refl
spread_last false b t = refl

any_spread : (test : List ℕ → Bool) (seen : Bool) (row : List Bool) (cs : List ℕ) → length row ≡ length cs + 1 → any_from (spread seen row) test cs ≡ ((seen && any_end test cs) || any_from row (any_end test) cs)
any_spread test seen [] cs h = absurd (omega arith)
any_spread test seen (b ∷ bs) [] h = spread_last seen b (test [])
any_spread test seen (b ∷ bs) (c ∷ cs) h =
    ap (λ z. ((seen || b) && test (c ∷ cs)) || z) (any_spread test (seen || b) bs cs (omega arith))
    ∙ regroup seen b (test (c ∷ cs)) (any_end test cs) (any_from bs (any_end test) cs)

length_spread : (seen : Bool) (row : List Bool) → length (spread seen row) ≡ length row
length_spread seen [] = refl
length_spread seen (b ∷ bs) = ap suc (length_spread (seen || b) bs)

length_moved : (p : ℕ) (row : List Bool) (cs : List ℕ) → length row ≡ length cs + 1 → length (moved p row cs) ≡ length cs
length_moved p row [] h = refl
length_moved p [] (c ∷ cs) h = absurd (omega arith)
length_moved p (b ∷ bs) (c ∷ cs) h = ap suc (length_moved p bs cs (omega arith))

-- ---- the loop

abbrev pub next_row : ℕ → List Bool → List ℕ → List Bool
next_row p row cs = cond (p == 42) (spread false row) (false ∷ moved p row cs)

pub length_next : (p : ℕ) (row : List Bool) (cs : List ℕ) → length row ≡ length cs + 1 → length (next_row p row cs) ≡ length cs + 1
length_next p row cs h =
    elim (p == 42) as (λ b. length (cond b (spread false row) (false ∷ moved p row cs)) ≡ length cs + 1) [ true ↦ length_spread false row ∙ h | false ↦ omega (arith, length_moved p row cs h) ]

pub any_next : (p : ℕ) (ps : List ℕ) (row : List Bool) (cs : List ℕ) → length row ≡ length cs + 1 → any_from (next_row p row cs) (wild ps) cs ≡ any_from row (wild (p ∷ ps)) cs
any_next p ps row cs h =
    elim (p == 42) as (λ b. any_from (cond b (spread false row) (false ∷ moved p row cs)) (wild ps) cs ≡ any_from row (λ ds. cond b (any_end (wild ps) ds) (one_then p (wild ps) ds)) cs) [
      | true ↦ any_spread (wild ps) false row cs h
      | false ↦ any_moved p (wild ps) row cs
    ]

pub any_last : (row : List Bool) (cs : List ℕ) (d : Bool) → length row ≡ length cs + 1 → any_from row (wild []) cs ≡ get_or row (length cs) d
any_last [] cs d h = absurd (omega arith)
any_last (b ∷ bs) [] d h = and_true b
  where
    and_true : (b : Bool) → (b && true) ≡ b
    and_true true = refl
    and_true false = refl
any_last (b ∷ bs) (c ∷ cs) d h = ap (λ z. z || any_from bs (wild []) cs) (and_right b false refl) ∙ any_last bs cs d (omega arith)
