-- Texts at their slashes.
use Rattle.std.proofs.Common.{◌≡◌, ◌≢◌, ℕ, suc, ◌<◌, Bool, true, false, ◌==◌, List, [], ◌∷◌, ◌++◌, length, get_or, refl, ap, ◌∙◌, arith, Option, Some, None, MatchOption}
use Rattle.std.proofs.lemmas.Bool.{cond-true, cond-false, ne_eqb, or_from, or_parts, or_right}
use denote.Ref.{Bor}
use Rattle.wdl_base.specs.Plain.{has_nul}
use Rattle.wdl_paths.specs.Resolve.{is_slash, has_slash, segments, folder, file_name}
use Rattle.wdl_paths.specs.Keeping.{IsCut}

no_slash : (s : List ℕ) → ((i : ℕ) → i < length s → get_or s i 0 ≢ 47) → has_slash s ≡ false
no_slash [] h = refl
no_slash (b ∷ bs) h = or_from (is_slash b) (has_slash bs) (ne_eqb b 47 (h 0 (omega arith))) (no_slash bs (λ i l. h (suc i) (omega arith)))

-- what a cut at the first slash gives
pub is_cut : (s : List ℕ) (r : Option (Bor (List ℕ) × Bor (List ℕ)))
    → MatchOption r ((i : ℕ) → i < length s → get_or s i 0 ≢ 47) (λ x. (s ≡ x.0.now ++ (47 ∷ x.1.now)) × ((i : ℕ) → i < length x.0.now → get_or x.0.now i 0 ≢ 47))
    → IsCut s r
is_cut s None h = no_slash s h
is_cut s (Some x) h = (h.0, no_slash x.0.now h.1)

-- ---- a slash behind a text without one

has_slash-middle : (f m : List ℕ) → has_slash (f ++ (47 ∷ m)) ≡ true
has_slash-middle [] m = refl
has_slash-middle (b ∷ f) m = or_right (is_slash b) (has_slash (f ++ (47 ∷ m))) (has_slash-middle f m)

pub segments-cut : (f m : List ℕ) → has_slash f ≡ false → segments (f ++ (47 ∷ m)) ≡ f ∷ segments m
segments-cut [] m h = refl
segments-cut (b ∷ f) m h =
    let p = or_parts (is_slash b) (has_slash f) h in
    cond-false (is_slash b) _ _ p.0 ∙ rw (segments-cut f m p.1) refl

pub segments-alone : (s : List ℕ) → has_slash s ≡ false → segments s ≡ s ∷ []
segments-alone [] h = refl
segments-alone (b ∷ s) h =
    let p = or_parts (is_slash b) (has_slash s) h in
    cond-false (is_slash b) _ _ p.0 ∙ rw (segments-alone s p.1) refl

pub folder-cut : (f m : List ℕ) → folder (f ++ (47 ∷ m)) ≡ f ++ (47 ∷ folder m)
folder-cut [] m = refl
folder-cut (b ∷ f) m =
    cond-true (has_slash (b ∷ (f ++ (47 ∷ m)))) _ _ (has_slash-middle (b ∷ f) m) ∙ ap (λ s. b ∷ s) (folder-cut f m)

pub folder-alone : (s : List ℕ) → has_slash s ≡ false → folder s ≡ []
folder-alone [] h = refl
folder-alone (b ∷ s) h = cond-false (has_slash (b ∷ s)) _ _ h

pub file_name-cut : (f m : List ℕ) → file_name (f ++ (47 ∷ m)) ≡ file_name m
file_name-cut [] m = refl
file_name-cut (b ∷ f) m = cond-true (has_slash (b ∷ (f ++ (47 ∷ m)))) _ _ (has_slash-middle (b ∷ f) m) ∙ file_name-cut f m

pub file_name-alone : (s : List ℕ) → has_slash s ≡ false → file_name s ≡ s
file_name-alone [] h = refl
file_name-alone (b ∷ s) h = cond-false (has_slash (b ∷ s)) _ _ h

-- ---- the folder and the name of a path

by_cases : (b : Bool) (P : Type 0) → (b ≡ true → P) → (b ≡ false → P) → P
by_cases true P f g = f refl
by_cases false P f g = g refl

pub folder-file_name : (s : List ℕ) → folder s ++ file_name s ≡ s
folder-file_name [] = refl
folder-file_name (b ∷ s) =
    by_cases (has_slash (b ∷ s)) _
    (λ e. ap (λ x. x ++ file_name (b ∷ s)) (cond-true (has_slash (b ∷ s)) (b ∷ folder s) [] e)
    ∙ ap (λ x. b ∷ (folder s ++ x)) (cond-true (has_slash (b ∷ s)) (file_name s) (b ∷ s) e)
    ∙ ap (λ x. b ∷ x) (folder-file_name s))
    (λ e. ap (λ x. x ++ file_name (b ∷ s)) (folder-alone (b ∷ s) e) ∙ file_name-alone (b ∷ s) e)

pub has_slash-file_name : (s : List ℕ) → has_slash (file_name s) ≡ false
has_slash-file_name [] = refl
has_slash-file_name (b ∷ s) =
    by_cases (has_slash (b ∷ s)) _
    (λ e. ap has_slash (cond-true (has_slash (b ∷ s)) (file_name s) (b ∷ s) e) ∙ has_slash-file_name s)
    (λ e. ap has_slash (file_name-alone (b ∷ s) e) ∙ e)

-- ---- parts of a text without NUL

pub has_nul-parts : (xs ys : List ℕ) → has_nul (xs ++ ys) ≡ false → (has_nul xs ≡ false) × (has_nul ys ≡ false)
has_nul-parts [] ys h = (refl, h)
has_nul-parts (x ∷ xs) ys h =
    let p = or_parts (x == 0) (has_nul (xs ++ ys)) h in
    let q = has_nul-parts xs ys p.1 in
    (or_from (x == 0) (has_nul xs) p.0 q.0, q.1)
