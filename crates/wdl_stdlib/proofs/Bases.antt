-- The last part of a path, and its ending.
use Rattle.std.proofs.Common.{◌≡◌, ◌≢◌, ℕ, suc, ◌-◌, ◌<◌, ◌==◌, Bool, true, false, cond, ◌||◌, List, [], ◌∷◌, ◌++◌, length, get_or, take, drop, refl, sym, ap, ◌∙◌, arith, length-append}
use Rattle.std.proofs.lemmas.Bool.{ne_eqb, or_parts}
use Rattle.std.proofs.lemmas.List.{take-append-drop}
use Rattle.std.proofs.lemmas.Slice.Eq.{bytes_eq-Decides}
use Rattle.std.specs.List.{list_any}
use Rattle.std.specs.Str.{bytes_eq}
use Rattle.wdl_value.specs.Paths.{base_name, without_ending}
use Rattle.wdl_base.specs.Plain.{has_nul}

abbrev has_slash : List ℕ → Bool
has_slash = list_any (λ b. b == 47)

slash_inside : (xs ys : List ℕ) → has_slash (xs ++ 47 ∷ ys) ≡ true
slash_inside [] ys = refl
slash_inside (x ∷ xs) ys = ap (λ b. (x == 47) || b) (slash_inside xs ys) ∙ or_true (x == 47)
  where
    or_true : (b : Bool) → (b || true) ≡ true
    or_true true = refl
    or_true false = refl

pub base-after : (xs ys : List ℕ) → base_name (xs ++ 47 ∷ ys) ≡ base_name ys
base-after [] ys = refl
base-after (x ∷ xs) ys = ap (λ b. cond b (base_name (xs ++ 47 ∷ ys)) (x ∷ (xs ++ 47 ∷ ys))) (slash_inside (x ∷ xs) ys) ∙ base-after xs ys

no_slash : (s : List ℕ) → ((i : ℕ) → i < length s → get_or s i 0 ≢ 47) → has_slash s ≡ false
no_slash [] h = refl
no_slash (c ∷ cs) h = ap (λ b. b || has_slash cs) (ne_eqb c 47 (h 0 (omega arith))) ∙ no_slash cs (λ i l. h (suc i) (omega arith))

pub base-whole : (s : List ℕ) → ((i : ℕ) → i < length s → get_or s i 0 ≢ 47) → base_name s ≡ s
base-whole [] h = refl
base-whole (c ∷ cs) h = ap (λ b. cond b (base_name cs) (c ∷ cs)) (no_slash (c ∷ cs) h)

pub plain-after : (xs ys : List ℕ) → has_nul (xs ++ 47 ∷ ys) ≡ false → has_nul ys ≡ false
plain-after [] ys h = h
plain-after (x ∷ xs) ys h = plain-after xs ys (or_parts (x == 0) (has_nul (xs ++ 47 ∷ ys)) h).1

-- ---- an ending

drop_front : (xs ys : List ℕ) → drop (length xs) (xs ++ ys) ≡ ys
drop_front [] ys = refl
drop_front (x ∷ xs) ys = drop_front xs ys

pub ending-there : (s n : List ℕ) → s ≡ take (length s - length n) s ++ n → without_ending s n ≡ take (length s - length n) s
ending-there s n h =
    let front = take (length s - length n) s in
    let sizes = ap length h ∙ length-append front n in
    let cut : drop (length s - length n) s ≡ n = ap (drop (length s - length n)) h ∙ ap (λ k. drop k (front ++ n)) (omega arith) ∙ drop_front front n in
    ap (λ b. cond b front s) ((bytes_eq-Decides n (drop (length s - length n) s)).1 (sym cut))

pub ending-absent : (s n : List ℕ) → ((front : List ℕ) → s ≢ front ++ n) → without_ending s n ≡ s
ending-absent s n h = by_test (bytes_eq n (drop (length s - length n) s)) refl
  where
    by_test : (b : Bool) → bytes_eq n (drop (length s - length n) s) ≡ b → cond b (take (length s - length n) s) s ≡ s
    by_test true k =
        let e = (bytes_eq-Decides n (drop (length s - length n) s)).0 k in
        absurd (h (take (length s - length n) s) (sym (take-append-drop (length s - length n) s) ∙ ap (λ z. take (length s - length n) s ++ z) (sym e)))
    by_test false k = refl
