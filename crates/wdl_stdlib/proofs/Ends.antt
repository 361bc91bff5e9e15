-- Texts without the bytes at their end that pass a test.
use Rattle.std.proofs.Common.{◌≡◌, ℕ, ◌+◌, ◌-◌, ◌<◌, ◌==◌, Bool, true, false, cond, ◌&&◌, ◌||◌, List, [], ◌∷◌, ◌++◌, length, get_or, take, Option, Some, None, MatchOption, refl, sym, ap, ◌∙◌, arith, Bor}
use Rattle.std.proofs.lemmas.List.{take_more, take_all}
use Rattle.std.proofs.lemmas.Bool.{and_right, or_parts, or_from, eqb-true}
use Rattle.std.specs.List.{list_all}
use Rattle.std.specs.Option.{option_copied}
use Rattle.wdl_base.specs.Plain.{has_nul}
use Rattle.wdl_value.specs.Reads.{trimmed_end, ends_line}
use Rattle.wdl_stdlib.specs.Trims.{CutsEnd}

all-true : (test : ℕ → Bool) (front : List ℕ) (last : ℕ) → test last ≡ true → list_all test (front ++ last ∷ []) ≡ list_all test front
all-true test [] last h = ap (λ b. b && true) h
all-true test (b ∷ bs) last h = ap (λ z. test b && z) (all-true test bs last h)

all-false : (test : ℕ → Bool) (front : List ℕ) (last : ℕ) → test last ≡ false → list_all test (front ++ last ∷ []) ≡ false
all-false test [] last h = ap (λ b. b && true) h
all-false test (b ∷ bs) last h = ap (λ z. test b && z) (all-false test bs last h) ∙ and_right (test b) false refl

trimmed-cut : (test : ℕ → Bool) (front : List ℕ) (last : ℕ) → test last ≡ true → trimmed_end test (front ++ last ∷ []) ≡ trimmed_end test front
trimmed-cut test [] last h = ap (λ b. cond (b && true) [] (last ∷ [])) h
trimmed-cut test (b ∷ bs) last h =
    ap (λ z. cond (test b && z) [] (b ∷ trimmed_end test (bs ++ last ∷ []))) (all-true test bs last h)
    ∙ ap (λ z. cond (test b && list_all test bs) [] (b ∷ z)) (trimmed-cut test bs last h)

trimmed-kept : (test : ℕ → Bool) (front : List ℕ) (last : ℕ) → test last ≡ false → trimmed_end test (front ++ last ∷ []) ≡ front ++ last ∷ []
trimmed-kept test [] last h = ap (λ b. cond (b && true) [] (last ∷ [])) h
trimmed-kept test (b ∷ bs) last h =
    ap (λ z. cond z [] (b ∷ trimmed_end test (bs ++ last ∷ []))) (all-false test (b ∷ bs) last h) ∙ ap (λ z. b ∷ z) (trimmed-kept test bs last h)

split_last : (s : List ℕ) (d : ℕ) → 0 < length s → s ≡ take (length s - 1) s ++ get_or s (length s - 1) d ∷ []
split_last s d h =
    let whole : take (length s - 1 + 1) s ≡ s = take_all (length s - 1 + 1) s (omega arith) in
    sym whole ∙ take_more s (length s - 1) d (omega arith)

pub trimmed-last : (test : ℕ → Bool) (s : List ℕ) (d : ℕ) → 0 < length s → true ≡ test (get_or s (length s - 1) d) → trimmed_end test (take (length s - 1) s) ≡ trimmed_end test s
trimmed-last test s d h k = sym (ap (trimmed_end test) (split_last s d h) ∙ trimmed-cut test (take (length s - 1) s) (get_or s (length s - 1) d) (sym k))

pub trimmed-stays : (test : ℕ → Bool) (s : List ℕ) (d : ℕ) → 0 < length s → false ≡ test (get_or s (length s - 1) d) → trimmed_end test s ≡ s
trimmed-stays test s d h k =
    ap (trimmed_end test) (split_last s d h) ∙ trimmed-kept test (take (length s - 1) s) (get_or s (length s - 1) d) (sym k) ∙ sym (split_last s d h)

has_last : (b : ℕ) (bs : List ℕ) → (front : List ℕ) × (last : ℕ) × (b ∷ bs ≡ front ++ last ∷ [])
has_last b [] = ([], b, refl)
has_last b (c ∷ cs) = let p = has_last c cs in (b ∷ p.0, p.1, ap (λ z. b ∷ z) p.2)

pub trimmed-none : (test : ℕ → Bool) (s : List ℕ) → CutsEnd test s None → trimmed_end test s ≡ s
trimmed-none test [] h = refl
trimmed-none test (b ∷ bs) h =
    let p = has_last b bs in
    ap (trimmed_end test) p.2 ∙ trimmed-kept test p.0 p.1 (h p.0 p.1 p.2) ∙ sym p.2

plain-front : (xs ys : List ℕ) → has_nul (xs ++ ys) ≡ false → has_nul xs ≡ false
plain-front [] ys h = refl
plain-front (x ∷ xs) ys h = let p = or_parts _ (has_nul (xs ++ ys)) h in or_from _ (has_nul xs) p.0 (plain-front xs ys p.1)

-- `strip_suffix` at a newline and then at a carriage return
pub cuts_return : (s : List ℕ) (r : Option (Bor (List ℕ))) → ((front : List ℕ) → s ≡ front ++ 10 ∷ [] → ⊥)
    → MatchOption r ((front : List ℕ) → s ≡ front ++ 13 ∷ [] → ⊥) (λ x. s ≡ x.now ++ 13 ∷ []) → CutsEnd ends_line s (option_copied r)
cuts_return s None n h = λ front last e. by_tests front last e (last == 13) refl (last == 10) refl
  where
    by_tests : (front : List ℕ) (last : ℕ) → s ≡ front ++ last ∷ [] → (a : Bool) → (last == 13) ≡ a → (b : Bool) → (last == 10) ≡ b → (last == 13 || last == 10) ≡ false
    by_tests front last e true i b j = absurd (h front (e ∙ ap (λ z. front ++ z ∷ []) (eqb-true last 13 i)))
    by_tests front last e false i true j = absurd (n front (e ∙ ap (λ z. front ++ z ∷ []) (eqb-true last 10 j)))
    by_tests front last e false i false j = or_from _ _ i j
cuts_return s (Some x) n h = (13, refl, h)

pub trimmed-shorter : (test : ℕ → Bool) (s x : List ℕ) → CutsEnd test s (Some x) → trimmed_end test x ≡ trimmed_end test s
trimmed-shorter test s x h = sym (ap (trimmed_end test) h.2 ∙ trimmed-cut test x h.0 h.1)

pub plain-shorter : (test : ℕ → Bool) (s x : List ℕ) → CutsEnd test s (Some x) → has_nul s ≡ false → has_nul x ≡ false
plain-shorter test s x h k = plain-front x (h.0 ∷ []) (sym (ap has_nul h.2) ∙ k)
