-- Texts without the carriage returns before their newlines.
use Rattle.std.proofs.Common.{◌≡◌, ◌≢◌, ◌∙◌, sym, ap, subst, ℕ, zero, suc, ◌+◌, ◌<◌, ◌≤◌, ◌==◌, ◌&&◌, Bool, true, false, cond, List, [], ◌∷◌, ◌++◌, length, take, drop, Bor, refl, arith, inl, inr, append-nil}
use Rattle.std.proofs.lemmas.Bool.{and_parts, eqb-true}
use Rattle.std.proofs.lemmas.List.{length-take, take-append-drop}
use Rattle.std.proofs.lemmas.List.Sums.{sum_by-cons}
use Rattle.std.specs.Str.Pattern.{FindsText}
use Rattle.std.specs.Str.Replace.{ReplacesMatches}
use Rattle.wdl_base.specs.Templates.{begins_with_newline, without_returns}
use Rattle.command_text.specs.Marks.{zeros}
use Rattle.command_text.proofs.Zeros.{rest_zeros}

-- ---- the text that `replace` makes

-- no line end stands here
Apart : List ℕ → Type 0
Apart text = (rest : List ℕ) → text ≢ 13 ∷ 10 ∷ rest

by_newline : (text : List ℕ) → begins_with_newline text ≡ true → (rest : List ℕ) × (text ≡ 10 ∷ rest)
by_newline [] h = absurd (cc)
by_newline (c ∷ text) h = (text, ap (λ x. x ∷ text) (eqb-true c 10 h))

no_return : (b : ℕ) (text : List ℕ) → Apart (b ∷ text) → (b == 13 && begins_with_newline text) ≡ false
unfolding Apart
no_return b text h = by_test (b == 13 && begins_with_newline text) refl
  where
    by_test : (t : Bool) → (b == 13 && begins_with_newline text) ≡ t → t ≡ false
    by_test false e = refl
    by_test true e =
        let both = and_parts (b == 13) (begins_with_newline text) e in
        let next = by_newline text both.1 in
        absurd (h next.0 (ap (λ x. x ∷ text) (eqb-true b 13 both.0) ∙ ap (λ l. 13 ∷ l) next.1))

-- before the first line end nothing goes
unchanged : (s t : List ℕ) → ((i : ℕ) → i < length s → Apart (drop i (s ++ t))) → without_returns (s ++ t) ≡ s ++ without_returns t
unchanged [] t h = refl
unchanged (b ∷ s) t h =
    ap (λ x. cond x (without_returns (s ++ t)) (b ∷ without_returns (s ++ t))) (no_return b (s ++ t) (h 0 (omega arith)))
    ∙ ap (λ l. b ∷ l) (unchanged s t (λ i lt. h (suc i) (omega (arith, lt))))

none_apart : (s : List ℕ) → ((i : ℕ) → i ≤ length s → Apart (drop i s)) → without_returns s ≡ s
none_apart s h =
    ap without_returns (sym (append-nil s))
    ∙ (unchanged s [] (λ i lt. subst (λ l. Apart (drop i l)) (sym (append-nil s)) (h i (omega (arith, lt)))) ∙ append-nil s)

first_apart : (s t : List ℕ) (a : ℕ) → drop a s ≡ 13 ∷ 10 ∷ t → ((i : ℕ) → i < a → Apart (drop i s))
    → without_returns s ≡ take a s ++ 10 ∷ without_returns t
first_apart s t a here before =
    let whole : take a s ++ 13 ∷ 10 ∷ t ≡ s = ap (λ l. take a s ++ l) (sym here) ∙ take-append-drop a s in
    let front : (i : ℕ) → i < length (take a s) → Apart (drop i (take a s ++ 13 ∷ 10 ∷ t)) =
    λ i lt. subst (λ l. Apart (drop i l)) (sym whole) (before i (omega (arith, lt, length-take a s))) in
    ap without_returns (sym whole) ∙ unchanged (take a s) (13 ∷ 10 ∷ t) front

pub replaced_is : (n : ℕ) (p : Bor (List ℕ)) (s out : List ℕ) → p.now ≡ 13 ∷ 10 ∷ []
    → ReplacesMatches (λ (q : Bor (List ℕ)). FindsText q.now) (λ (q r : Bor (List ℕ)). r.now ≡ q.now) (10 ∷ []) n p s out
    → out ≡ without_returns s
unfolding Apart
replaced_is zero p s out is h =
    h.1 ∙ sym (none_apart s (λ i low rest e. h.0 i low rest (e ∙ ap (λ w. w ++ rest) (sym is))))
replaced_is (suc n) p s out is h =
    let a = h.0 in
    let b = h.1 in
    let q = h.2 in
    let rest = h.3 in
    let found = h.4 in
    let ends : b ≡ a + 2 = found.1.ends ∙ ap (λ (w : List ℕ). a + length w) is in
    let here : drop a s ≡ 13 ∷ 10 ∷ drop b s = found.1.split ∙ ap (λ w. w ++ drop b s) is in
    let before : (i : ℕ) → i < a → Apart (drop i s) = λ i lt more e. found.0 i lt more (e ∙ ap (λ w. w ++ more) (sym is)) in
    let last : rest ≡ without_returns (drop b s) = elim h.6 [
      | inl more ↦ replaced_is n q (drop b s) rest (h.5 ∙ is) more.1
      | inr none ↦ absurd (omega (arith, ends, none.0))
    ] in
    h.7 ∙ (ap (λ l. take a s ++ 10 ∷ l) last ∙ sym (first_apart s (drop b s) a here before))

-- ---- the holes of such a text

one_more : (b : ℕ) (xs ys : List ℕ) → zeros xs ≡ zeros ys → zeros (b ∷ xs) ≡ zeros (b ∷ ys)
one_more b xs ys h =
    let f : ℕ → ℕ = λ x. cond (x == 0) 1 0 in
    sum_by-cons f b xs ∙ (ap (λ n. cond (b == 0) 1 0 + n) h ∙ sym (sum_by-cons f b ys))

pub zeros_kept : (text : List ℕ) → zeros (without_returns text) ≡ zeros text
zeros_kept [] = refl
zeros_kept (b ∷ text) = by_test (b == 13 && begins_with_newline text) refl (zeros_kept text)
  where
    by_test : (t : Bool) → (b == 13 && begins_with_newline text) ≡ t → zeros (without_returns text) ≡ zeros text
        → zeros (cond t (without_returns text) (b ∷ without_returns text)) ≡ zeros (b ∷ text)
    by_test false e h = one_more b (without_returns text) text h
    by_test true e h =
        let is = eqb-true b 13 (and_parts (b == 13) (begins_with_newline text) e).0 in
        h ∙ (sym (rest_zeros 12 text) ∙ ap (λ x. zeros (x ∷ text)) (sym is))
