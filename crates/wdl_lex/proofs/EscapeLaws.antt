-- The escapes: each is read, and what is read is one.
use Rattle.std.proofs.Common.{◌≡◌, ℕ, ◌+◌, ◌<◌, Bool, true, false, cond, ◌==◌, nat_le, ◌⊎◌, inl, inr, [], ◌∷◌, ◌++◌, length, take, drop, Option, Some, None, refl, ap, sym, ◌∙◌, subst, length-append, arith}
use Rattle.std.proofs.lemmas.Bool.{and_parts, cond-true, cond-false, eqb-true, leb-true, le-leb}
use Rattle.std.proofs.lemmas.Bool.Decides.{nat_tests}
use Rattle.std.proofs.lemmas.List.{take_at, take-append-drop, length-take-le}
use Rattle.std.specs.Str.Parse.{digits_value}
use Rattle.wdl_ast.specs.Spelled.Classes.{Bytes, is_digit_of, are_digits}
use Rattle.wdl_ast.specs.Spelled.Escapes as s
use Rattle.wdl_ast.specs.Spelled.Escapes.{simple, hex_digits, is_character, IsEscape}
use Rattle.wdl_lex.specs.Reading.Escapes.{character, number, with_len, numbered, hex_escape, short_escape, escape}
use Rattle.wdl_lex.proofs.Lists.{chosen}

abbrev Meets : Type 0
Meets = ℕ × ℕ

octal_not : (b k : ℕ) → is_digit_of 8 b ≡ true → ((b == k) ≡ true) → (k < 48) ⊎ (55 < k) → ⊥
unfolding is_digit_of
octal_not b k d e (inl h) = let q = eqb-true b k e in (let f : is_digit_of 8 b ≡ false = grind (arith, nat_tests) in let n : ⊥ = cc in n)
octal_not b k d e (inr h) = let q = eqb-true b k e in (let f : is_digit_of 8 b ≡ false = grind (arith, nat_tests) in let n : ⊥ = cc in n)

differs : (b k : ℕ) → is_digit_of 8 b ≡ true → (k < 48) ⊎ (55 < k) → (b == k) ≡ false
differs b k d h = go (b == k) refl
  where
    go : (t : Bool) → (b == k) ≡ t → (b == k) ≡ false
    go false e = e
    go true e = absurd (octal_not b k d e h)

octal_simple : (b : ℕ) → is_digit_of 8 b ≡ true → simple b ≡ None
octal_simple b d =
    cond-false (b == 92) _ _ (differs b 92 d (inr (omega arith))) ∙ cond-false (b == 110) _ _ (differs b 110 d (inr (omega arith))) ∙ cond-false (b == 116) _ _ (differs b 116 d (inr (omega arith)))
    ∙ cond-false (b == 39) _ _ (differs b 39 d (inl (omega arith))) ∙ cond-false (b == 34) _ _ (differs b 34 d (inl (omega arith))) ∙ cond-false (b == 126) _ _ (differs b 126 d (inr (omega arith)))
    ∙ cond-false (b == 36) _ _ (differs b 36 d (inl (omega arith)))

-- the letters of hexadecimal escapes
pub hex_is : (b n : ℕ) → hex_digits b ≡ Some n → (b ≡ 120) ⊎ ((b ≡ 117) ⊎ (b ≡ 85))
hex_is b n h = x (chosen (b == 120) _ _ _ h)
  where
    long : ((b == 85) ≡ true) × (Some 8 ≡ Some n) ⊎ (((b == 85) ≡ false) × (None ≡ Some n)) → (b ≡ 120) ⊎ ((b ≡ 117) ⊎ (b ≡ 85))
    long (inl q) = inr (inr (eqb-true b 85 q.0))
    long (inr q) = (let e = q.1 in let z : ⊥ = cc in absurd z)

    u : ((b == 117) ≡ true) × (Some 4 ≡ Some n) ⊎ (((b == 117) ≡ false) × (cond (b == 85) (Some 8) None ≡ Some n)) → (b ≡ 120) ⊎ ((b ≡ 117) ⊎ (b ≡ 85))
    u (inl q) = inr (inl (eqb-true b 117 q.0))
    u (inr q) = long (chosen (b == 85) _ _ _ q.1)

    x : ((b == 120) ≡ true) × (Some 2 ≡ Some n) ⊎ (((b == 120) ≡ false) × (cond (b == 117) (Some 4) (cond (b == 85) (Some 8) None) ≡ Some n)) → (b ≡ 120) ⊎ ((b ≡ 117) ⊎ (b ≡ 85))
    x (inl q) = inl (eqb-true b 120 q.0)
    x (inr q) = u (chosen (b == 117) _ _ _ q.1)

hex_other : (b : ℕ) → (b ≡ 120) ⊎ ((b ≡ 117) ⊎ (b ≡ 85)) → (simple b ≡ None) × (is_digit_of 8 b ≡ false)
unfolding is_digit_of
hex_other b (inl e) = (ap simple e, ap (is_digit_of 8) e)
hex_other b (inr (inl e)) = (ap simple e, ap (is_digit_of 8) e)
hex_other b (inr (inr e)) = (ap simple e, ap (is_digit_of 8) e)

numbered_full : (base n len : ℕ) (w rest : Bytes) → length w ≡ n → are_digits base w ≡ true → is_character (digits_value base w) ≡ true → numbered base n len (w ++ rest) ≡ Some (digits_value base w, len)
numbered_full base n len w rest h d c =
    cond-true (nat_le n (length (w ++ rest))) _ _ (le-leb n (length (w ++ rest)) (omega (arith, length-append w rest)))
    ∙ ap (λ x. with_len (number base x) len) (take_at w rest n h)
    ∙ ap (λ o. with_len o len) (cond-true (are_digits base w) _ _ d ∙ cond-true (is_character (digits_value base w)) _ _ c)

pub escape_full : (w rest : Bytes) (c : ℕ) → IsEscape w c → escape (w ++ rest) ≡ Some (c, length w)
unfolding escape
escape_full w rest c (s.short b d h) = ap (λ o. short_escape o b rest) h
escape_full w rest c (s.octal x len d h) = go x len d h
  where
    go : (x : Bytes) → length x ≡ 3 → are_digits 8 x ≡ true → is_character (digits_value 8 x) ≡ true → escape (x ++ rest) ≡ Some (digits_value 8 x, length x)
    go [] len d h = absurd (omega arith)
    go (b ∷ x) len d h =
        let q = and_parts (is_digit_of 8 b) (are_digits 8 x) d in
        ap (λ o. short_escape o b (x ++ rest)) (octal_simple b q.0) ∙ cond-true (is_digit_of 8 b) _ _ q.0 ∙ numbered_full 8 3 3 (b ∷ x) rest len d h ∙ ap (λ n. Some (digits_value 8 (b ∷ x), n)) (sym len)
escape_full w rest c (s.hex b x k d h) =
    let o = hex_other b (hex_is b (length x) k) in
    ap (λ o. short_escape o b (x ++ rest)) o.0 ∙ cond-false (is_digit_of 8 b) _ _ o.1 ∙ ap (λ o. hex_escape o (x ++ rest)) k
    ∙ numbered_full 16 (length x) (1 + length x) x rest refl d h ∙ ap (λ n. Some (digits_value 16 x, n)) (let e : 1 + length x ≡ length (b ∷ x) = omega arith in e)

abbrev HasDigits : ℕ → ℕ → Bytes → ℕ → Type 0
HasDigits base n z c = (w : Bytes) × (rest : Bytes) × (z ≡ w ++ rest) × (length w ≡ n) × (are_digits base w ≡ true) × (is_character (digits_value base w) ≡ true) × (digits_value base w ≡ c)

abbrev met : Meets → Option Meets
met x = Some x

same_met : (x y : Meets) → met x ≡ met y → (x.0 ≡ y.0) × (x.1 ≡ y.1)
same_met x y h = let e : x ≡ y = cc in (ap (λ (z : Meets). z.0) e, ap (λ (z : Meets). z.1) e)

numbered_sound : (base n len : ℕ) (z : Bytes) (c m : ℕ) → numbered base n len z ≡ met (c, m) → HasDigits base n z c × (len ≡ m)
numbered_sound base n len z c m h = enough (chosen (nat_le n (length z)) _ _ _ h)
  where
    w : Bytes
    w = take n z

    char : (nat_le n (length z) ≡ true) → (are_digits base (take n z) ≡ true) → ((is_character (digits_value base (take n z)) ≡ true) × (with_len (Some (digits_value base (take n z))) len ≡ met (c, m))) ⊎ ((is_character (digits_value base (take n z)) ≡ false) × (with_len None len ≡ met (c, m))) → HasDigits base n z c × (len ≡ m)
    char le d (inr q) = (let e = q.1 in let x : ⊥ = cc in absurd x)
    char le d (inl q) =
        let is = same_met (digits_value base (take n z), len) (c, m) q.1 in
        ((take n z, drop n z, sym (take-append-drop n z), length-take-le n z (leb-true n (length z) le), d, q.0, is.0), is.1)

    digits : (nat_le n (length z) ≡ true) → (t : Bool) → are_digits base (take n z) ≡ t → with_len (cond t (character (digits_value base (take n z))) None) len ≡ met (c, m) → HasDigits base n z c × (len ≡ m)
    digits le false d q = cc
    digits le true d q = char le d (chars (is_character (digits_value base (take n z))) refl q)
      where
        chars : (t : Bool) → is_character (digits_value base (take n z)) ≡ t → with_len (cond t (Some (digits_value base (take n z))) None) len ≡ met (c, m) → ((is_character (digits_value base (take n z)) ≡ true) × (with_len (Some (digits_value base (take n z))) len ≡ met (c, m))) ⊎ ((is_character (digits_value base (take n z)) ≡ false) × (with_len None len ≡ met (c, m)))
        chars true e q = inl (e, q)
        chars false e q = inr (e, q)

    enough : ((nat_le n (length z) ≡ true) × (with_len (number base (take n z)) len ≡ met (c, m))) ⊎ ((nat_le n (length z) ≡ false) × (None ≡ met (c, m))) → HasDigits base n z c × (len ≡ m)
    enough (inr q) = (let e = q.1 in let x : ⊥ = cc in absurd x)
    enough (inl q) = digits q.0 (are_digits base (take n z)) refl q.1

abbrev pub HasEscape : Bytes → ℕ → ℕ → Type 0
HasEscape z c m = (w : Bytes) × (rest : Bytes) × (z ≡ w ++ rest) × (length w ≡ m) × IsEscape w c

pub escape_sound : (z : Bytes) (c m : ℕ) → escape z ≡ Some (c, m) → HasEscape z c m
unfolding escape
escape_sound [] c m h = cc
escape_sound (b ∷ z) c m h = short (simple b) refl h
  where
    hex : (o : Option ℕ) → hex_digits b ≡ o → hex_escape o z ≡ met (c, m) → HasEscape (b ∷ z) c m
    hex None e h = cc
    hex (Some n) e h =
        let t = numbered_sound 16 n (1 + n) z c m h in
        let d = t.0 in
        (b ∷ d.0, d.1, ap (λ x. b ∷ x) d.2, (let q : length (b ∷ d.0) ≡ 1 + n = omega (arith, d.3) in q ∙ t.1), subst (IsEscape (b ∷ d.0)) d.6 (s.hex b d.0 (e ∙ ap (λ k. Some k) (sym d.3)) d.4 d.5))

    octal : ((is_digit_of 8 b ≡ true) × (numbered 8 3 3 (b ∷ z) ≡ met (c, m))) ⊎ ((is_digit_of 8 b ≡ false) × (hex_escape (hex_digits b) z ≡ met (c, m))) → HasEscape (b ∷ z) c m
    octal (inl q) =
        let t = numbered_sound 8 3 3 (b ∷ z) c m q.1 in
        let d = t.0 in
        (d.0, d.1, d.2, d.3 ∙ t.1, subst (IsEscape d.0) d.6 (s.octal d.0 d.3 d.4 d.5))
    octal (inr q) = hex (hex_digits b) refl q.1

    short : (o : Option ℕ) → simple b ≡ o → short_escape o b z ≡ met (c, m) → HasEscape (b ∷ z) c m
    short None e h = octal (chosen (is_digit_of 8 b) _ _ _ h)
    short (Some d) e h = let is = same_met (d, 1) (c, m) h in (b ∷ [], z, refl, is.1, subst (IsEscape (b ∷ [])) is.0 (s.short b d e))

pub no_escape : (z : Bytes) → escape z ≡ None → (x rest : Bytes) (c : ℕ) → z ≡ x ++ rest → IsEscape x c → ⊥
no_escape z h x rest c e q = let f = sym h ∙ ap escape e ∙ escape_full x rest c q in let n : ⊥ = cc in n
