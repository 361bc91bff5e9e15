-- Digits as texts, and the numbers that std reads from them.
use Rattle.std.proofs.Common.{◌≡◌, ℕ, ◌<◌, ◌≤◌, ◌^◌, Bool, true, false, cond, ◌&&◌, ◌||◌, ◌==◌, nat_lt, [], ◌∷◌, length, Some, None, refl, ap, sym, ◌∙◌, subst, arith, pos, ℤ}
use Rattle.std.proofs.lemmas.Bool.{and_parts, ltb-true, cond-true, cond-false, leb-true, le-leb}
use Rattle.std.proofs.lemmas.Bool.Decides.{nat_tests}
use Rattle.std.proofs.lemmas.Str.{IsUtf8-from_ascii}
use Rattle.std.proofs.lemmas.Str.Ascii.{IsAscii-cons, IsAscii-nil}
use Rattle.std.specs.Char.{digit_value}
use Rattle.std.specs.List.{list_all}
use Rattle.std.specs.Str.{IsUtf8, IsAscii}
use Rattle.std.specs.Str.Parse.{AllDigits, IsNumeral, digits_value, without_leading_plus, without_leading_sign, signed_digits_value, starts_with_minus}
use Rattle.std.specs.Prelude.{FitsSigned, nat_le, take}
use Rattle.std.specs.List.{prefix_len}
use Rattle.std.proofs.Common.{w64}
use Rattle.wdl_lex.proofs.Lists.{front_of, cut}
use Rattle.wdl_base.specs.Plain.{has_nul}
use Rattle.wdl_ast.specs.Spelled.Classes.{Bytes, is_digit_of, are_digits}
use Rattle.wdl_ast.specs.Spelled.Escapes.{is_character}
use Rattle.wdl_lex.specs.Reading.Escapes.{character, number}

-- ---- bytes of ASCII other than NUL

abbrev pub is_plain : ℕ → Bool
is_plain b = nat_lt 0 b && nat_lt b 128

abbrev pub are_plain : Bytes → Bool
are_plain w = list_all is_plain w

plain_ascii : (w : Bytes) → are_plain w ≡ true → IsAscii w
plain_ascii [] h = IsAscii-nil
plain_ascii (b ∷ w) h =
    let q = and_parts (is_plain b) (are_plain w) h in
    let p = and_parts (nat_lt 0 b) (nat_lt b 128) q.0 in
    IsAscii-cons b w (ltb-true b 128 p.1) (plain_ascii w q.1)

pub plain_utf8 : (w : Bytes) → are_plain w ≡ true → IsUtf8 w
plain_utf8 w h = IsUtf8-from_ascii w (plain_ascii w h)

pub plain_nul : (w : Bytes) → are_plain w ≡ true → has_nul w ≡ false
plain_nul [] h = refl
plain_nul (b ∷ w) h =
    let q = and_parts (is_plain b) (are_plain w) h in
    let p = and_parts (nat_lt 0 b) (nat_lt b 128) q.0 in
    let some : (b == 0) ≡ false = grind (arith, nat_tests) in
    ap (λ t. t || has_nul w) some ∙ plain_nul w q.1

pub all_more : (p q : ℕ → Bool) → ((b : ℕ) → p b ≡ true → q b ≡ true) → (w : Bytes) → list_all p w ≡ true → list_all q w ≡ true
all_more p q f [] h = refl
all_more p q f (b ∷ w) h = let t = and_parts (p b) (list_all p w) h in ap (λ x. x && list_all q w) (f b t.0) ∙ all_more p q f w t.1

-- ---- digits

pub digit_plain : (base b : ℕ) → base ≤ 36 → is_digit_of base b ≡ true → is_plain b ≡ true
unfolding is_digit_of
digit_plain base b h d = grind (arith, nat_tests)

pub digits_plain : (base : ℕ) (w : Bytes) → base ≤ 36 → are_digits base w ≡ true → are_plain w ≡ true
digits_plain base w h d = all_more (is_digit_of base) is_plain (λ b e. digit_plain base b h e) w d

all_digits : (base : ℕ) (w : Bytes) → are_digits base w ≡ true → AllDigits base w
unfolding is_digit_of
all_digits base [] h = tt
all_digits base (b ∷ w) h = let q = and_parts (is_digit_of base b) (are_digits base w) h in (ltb-true (digit_value b) base q.0, all_digits base w q.1)

no_plus : (base : ℕ) (w : Bytes) → base ≤ 36 → are_digits base w ≡ true → without_leading_plus w ≡ w
unfolding is_digit_of
no_plus base [] h d = refl
no_plus base (b ∷ w) h d =
    let q = and_parts (is_digit_of base b) (are_digits base w) d in
    let no : (b == 43) ≡ false = grind (arith, nat_tests) in
    ap (λ t. Rattle.std.proofs.Common.drop (cond t 1 0) (b ∷ w)) no

no_minus : (base : ℕ) (w : Bytes) → base ≤ 36 → are_digits base w ≡ true → starts_with_minus w ≡ false
unfolding is_digit_of
no_minus base [] h d = refl
no_minus base (b ∷ w) h d =
    let q = and_parts (is_digit_of base b) (are_digits base w) d in
    let no : (b == 45) ≡ false = grind (arith, nat_tests) in no

-- the character that digits number, as std reads them
abbrev pub Parses : ℕ → Bytes → Bytes → Type 0
Parses base w x = IsNumeral base (without_leading_plus x) × (digits_value base (without_leading_plus x) < 2 ^ 32)

pub numbers_ok : (base : ℕ) (w x : Bytes) (code : ℕ) → base ≤ 36 → 0 < length w → are_digits base w ≡ true → x ≡ w → Parses base w x × (code ≡ digits_value base (without_leading_plus x)) → character code ≡ number base w
numbers_ok base w x code h some d e p =
    ap character (p.1 ∙ ap (digits_value base) (ap without_leading_plus e ∙ no_plus base w h d)) ∙ sym (cond-true (are_digits base w) (character (digits_value base w)) None d)

not_past : (n : ℕ) → ¬ (n < 2 ^ 32) → is_character n ≡ false
not_past n h = grind (arith, nat_tests)

pub numbers_err : (base : ℕ) (w x : Bytes) → base ≤ 36 → 0 < length w → are_digits base w ≡ true → x ≡ w → ¬ (Parses base w x) → None ≡ number base w
numbers_err base w x h some d e p =
    let same : without_leading_plus x ≡ w = ap without_leading_plus e ∙ no_plus base w h d in
    let big : ¬ (digits_value base w < 2 ^ 32) = λ small. p (subst (λ z. IsNumeral base z × (digits_value base z < 2 ^ 32)) (sym same) ((some, all_digits base w d), small)) in
    sym (cond-true (are_digits base w) (character (digits_value base w)) None d ∙ cond-false (is_character (digits_value base w)) (Some (digits_value base w)) None (not_past (digits_value base w) big))

-- ---- signed numbers

abbrev pub ParsesInt : ℕ → Bytes → Type 0
ParsesInt base x = IsNumeral base (without_leading_sign x) × FitsSigned w64 (signed_digits_value base x)

no_sign : (base : ℕ) (w : Bytes) → base ≤ 36 → are_digits base w ≡ true → without_leading_sign w ≡ w
no_sign base w h d = cond-false (starts_with_minus w) _ _ (no_minus base w h d) ∙ no_plus base w h d

no_signed : (base : ℕ) (w : Bytes) → base ≤ 36 → are_digits base w ≡ true → signed_digits_value base w ≡ pos (digits_value base w)
no_signed base w h d = cond-false (starts_with_minus w) _ _ (no_minus base w h d) ∙ ap (λ x. pos (digits_value base x)) (no_sign base w h d)

fits_small : (n : ℕ) → FitsSigned w64 (pos n) → nat_le n 9223372036854775807 ≡ true
fits_small n h = le-leb n 9223372036854775807 (omega (arith, h.sfits))

small_fits : (n : ℕ) → nat_le n 9223372036854775807 ≡ true → FitsSigned w64 (pos n)
small_fits n h = record { sfits = (let q = leb-true n 9223372036854775807 h in omega (arith, q)) }

pub ints_ok : (base : ℕ) (w x : Bytes) (i : ℤ) → base ≤ 36 → are_digits base w ≡ true → x ≡ w → ParsesInt base x × (i ≡ signed_digits_value base x) → (i ≡ pos (digits_value base w)) × (nat_le (digits_value base w) 9223372036854775807 ≡ true)
ints_ok base w x i h d e p =
    let v : signed_digits_value base x ≡ pos (digits_value base w) = ap (signed_digits_value base) e ∙ no_signed base w h d in
    (p.1 ∙ v, fits_small (digits_value base w) (subst (FitsSigned w64) v p.0.1))

pub ints_err : (base : ℕ) (w x : Bytes) → base ≤ 36 → 0 < length w → are_digits base w ≡ true → x ≡ w → ¬ (ParsesInt base x) → nat_le (digits_value base w) 9223372036854775807 ≡ false
ints_err base w x h some d e p = go (nat_le (digits_value base w) 9223372036854775807) refl
  where
    v : signed_digits_value base x ≡ pos (digits_value base w)
    v = ap (signed_digits_value base) e ∙ no_signed base w h d

    same : without_leading_sign x ≡ w
    same = ap without_leading_sign e ∙ no_sign base w h d

    go : (t : Bool) → nat_le (digits_value base w) 9223372036854775807 ≡ t → nat_le (digits_value base w) 9223372036854775807 ≡ false
    go false q = q
    go true q = absurd (p (subst (IsNumeral base) (sym same) (some, all_digits base w d), subst (FitsSigned w64) (sym v) (small_fits (digits_value base w) q)))

-- a front of a class of plain bytes
pub front_plain : (p : ℕ → Bool) → ((b : ℕ) → p b ≡ true → is_plain b ≡ true) → (z : Bytes) → are_plain (take (prefix_len p z) z) ≡ true
front_plain p f z =
    let t = front_of p z in
    ap are_plain (cut z t.0 t.1 (prefix_len p z) t.2 t.3) ∙ all_more p is_plain f t.0 t.4

pub front_digits : (base : ℕ) (z : Bytes) → are_digits base (take (prefix_len (is_digit_of base) z) z) ≡ true
front_digits base z =
    let t = front_of (is_digit_of base) z in
    ap (are_digits base) (cut z t.0 t.1 (prefix_len (is_digit_of base) z) t.2 t.3) ∙ t.4
