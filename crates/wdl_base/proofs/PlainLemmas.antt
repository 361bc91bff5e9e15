-- Texts without NUL.
use Rattle.std.proofs.Common.{◌≡◌, ℕ, zero, suc, ◌^◌, ◌<◌, true, false, ◌||◌, ◌==◌, List, [], ◌∷◌, ◌++◌, refl, sym, true≢false, arith}
use Rattle.std.proofs.lemmas.Bool.Decides.{nat_tests}
use Rattle.std.proofs.lemmas.Fmt.{decimal_is_IsNumeral}
use Rattle.std.specs.Char.{is_ascii_alphabetic, is_ascii_alphanumeric}
use Rattle.std.specs.Fmt.{decimal}
use Rattle.std.specs.Str.Parse.{AllDigits}
use Rattle.std.proofs.lemmas.Bool.{or_from, or_parts, and_parts}
use Rattle.wdl_base.specs.Names.{is_word_from, is_word, is_name}
use Rattle.wdl_base.specs.Plain.{has_nul}

-- two texts without NUL, one after the other
pub has_nul-append : (xs ys : List ℕ) → has_nul xs ≡ false → has_nul ys ≡ false → has_nul (xs ++ ys) ≡ false
has_nul-append [] ys h k = k
has_nul-append (x ∷ xs) ys h k =
    let p = or_parts (x == 0) (has_nul xs) h in
    or_from (x == 0) (has_nul (xs ++ ys)) p.0 (has_nul-append xs ys p.1 k)

-- a byte that is no NUL
pub has_nul-one : (b : ℕ) → 0 < b → has_nul (b ∷ []) ≡ false
has_nul-one b h = or_from (b == 0) false (grind (arith, nat_tests)) refl

above_zero : (b : ℕ) → is_ascii_alphanumeric b || b == 95 ≡ true → b == 0 ≡ false
above_zero zero h = absurd (true≢false (sym h))
above_zero (suc b) h = grind (arith, nat_tests)

letter_above_zero : (b : ℕ) → is_ascii_alphabetic b ≡ true → b == 0 ≡ false
letter_above_zero zero h = absurd (true≢false (sym h))
letter_above_zero (suc b) h = grind (arith, nat_tests)

word_from_is_plain : (bs : List ℕ) → is_word_from bs ≡ true → has_nul bs ≡ false
word_from_is_plain [] h = refl
word_from_is_plain (b ∷ bs) h =
    let p = and_parts (is_ascii_alphanumeric b || b == 95) (is_word_from bs) h in
    or_from (b == 0) (has_nul bs) (above_zero b p.0) (word_from_is_plain bs p.1)

pub word_is_plain : (bs : List ℕ) → is_word bs ≡ true → has_nul bs ≡ false
word_is_plain [] h = refl
word_is_plain (b ∷ bs) h =
    let p = and_parts (is_ascii_alphabetic b) (is_word_from bs) h in
    or_from (b == 0) (has_nul bs) (letter_above_zero b p.0) (word_from_is_plain bs p.1)

-- a name holds no NUL
pub name_is_plain : (bs : List ℕ) → is_name bs ≡ true → has_nul bs ≡ false
name_is_plain bs h = word_is_plain bs (and_parts _ _ (and_parts _ _ h).0).1

digits_are_plain : (ds : List ℕ) → AllDigits 10 ds → has_nul ds ≡ false
digits_are_plain [] h = refl
digits_are_plain (d ∷ ds) h = or_from (d == 0) (has_nul ds) (grind (arith, nat_tests)) (digits_are_plain ds h.1)

-- a decimal number holds no NUL
pub decimal_is_plain : (n : ℕ) → n < 2 ^ 64 → has_nul (decimal n) ≡ false
decimal_is_plain n h = digits_are_plain (decimal n) (decimal_is_IsNumeral n h).0.1
