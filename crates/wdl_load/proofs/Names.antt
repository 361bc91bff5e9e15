-- The names of calls, and the lines of their values.
use Rattle.std.proofs.Common.{◌≡◌, ℕ, ◌^◌, ◌<◌, ◌≤◌, true, false, List, [], ◌∷◌, ◌++◌, length, codes, refl, arith, length-append}
use Rattle.std.proofs.lemmas.Bool.Decides.{nat_tests}
use Rattle.std.proofs.lemmas.Fmt.{decimal_is_IsNumeral, length-decimal-le}
use Rattle.std.proofs.lemmas.Str.Parse.{digit_from_value}
use Rattle.std.specs.Fmt.{decimal}
use Rattle.std.specs.Str.Parse.{AllDigits}
use Rattle.wdl_base.specs.Names.{is_among, is_name, is_word_from, reserved_words}
use Rattle.wdl_load.specs.Loads.{call_name}

word_from : (ds : List ℕ) → AllDigits 10 ds → is_word_from ds ≡ true
word_from [] h = refl
word_from (d ∷ ds) h = let k = digit_from_value d h.0 in grind (arith, nat_tests, word_from ds h.1)

-- no reserved word is a `c` with a digit behind it
not_reserved : (d : ℕ) (ds : List ℕ) → 48 ≤ d → d < 58 → is_among (99 ∷ d ∷ ds) reserved_words ≡ false
unfolding reserved_words
not_reserved d ds low high = grind (arith, nat_tests)

numbered : (ds : List ℕ) → length ds ≤ 20 → 0 < length ds → AllDigits 10 ds → is_name (99 ∷ ds) ≡ true
numbered [] short some h = absurd (omega arith)
numbered (d ∷ ds) short some h =
    let k = digit_from_value d h.0 in
    grind (arith, nat_tests, word_from (d ∷ ds) h, not_reserved d ds (omega arith) (omega arith))

short : (n : ℕ) → n < 2 ^ 64 → length (decimal n) ≤ 20
short n h = length-decimal-le 20 n (omega arith) (omega arith) h

pub call_is_name : (n : ℕ) → n < 2 ^ 64 → is_name (call_name n) ≡ true
call_is_name n h = let d = (decimal_is_IsNumeral n h).0 in numbered (decimal n) (short n h) d.0 d.1

-- the line of a number is short
pub line_is_short : (n : ℕ) → n < 2 ^ 64 → length (decimal n ++ codes "\n") ≤ 65536
line_is_short n h = let k = short n h in omega (arith, length-append (decimal n) (codes "\n"))
