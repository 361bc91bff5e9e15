-- Numbers within bounds.
use Rattle.std.proofs.Common.{◌≡◌, ◌<◌, ◌^◌, ℕ, Bool, true, false, nat_lt, nat_le, List, length, None, Result, Ok, Err, refl, arith}
use Rattle.std.proofs.lemmas.Bool.Decides.{nat_tests}
use Rattle.std.proofs.lemmas.Str.Parse.{numerals_by_value, tells_all_ascii_digits, parse_digits}
use Rattle.std.specs.Result.{result_ok}
use Rattle.std.specs.Str.{all_ascii_digits}
use Rattle.std.specs.Str.Parse.{ParsesUnsigned, digits_value}
use Rattle.wdl_words.specs.Words.{number_within}

-- digits that do not fit 32 bits, or none, are no number below a bound of 32 bits
pub not_within : {E : Type 0} (low high : ℕ) (text : List ℕ) (r : Result ℕ E) → result_ok r ≡ None → high < 2 ^ 32
    → all_ascii_digits text ≡ true → ParsesUnsigned 32 10 text r → number_within low high text ≡ None
not_within low high text (Ok n) none small digits parsed = cc
not_within low high text (Err e) none small digits parsed =
    let missed = parse_digits (numerals_by_value _ tells_all_ascii_digits) 32 text (Err e) parsed digits in
    go (nat_lt 0 (length text)) refl (nat_le (digits_value 10 text) high) refl missed
  where
    go : (a : Bool) → nat_lt 0 (length text) ≡ a → (b : Bool) → nat_le (digits_value 10 text) high ≡ b
        → ((0 < length text) × (digits_value 10 text < 2 ^ 32) → ⊥) → number_within low high text ≡ None
    go false x b y missed = rw x refl
    go true x false y missed = rw (x, digits, y) (grind (arith, nat_tests))
    go true x true y missed = absurd (missed (grind (arith, nat_tests), grind (arith, nat_tests)))
