-- The classes of bytes.
use Rattle.std.specs.Prelude.{ℕ, Bool, true, false, ◌||◌, ◌==◌, List, [], ◌∷◌}
use Rattle.std.specs.Char.{is_digit, is_ascii_alphabetic, is_ascii_alphanumeric}
use Rattle.std.specs.List.{list_all}

abbrev pub Bytes : Type 0
Bytes = List ℕ

-- blank, tab, carriage return, newline
abbrev pub is_blank : ℕ → Bool
is_blank b = b == 32 || b == 9 || b == 13 || b == 10

unfoldable pub is_letter : ℕ → Bool
is_letter b = is_ascii_alphabetic b

-- a letter, a digit or `_`
unfoldable pub is_word_byte : ℕ → Bool
is_word_byte b = is_ascii_alphanumeric b || b == 95

-- a digit of a base
unfoldable pub is_digit_of : ℕ → ℕ → Bool
is_digit_of base b = is_digit b base

abbrev pub are_digits : ℕ → Bytes → Bool
are_digits base w = list_all (is_digit_of base) w

-- one at least
abbrev pub some_digits : ℕ → Bytes → Bool
some_digits base [] = false
some_digits base (b ∷ w) = are_digits base (b ∷ w)

-- the first byte, and 0 where there is none
abbrev pub first : Bytes → ℕ
first [] = 0
first (b ∷ z) = b

abbrev pub is_end : Bytes → Bool
is_end [] = true
is_end (b ∷ z) = false
