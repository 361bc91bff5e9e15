-- How numbers are written.
use Rattle.std.specs.Prelude.{◌≡◌, ℕ, Bool, true, false, ◌||◌, ◌==◌, [], ◌∷◌, ◌++◌}
use Rattle.std.specs.Str.Parse.{digits_value}
use Rattle.wdl_ast.specs.Spelled.Classes.{Bytes, are_digits, some_digits, is_end}

-- `x` or `X`
abbrev pub is_hex_mark : ℕ → Bool
is_hex_mark b = b == 120 || b == 88

-- `e` or `E`
abbrev pub is_exponent_mark : ℕ → Bool
is_exponent_mark b = b == 101 || b == 69

-- `+` or `-`
abbrev pub is_sign : ℕ → Bool
is_sign b = b == 43 || b == 45

-- The number that an integer stands for. A decimal has no leading zero; 0 itself is an octal.
pub data IsInt : Bytes → ℕ → Type 0 where
  decimal : (b : ℕ) (w : Bytes) → (b == 48) ≡ false → are_digits 10 (b ∷ w) ≡ true → IsInt (b ∷ w) (digits_value 10 (b ∷ w))
  octal : (w : Bytes) → are_digits 8 w ≡ true → IsInt (48 ∷ w) (digits_value 8 (48 ∷ w))
  hex : (x : ℕ) (w : Bytes) → is_hex_mark x ≡ true → some_digits 16 w ≡ true → IsInt (48 ∷ x ∷ w) (digits_value 16 w)

pub data IsExponent : Bytes → Type 0 where
  plain : (x : ℕ) (w : Bytes) → is_exponent_mark x ≡ true → some_digits 10 w ≡ true → IsExponent (x ∷ w)
  signed : (x s : ℕ) (w : Bytes) → is_exponent_mark x ≡ true → is_sign s ≡ true → some_digits 10 w ≡ true → IsExponent (x ∷ s ∷ w)

pub data MayBeExponent : Bytes → Type 0 where
  none : MayBeExponent []
  some : (e : Bytes) → IsExponent e → MayBeExponent e

-- Digits with a point among them or at an end, and maybe an exponent; or digits and an exponent.
pub data IsFrac : Bytes → Type 0 where
  pointed : (a b e : Bytes) → are_digits 10 a ≡ true → are_digits 10 b ≡ true → is_end (a ++ b) ≡ false → MayBeExponent e → IsFrac (a ++ 46 ∷ (b ++ e))
  whole : (a e : Bytes) → some_digits 10 a ≡ true → IsExponent e → IsFrac (a ++ e)
