-- Reads an escape behind its backslash.
use Rattle.std.specs.Prelude.{ℕ, ◌+◌, if◌then◌else◌, nat_le, [], ◌∷◌, length, take, Option, Some, None}
use Rattle.std.specs.Str.Parse.{digits_value}
use Rattle.wdl_ast.specs.Spelled.Classes.{Bytes, is_digit_of, are_digits}
use Rattle.wdl_ast.specs.Spelled.Escapes.{simple, hex_digits, is_character}

abbrev pub character : ℕ → Option ℕ
character c = if is_character c then Some c else None

-- the character that digits number
abbrev pub number : ℕ → Bytes → Option ℕ
number base w = if are_digits base w then character (digits_value base w) else None

abbrev pub with_len : Option ℕ → ℕ → Option (ℕ × ℕ)
with_len (Some c) len = Some (c, len)
with_len None len = None

-- the character of n digits at the front, in an escape of len bytes
abbrev pub numbered : ℕ → ℕ → ℕ → Bytes → Option (ℕ × ℕ)
numbered base n len z = if nat_le n (length z) then with_len (number base (take n z)) len else None

abbrev pub hex_escape : Option ℕ → Bytes → Option (ℕ × ℕ)
hex_escape None z = None
hex_escape (Some n) z = numbered 16 n (1 + n) z

abbrev pub long_escape : ℕ → Bytes → Option (ℕ × ℕ)
long_escape b z = if is_digit_of 8 b then numbered 8 3 3 (b ∷ z) else hex_escape (hex_digits b) z

abbrev pub short_escape : Option ℕ → ℕ → Bytes → Option (ℕ × ℕ)
short_escape (Some c) b z = Some (c, 1)
short_escape None b z = long_escape b z

-- a character, and how many bytes its escape has
unfoldable pub escape : Bytes → Option (ℕ × ℕ)
escape [] = None
escape (b ∷ z) = short_escape (simple b) b z
