-- The escapes of strings, behind the backslash.
use Rattle.std.specs.Prelude.{◌≡◌, ℕ, Bool, true, not, ◌&&◌, ◌==◌, if◌then◌else◌, [], ◌∷◌, length, Option, Some, None}
use Rattle.std.specs.Str.Parse.{digits_value}
use Rattle.wdl_ast.specs.Spelled.Classes.{Bytes, are_digits}
use lib.Utf8.{scalar}

-- `\\`, `\n`, `\t`, `\'`, `\"`, `\~` and `\$`
abbrev pub simple : ℕ → Option ℕ
simple b =
    if b == 92 then Some 92 else (if b == 110 then Some 10 else (if b == 116 then Some 9
    else (if b == 39 then Some 39 else (if b == 34 then Some 34 else (if b == 126 then Some 126 else (if b == 36 then Some 36 else None))))))

-- how many hexadecimal digits follow `x`, `u` and `U`
abbrev pub hex_digits : ℕ → Option ℕ
hex_digits b = if b == 120 then Some 2 else (if b == 117 then Some 4 else (if b == 85 then Some 8 else None))

-- a Unicode scalar value other than NUL
abbrev pub is_character : ℕ → Bool
is_character c = scalar c && not (c == 0)

-- the character that an escape stands for
pub data IsEscape : Bytes → ℕ → Type 0 where
  short : (b c : ℕ) → simple b ≡ Some c → IsEscape (b ∷ []) c
  octal : (w : Bytes) → length w ≡ 3 → are_digits 8 w ≡ true → is_character (digits_value 8 w) ≡ true → IsEscape w (digits_value 8 w)
  hex : (b : ℕ) (w : Bytes) → hex_digits b ≡ Some (length w) → are_digits 16 w ≡ true → is_character (digits_value 16 w) ≡ true → IsEscape (b ∷ w) (digits_value 16 w)
