-- Measures and reads the number at the front of a text.
use Rattle.std.specs.Prelude.{ℕ, ◌+◌, Bool, false, ◌&&◌, ◌==◌, if◌then◌else◌, [], ◌∷◌, take, drop, pos}
use Rattle.std.specs.List.{prefix_len}
use Rattle.std.specs.Str.Parse.{digits_value}
use Rattle.wdl_ast.specs.declared.token.Kind.{Kind}
use Rattle.wdl_ast.specs.declared.token.Kind.TheVariants as kind
use Rattle.wdl_ast.specs.Spelled.Classes.{Bytes, is_digit_of, first}
use Rattle.wdl_ast.specs.Spelled.Numbers.{is_hex_mark, is_exponent_mark, is_sign}

abbrev pub digits_len : ℕ → Bytes → ℕ
digits_len base z = prefix_len (is_digit_of base) z

-- an exponent's letter with its sign
abbrev pub exponent_mark_len : Bytes → ℕ
exponent_mark_len [] = 0
exponent_mark_len (b ∷ z) = if is_exponent_mark b then (if is_sign (first z) then 2 else 1) else 0

-- both, or nothing where one is missing
abbrev pub joined_len : ℕ → ℕ → ℕ
joined_len m n = if m == 0 then 0 else (if n == 0 then 0 else m + n)

unfoldable pub exponent_len : Bytes → ℕ
exponent_len z = joined_len (exponent_mark_len z) (digits_len 10 (drop (exponent_mark_len z) z))

-- a number with a point, where `whole` digits stand before it and y behind it
abbrev pub pointed_len : ℕ → ℕ → Bytes → ℕ
pointed_len whole part y = if whole + part == 0 then 0 else whole + 1 + part + exponent_len (drop part y)

abbrev pub behind_digits : ℕ → Bytes → ℕ
behind_digits whole [] = 0
behind_digits whole (b ∷ y) = if b == 46 then pointed_len whole (digits_len 10 y) y else joined_len whole (exponent_len (b ∷ y))

-- the length of a number with a point or an exponent, 0 where none stands there
unfoldable pub frac_len : Bytes → ℕ
frac_len z = behind_digits (digits_len 10 z) (drop (digits_len 10 z) z)

abbrev pub is_hex : Bytes → Bool
is_hex [] = false
is_hex (b ∷ []) = false
is_hex (b ∷ x ∷ z) = b == 48 && (is_hex_mark x && is_digit_of 16 (first z))

-- the base of an integer, and how many bytes stand before its digits
abbrev pub base_of : Bytes → ℕ × ℕ
base_of z = if is_hex z then (16, 2) else (if first z == 48 then (8, 0) else (10, 0))

abbrev pub int_from : ℕ × ℕ → Bytes → Kind × ℕ
int_from base z =
    let n = digits_len base.0 (drop base.1 z) in
    (kind.Int (pos (digits_value base.0 (take n (drop base.1 z)))), base.1 + n)

unfoldable pub int_at : Bytes → Kind × ℕ
int_at z = int_from (base_of z) z
