-- The tokens in strings and commands.
use Rattle.std.specs.Prelude.{◌≡◌, ℕ, Bool, true, false, ◌&&◌, ◌||◌, ◌==◌, if◌then◌else◌, [], ◌∷◌, ◌++◌, Option, Some, None, is_some}
use Rattle.std.specs.Char.{encode_utf8}
use Rattle.wdl_ast.specs.declared.token.Quote.{Quote}
use Rattle.wdl_ast.specs.declared.token.Quote.TheVariants.{Single, Double}
use Rattle.wdl_ast.specs.declared.token.Fence.{Fence}
use Rattle.wdl_ast.specs.declared.token.Fence.TheVariants.{Brace, Angle}
use Rattle.wdl_ast.specs.declared.token.HoleMark.{HoleMark}
use Rattle.wdl_ast.specs.declared.token.HoleMark.TheVariants.{Tilde, Dollar}
use Rattle.wdl_ast.specs.declared.token.Kind.{Kind}
use Rattle.wdl_ast.specs.declared.token.Kind.TheVariants as kind
use Rattle.wdl_ast.specs.Spelled.Classes.{Bytes, first}
use Rattle.wdl_ast.specs.Spelled.Escapes.{IsEscape}

-- inside a string of a quote, or a command of a fence
pub data Inside : Type 0 where
  string : Quote → Inside
  command : Fence → Inside

abbrev pub is_string : Inside → Bool
is_string (string q) = true
is_string (command f) = false

-- what closes it
abbrev pub closer : Inside → Bytes
closer (string Single) = 39 ∷ []
closer (string Double) = 34 ∷ []
closer (command Brace) = 125 ∷ []
closer (command Angle) = 62 ∷ 62 ∷ 62 ∷ []

abbrev pub closing : Inside → Kind
closing (string q) = kind.StrClose
closing (command f) = kind.CommandClose

abbrev pub begins : Bytes → Bytes → Bool
begins [] z = true
begins (b ∷ w) [] = false
begins (b ∷ w) (c ∷ z) = b == c && begins w z

-- `~{` opens a placeholder, and `${` does but in `command <<< >>>`
abbrev pub takes_dollar : Inside → Bool
takes_dollar (command Angle) = false
takes_dollar _ = true

abbrev pub hole_at : Inside → ℕ → ℕ → Option HoleMark
hole_at i b c = if c == 123 then (if b == 126 then Some Tilde else (if b == 36 && takes_dollar i then Some Dollar else None)) else None

abbrev pub hole_byte : HoleMark → ℕ
hole_byte Tilde = 126
hole_byte Dollar = 36

-- where characters stop: at what closes, at a placeholder, at NUL, and in a string at a newline
abbrev pub stops : Inside → Bytes → Bool
stops i [] = true
stops i (b ∷ z) = begins (closer i) (b ∷ z) || is_some (hole_at i b (first z)) || b == 0 || (is_string i && b == 10)

-- a backslash is an escape in a string only
abbrev pub is_backslash : Inside → ℕ → Bool
is_backslash i b = b == 92 && is_string i

-- w is written for the characters out, up to where the rest ends them
pub data AreChars (Ends : Bytes → Type 0) (i : Inside) : Bytes → Bytes → Bytes → Type 0 where
  over : (rest : Bytes) → Ends rest → AreChars Ends i [] rest []
  plain : (b : ℕ) (w rest out : Bytes) → stops i (b ∷ (w ++ rest)) ≡ false → is_backslash i b ≡ false → AreChars Ends i w rest out → AreChars Ends i (b ∷ w) rest (b ∷ out)
  escape : (x : Bytes) (c : ℕ) (w rest out : Bytes) → is_string i ≡ true → IsEscape x c → AreChars Ends i w rest out → AreChars Ends i (92 ∷ (x ++ w)) rest (encode_utf8 c ++ out)

abbrev pub Stops : Inside → Bytes → Type 0
Stops i rest = stops i rest ≡ true

-- Characters that are not empty and go up to where they stop, so that no two tokens of characters are neighbours.
pub data IsTextToken (i : Inside) : Bytes → Bytes → Kind → Type 0 where
  close : (rest : Bytes) → IsTextToken i (closer i) rest (closing i)
  hole : (m : HoleMark) (rest : Bytes) → hole_at i (hole_byte m) 123 ≡ Some m → IsTextToken i (hole_byte m ∷ 123 ∷ []) rest (kind.HoleOpen m)
  chars : (b : ℕ) (w rest out : Bytes) → stops i (b ∷ (w ++ rest)) ≡ false → AreChars (Stops i) i (b ∷ w) rest out → IsTextToken i (b ∷ w) rest (kind.Chars out)
