-- Reads a token in a string or a command.
use Rattle.std.specs.Prelude.{ℕ, ◌+◌, ◌-◌, ◌&&◌, ◌==◌, if◌then◌else◌, nat_lt, [], ◌∷◌, ◌++◌, length, Option, Some, None, Result, Ok, Err}
use Rattle.std.specs.Char.{encode_utf8}
use Rattle.wdl_ast.specs.declared.token.HoleMark.{HoleMark}
use Rattle.wdl_ast.specs.declared.token.Kind.TheVariants as kind
use Rattle.wdl_ast.specs.Spelled.Classes.{Bytes, first}
use Rattle.wdl_ast.specs.Spelled.Chars.{Inside, string, command, is_string, closer, closing, begins, hole_at, stops, is_backslash}
use Rattle.wdl_lex.specs.declared.fault.Flaw.{Flaw}
use Rattle.wdl_lex.specs.declared.chars.Inside.{Inside as Place}
use Rattle.wdl_lex.specs.declared.chars.Inside.TheVariants.{Str, Command}
use Rattle.wdl_lex.specs.Reading.Code.{Found, flaw, rest}
use Rattle.wdl_lex.specs.Reading.Escapes.{escape}

abbrev pub inside : Place → Inside
inside (Str q) = string q
inside (Command f) = command f

-- what the characters mean, and their length
abbrev pub Meant : Type 0
Meant = Bytes × ℕ

abbrev pub with_escape : Option (ℕ × ℕ) → ℕ → (ℕ → ℕ → Result Meant Flaw) → Result Meant Flaw
with_escape (Some e) n next = next e.0 e.1
with_escape None n next = Err (flaw 105 n (n + 1))

-- `skip` bytes of an escape are still to be passed; out was read from the n bytes before
abbrev pub chars_from : Inside → ℕ → Bytes → ℕ → Bytes → Result Meant Flaw
chars_from i skip out n [] = Ok (out, n)
chars_from i skip out n (b ∷ z) =
    if nat_lt 0 skip then chars_from i (skip - 1) out (n + 1) z
    else (if stops i (b ∷ z) then Ok (out, n)
    else (if is_backslash i b then with_escape (escape z) n (λ c len. chars_from i len (out ++ encode_utf8 c) (n + 1) z)
    else chars_from i 0 (out ++ b ∷ []) (n + 1) z))

unfoldable pub chars : Inside → Bytes → Result Meant Flaw
chars i z = chars_from i 0 [] 0 z

unfoldable pub as_chars : Result Meant Flaw → Result Found Flaw
as_chars (Ok m) = Ok (kind.Chars m.0, m.1)
as_chars (Err f) = Err f

abbrev pub text_behind_hole : Option HoleMark → Inside → Bytes → Result Found Flaw
text_behind_hole (Some m) i z = Ok (kind.HoleOpen m, 2)
text_behind_hole None i z =
    if first z == 0 then Err (flaw 102 0 1)
    else (if is_string i && first z == 10 then Err (flaw 103 0 1) else as_chars (chars i z))

unfoldable pub text_token : Inside → Bytes → Result Found Flaw
text_token i z =
    if begins (closer i) z then Ok (closing i, length (closer i))
    else text_behind_hole (hole_at i (first z) (first (rest z))) i z
