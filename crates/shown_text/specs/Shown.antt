-- How a text from outside is shown on a terminal.
use Rattle.std.specs.Prelude.{ℕ, List, encode_utf8, encode_utf8_all, if◌then◌else◌}
use Rattle.std.specs.Char.{is_control}
use Rattle.std.specs.Char.Escape.{escape_default}
use Rattle.std.specs.List.{flat_map}
use Rattle.std.specs.Str.{chars}

-- the bytes of a character: a control character is escaped, as `\n` or `\u{1b}`
abbrev pub shown_char : ℕ → List ℕ
shown_char c = if is_control c then encode_utf8_all (escape_default c) else encode_utf8 c

-- the bytes of a text whose control characters are escaped
unfoldable pub shown : List ℕ → List ℕ
shown text = flat_map shown_char (chars text)
