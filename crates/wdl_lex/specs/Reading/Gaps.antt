-- Measures the blank space and comments before a token.
use Rattle.std.specs.Prelude.{ℕ, suc, Bool, true, false, ◌==◌, if◌then◌else◌, [], ◌∷◌, Option, Some, None}
use Rattle.wdl_ast.specs.Spelled.Classes.{Bytes, is_blank}
use Rattle.wdl_ast.specs.Spelled.Chars.{Inside}

-- the flag says that a comment is open
abbrev pub gap_len : Bool → Bytes → ℕ
gap_len is_open [] = 0
gap_len true (b ∷ z) = if b == 10 then suc (gap_len false z) else (if b == 0 then 0 else suc (gap_len true z))
gap_len false (b ∷ z) = if is_blank b then suc (gap_len false z) else (if b == 35 then suc (gap_len true z) else 0)

abbrev pub gap_in : Option Inside → Bytes → ℕ
gap_in None z = gap_len false z
gap_in (Some i) z = 0
