-- How marks are written, and what opens and closes.
use Rattle.std.specs.Prelude.{ℕ, Bool, ◌&&◌, ◌==◌, if◌then◌else◌, List, [], ◌∷◌, Option, Some, None}
use Rattle.wdl_ast.specs.declared.token.Mark.TheVariants as mark
use Rattle.wdl_ast.specs.declared.token.Quote.TheVariants.{Single, Double}
use Rattle.wdl_ast.specs.declared.token.Fence.TheVariants.{Brace, Angle}
use Rattle.wdl_ast.specs.declared.token.Kind.{Kind}
use Rattle.wdl_ast.specs.declared.token.Kind.TheVariants as kind
use Rattle.wdl_ast.specs.Spelled.Classes.{Bytes}

-- the marks of one byte, and the quotes
abbrev pub singles : List (ℕ × Kind)
singles =
    (123, kind.Mark mark.OpenBrace) ∷ (125, kind.Mark mark.CloseBrace) ∷ (91, kind.Mark mark.OpenBracket) ∷ (93, kind.Mark mark.CloseBracket)
    ∷ (40, kind.Mark mark.OpenParen) ∷ (41, kind.Mark mark.CloseParen) ∷ (44, kind.Mark mark.Comma) ∷ (58, kind.Mark mark.Colon)
    ∷ (46, kind.Mark mark.Dot) ∷ (61, kind.Mark mark.Assign) ∷ (63, kind.Mark mark.Question) ∷ (43, kind.Mark mark.Plus)
    ∷ (45, kind.Mark mark.Minus) ∷ (42, kind.Mark mark.Star) ∷ (47, kind.Mark mark.Slash) ∷ (37, kind.Mark mark.Percent)
    ∷ (33, kind.Mark mark.Not) ∷ (60, kind.Mark mark.Less) ∷ (62, kind.Mark mark.Greater) ∷ (39, kind.StrOpen Single) ∷ (34, kind.StrOpen Double) ∷ []

-- the marks of two bytes
abbrev pub doubles : List (ℕ × ℕ × Kind)
doubles =
    (61, 61, kind.Mark mark.Equal) ∷ (33, 61, kind.Mark mark.NotEqual) ∷ (60, 61, kind.Mark mark.LessEqual)
    ∷ (62, 61, kind.Mark mark.GreaterEqual) ∷ (38, 38, kind.Mark mark.And) ∷ (124, 124, kind.Mark mark.Or) ∷ []

abbrev pub single_in : List (ℕ × Kind) → ℕ → Option Kind
single_in [] b = None
single_in (e ∷ es) b = if b == e.0 then Some e.1 else single_in es b

abbrev pub double_in : List (ℕ × ℕ × Kind) → ℕ → ℕ → Option Kind
double_in [] b c = None
double_in (e ∷ es) b c = if b == e.0 && c == e.1 then Some e.2 else double_in es b c

-- Behind the word `command` a `{` or `<<<` opens a command, and a placeholder ends at its own `}`. `awaits` says that this word
-- came last, and `closes` that a placeholder without an open brace is innermost.
unfoldable pub single : Bool → Bool → ℕ → Option Kind
single awaits closes b =
    if b == 123 && awaits then Some (kind.CommandOpen Brace)
    else (if b == 125 && closes then Some kind.HoleClose else single_in singles b)

unfoldable pub double : ℕ → ℕ → Option Kind
double b c = double_in doubles b c

unfoldable pub triple : Bool → ℕ → ℕ → ℕ → Option Kind
triple awaits b c d = if b == 60 && (c == 60 && (d == 60 && awaits)) then Some (kind.CommandOpen Angle) else None

-- what a whole word of bytes is as a mark
abbrev pub mark_of : Bool → Bool → Bytes → Option Kind
mark_of awaits closes [] = None
mark_of awaits closes (b ∷ []) = single awaits closes b
mark_of awaits closes (b ∷ c ∷ []) = double b c
mark_of awaits closes (b ∷ c ∷ d ∷ []) = triple awaits b c d
mark_of awaits closes (b ∷ c ∷ d ∷ e ∷ w) = None
