-- How tokens are written.
use Rattle.std.specs.Prelude.{ℕ, ◌==◌, ◌||◌, List, [], ◌∷◌, ◌++◌, Option, Some, None, codes, encode_utf8, if◌then◌else◌}
use Rattle.std.specs.Fmt.{signed_decimal}
use Rattle.std.specs.Str.{chars as chars_in}
use Rattle.wdl_ast.specs.declared.token.Fence.{Fence}
use Rattle.wdl_ast.specs.declared.token.Fence.TheVariants as fence
use Rattle.wdl_ast.specs.declared.token.HoleMark.{HoleMark}
use Rattle.wdl_ast.specs.declared.token.HoleMark.TheVariants as hole
use Rattle.wdl_ast.specs.declared.token.Kind.{Kind}
use Rattle.wdl_ast.specs.declared.token.Kind.TheVariants as kind
use Rattle.wdl_ast.specs.declared.token.Mark.{Mark}
use Rattle.wdl_ast.specs.declared.token.Mark.TheVariants as mark
use Rattle.wdl_ast.specs.declared.token.Quote.{Quote}
use Rattle.wdl_ast.specs.declared.token.Quote.TheVariants as quote
use Rattle.wdl_print.specs.declared.inside.Open.{Open}
use Rattle.wdl_print.specs.declared.inside.Open.TheVariants as open_

abbrev pub Bytes : Type 0
Bytes = List ℕ

-- ---- marks

abbrev pub mark_text : Mark → Bytes
mark_text mark.OpenBrace = codes "{"
mark_text mark.CloseBrace = codes "}"
mark_text mark.OpenBracket = codes "["
mark_text mark.CloseBracket = codes "]"
mark_text mark.OpenParen = codes "("
mark_text mark.CloseParen = codes ")"
mark_text mark.Comma = codes ","
mark_text mark.Colon = codes ":"
mark_text mark.Dot = codes "."
mark_text mark.Assign = codes "="
mark_text mark.Question = codes "?"
mark_text mark.Plus = codes "+"
mark_text mark.Minus = codes "-"
mark_text mark.Star = codes "*"
mark_text mark.Slash = codes "/"
mark_text mark.Percent = codes "%"
mark_text mark.Not = codes "!"
mark_text mark.Equal = codes "=="
mark_text mark.NotEqual = codes "!="
mark_text mark.Less = codes "<"
mark_text mark.LessEqual = codes "<="
mark_text mark.Greater = codes ">"
mark_text mark.GreaterEqual = codes ">="
mark_text mark.And = codes "&&"
mark_text mark.Or = codes "||"

abbrev pub quote_byte : Quote → ℕ
quote_byte quote.Single = 39
quote_byte quote.Double = 34

abbrev pub quote_text : Quote → Bytes
quote_text q = quote_byte q ∷ []

abbrev pub opening_text : Fence → Bytes
opening_text fence.Brace = codes "{"
opening_text fence.Angle = codes "<<<"

abbrev pub closing_text : Fence → Bytes
closing_text fence.Brace = codes "}"
closing_text fence.Angle = codes ">>>"

abbrev pub hole_text : HoleMark → Bytes
hole_text hole.Tilde = codes "~{"
hole_text hole.Dollar = codes "${"

-- ---- characters of strings

-- A backslash, `~`, `$` and the string's own quote have a backslash before them; a newline and a tab are `\n` and `\t`.
abbrev pub escape : Quote → ℕ → Bytes
escape q c =
    if c == 92 || c == 126 || c == 36 || c == quote_byte q then 92 ∷ encode_utf8 c
    else (if c == 10 then 92 ∷ 110 ∷ [] else (if c == 9 then 92 ∷ 116 ∷ [] else encode_utf8 c))

abbrev pub escaped : Quote → List ℕ → Bytes
escaped q [] = []
escaped q (c ∷ cs) = escape q c ++ escaped q cs

-- ---- what is open

abbrev pub innermost : List Open → Option Open
innermost [] = None
innermost (o ∷ os) = Some o

abbrev pub closed : List Open → List Open
closed [] = []
closed (o ∷ os) = os

-- behind a token of this kind
abbrev pub after : List Open → Kind → List Open
after os (kind.StrOpen q) = open_.Quoted q ∷ os
after os (kind.CommandOpen f) = open_.Command f ∷ os
after os (kind.HoleOpen m) = open_.Placeholder ∷ os
after os kind.StrClose = closed os
after os kind.CommandClose = closed os
after os kind.HoleClose = closed os
after os k = os

-- ---- tokens

abbrev pub closer : Option Open → Bytes
closer (Some (open_.Quoted q)) = quote_text q
closer (Some (open_.Command f)) = closing_text f
closer o = []

abbrev pub chars_text : Option Open → Bytes → Bytes
chars_text (Some (open_.Quoted q)) s = escaped q (chars_in s)
chars_text o s = s

-- a token, where this is the innermost that is open
abbrev pub spelling : Option Open → Kind → Bytes
spelling o (kind.Word w) = w
spelling o (kind.Int n) = signed_decimal n
spelling o (kind.Frac w) = w
spelling o (kind.Mark m) = mark_text m
spelling o (kind.StrOpen q) = quote_text q
spelling o kind.StrClose = closer o
spelling o (kind.Chars s) = chars_text o s
spelling o (kind.HoleOpen m) = hole_text m
spelling o kind.HoleClose = codes "}"
spelling o (kind.CommandOpen f) = opening_text f
spelling o kind.CommandClose = closer o
