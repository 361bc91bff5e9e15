-- The tokens that a leaf, a string, an expression, a type or a meta value stands for: its leaves, in order.
use Rattle.std.specs.Prelude.{ℕ, List, [], ◌∷◌, ◌++◌, Option, Some, None, codes}
use Rattle.wdl_base.specs.declared.span.Span.{Span}
use Rattle.wdl_ast.specs.declared.token.Mark.{Mark}
use Rattle.wdl_ast.specs.declared.token.Mark.TheVariants as mark
use Rattle.wdl_ast.specs.declared.token.Kind.{Kind}
use Rattle.wdl_ast.specs.declared.token.Kind.TheVariants as kind
use Rattle.wdl_ast.specs.declared.token.Token.{Token}
use Rattle.wdl_ast.specs.declared.leaf.Ident.{Ident}
use Rattle.wdl_ast.specs.declared.leaf.Word.{Word}
use Rattle.wdl_ast.specs.declared.leaf.Chars.{Chars}
use Rattle.wdl_ast.specs.declared.leaf.PlainString.{PlainString}
use Rattle.wdl_ast.specs.declared.leaf.ListItem.{ListItem}
use Rattle.wdl_ast.specs.declared.leaf.Attribute.{Attribute}
use Rattle.wdl_ast.specs.declared.string.StringTree.{StringTree}
use Rattle.wdl_ast.specs.declared.string.StringPart.{StringPart}
use Rattle.wdl_ast.specs.declared.string.StringPart.TheVariants as part
use Rattle.wdl_ast.specs.declared.string.Placeholder.{Placeholder}
use Rattle.wdl_ast.specs.declared.string.PlaceholderOption.{PlaceholderOption}
use Rattle.wdl_ast.specs.declared.string.PlaceholderOptions.{PlaceholderOptions}
use Rattle.wdl_ast.specs.declared.string.PlaceholderOptions.TheVariants as options
use Rattle.wdl_ast.specs.declared.expr.BinaryOperator.{BinaryOperator}
use Rattle.wdl_ast.specs.declared.expr.BinaryOperator.TheVariants as binary
use Rattle.wdl_ast.specs.declared.expr.UnaryOperator.{UnaryOperator}
use Rattle.wdl_ast.specs.declared.expr.UnaryOperator.TheVariants as unary
use Rattle.wdl_ast.specs.declared.expr.MapEntry.{MapEntry}
use Rattle.wdl_ast.specs.declared.expr.MemberEntry.{MemberEntry}
use Rattle.wdl_ast.specs.declared.expr.Expr.{Expr, Expr-F, fold-Expr}
use Rattle.wdl_ast.specs.declared.expr.Expr.TheOpen as layer
use Rattle.wdl_ast.specs.declared.type_tree.BaseType.{BaseType}
use Rattle.wdl_ast.specs.declared.type_tree.BaseType.TheVariants as base
use Rattle.wdl_ast.specs.declared.type_tree.TypeTree.{TypeTree, TypeTree-F, fold-TypeTree}
use Rattle.wdl_ast.specs.declared.meta.Number.{Number}
use Rattle.wdl_ast.specs.declared.meta.Number.TheVariants as number
use Rattle.wdl_ast.specs.declared.meta.MetaValue.{MetaValue, MetaValue-F, fold-MetaValue}
use Rattle.wdl_ast.specs.declared.meta.MetaValue.TheOpen as meta

abbrev pub Words : Type 0
Words = List Token

abbrev pub at : Kind → Span → Token
at k s = record { span = s; kind = k }

abbrev pub marked : Mark → Span → Token
marked m = at (kind.Mark m)

-- a word of the language where it stands
abbrev pub keyword : List ℕ → Span → Token
keyword w = at (kind.Word w)

abbrev pub ident : Ident → Token
ident n = at (kind.Word n.name) n.span

abbrev pub word : Word → Token
word w = at (kind.Word w.text) w.span

abbrev pub chars : Chars → Token
chars c = at (kind.Chars c.text) c.span

-- a mark that may be absent
abbrev pub mark_words : Mark → Option Span → Words
mark_words m None = []
mark_words m (Some s) = marked m s ∷ []

abbrev pub comma : Option Span → Words
comma = mark_words mark.Comma

abbrev pub chars_words : Option Chars → Words
chars_words None = []
chars_words (Some c) = chars c ∷ []

abbrev pub plain_words : PlainString → Words
plain_words s = at (kind.StrOpen s.quote) s.opening ∷ (chars_words s.chars ++ at kind.StrClose s.closing ∷ [])

-- ---- lists; `inner` gives the words of an element

abbrev pub items_words : {E : Type 0} → (E → Words) → List (ListItem E) → Words
items_words inner [] = []
items_words inner (i ∷ is) = (inner i.item ++ comma i.comma) ++ items_words inner is

abbrev pub attributes_words : {V : Type 0} → (V → Words) → List (Attribute V) → Words
attributes_words inner [] = []
attributes_words inner (a ∷ as_) = word a.key ∷ marked mark.Colon a.colon ∷ ((inner a.value ++ comma a.comma) ++ attributes_words inner as_)

abbrev pub entry_words : {E : Type 0} → (E → Words) → MapEntry E → Words
entry_words inner e = inner e.key ++ marked mark.Colon e.colon ∷ inner e.value

abbrev pub member_words : {E : Type 0} → (E → Words) → MemberEntry E → Words
member_words inner m = ident m.name ∷ marked mark.Colon m.colon ∷ inner m.value

-- ---- strings

abbrev pub option_words : List ℕ → PlaceholderOption → Words
option_words w o = keyword w o.word ∷ marked mark.Assign o.assign ∷ plain_words o.value

abbrev pub options_words : PlaceholderOptions → Words
options_words options.Plain = []
options_words (options.Sep o) = option_words (codes "sep") o
options_words (options.Default o) = option_words (codes "default") o
options_words (options.TrueFalse o p) = option_words (codes "true") o ++ option_words (codes "false") p
options_words (options.FalseTrue o p) = option_words (codes "false") o ++ option_words (codes "true") p

abbrev pub placeholder_words : {E : Type 0} → (E → Words) → Placeholder E → Words
placeholder_words inner h = at (kind.HoleOpen h.mark) h.opening ∷ (options_words h.options ++ (inner h.expr ++ at kind.HoleClose h.closing ∷ []))

abbrev pub part_words : {E : Type 0} → (E → Words) → StringPart E → Words
part_words inner (part.Chars c) = chars c ∷ []
part_words inner (part.Placeholder h) = placeholder_words inner h

abbrev pub parts_words : {E : Type 0} → (E → Words) → List (StringPart E) → Words
parts_words inner [] = []
parts_words inner (p ∷ ps) = part_words inner p ++ parts_words inner ps

abbrev pub string_words : {E : Type 0} → (E → Words) → StringTree E → Words
string_words inner s = at (kind.StrOpen s.quote) s.opening ∷ (parts_words inner s.parts ++ at kind.StrClose s.closing ∷ [])

-- ---- expressions

abbrev pub binary_mark : BinaryOperator → Mark
binary_mark binary.Or = mark.Or
binary_mark binary.And = mark.And
binary_mark binary.Equal = mark.Equal
binary_mark binary.NotEqual = mark.NotEqual
binary_mark binary.Less = mark.Less
binary_mark binary.LessEqual = mark.LessEqual
binary_mark binary.Greater = mark.Greater
binary_mark binary.GreaterEqual = mark.GreaterEqual
binary_mark binary.Add = mark.Plus
binary_mark binary.Subtract = mark.Minus
binary_mark binary.Multiply = mark.Star
binary_mark binary.Divide = mark.Slash
binary_mark binary.Remainder = mark.Percent

abbrev pub unary_mark : UnaryOperator → Mark
unary_mark unary.Not = mark.Not
unary_mark unary.Negate = mark.Minus
unary_mark unary.Plus = mark.Plus

abbrev pub itself : Words → Words
itself w = w

-- one layer, with the words of each part in its place
abbrev pub expr_step : Expr-F Words → Words
expr_step (layer.If i c t a e r) = keyword (codes "if") i ∷ (c ++ keyword (codes "then") t ∷ (a ++ keyword (codes "else") e ∷ r))
expr_step (layer.Binary l o s r) = l ++ marked (binary_mark o) s ∷ r
expr_step (layer.Unary o s x) = marked (unary_mark o) s ∷ x
expr_step (layer.Member x dot n) = x ++ marked mark.Dot dot ∷ ident n ∷ []
expr_step (layer.Index x o i c) = x ++ marked mark.OpenBracket o ∷ (i ++ marked mark.CloseBracket c ∷ [])
expr_step (layer.True s) = keyword (codes "true") s ∷ []
expr_step (layer.False s) = keyword (codes "false") s ∷ []
expr_step (layer.None s) = keyword (codes "None") s ∷ []
expr_step (layer.Int n s) = at (kind.Int n) s ∷ []
expr_step (layer.Str s) = string_words itself s
expr_step (layer.Name n) = ident n ∷ []
expr_step (layer.Call n o items c) = ident n ∷ marked mark.OpenParen o ∷ (items_words itself items ++ marked mark.CloseParen c ∷ [])
expr_step (layer.Group o x c) = marked mark.OpenParen o ∷ (x ++ marked mark.CloseParen c ∷ [])
expr_step (layer.Pair o l m r c) = marked mark.OpenParen o ∷ (l ++ marked mark.Comma m ∷ (r ++ marked mark.CloseParen c ∷ []))
expr_step (layer.List o items c) = marked mark.OpenBracket o ∷ (items_words itself items ++ marked mark.CloseBracket c ∷ [])
expr_step (layer.Map o entries c) = marked mark.OpenBrace o ∷ (items_words (entry_words itself) entries ++ marked mark.CloseBrace c ∷ [])
expr_step (layer.Struct n o members c) = ident n ∷ marked mark.OpenBrace o ∷ (items_words (member_words itself) members ++ marked mark.CloseBrace c ∷ [])

unfoldable pub words : Expr → Words
words = fold-Expr Words expr_step

-- ---- types

abbrev pub base_words : {T : Type 0} → (T → Words) → BaseType T → Words
base_words inner (base.Boolean s) = keyword (codes "Boolean") s ∷ []
base_words inner (base.Int s) = keyword (codes "Int") s ∷ []
base_words inner (base.Str s) = keyword (codes "String") s ∷ []
base_words inner (base.File s) = keyword (codes "File") s ∷ []
base_words inner (base.Struct n) = ident n ∷ []
base_words inner (base.Array w o t c plus) = keyword (codes "Array") w ∷ marked mark.OpenBracket o ∷ (inner t ++ marked mark.CloseBracket c ∷ mark_words mark.Plus plus)
base_words inner (base.Map w o k m v c) = keyword (codes "Map") w ∷ marked mark.OpenBracket o ∷ (inner k ++ marked mark.Comma m ∷ (inner v ++ marked mark.CloseBracket c ∷ []))
base_words inner (base.Pair w o l m r c) = keyword (codes "Pair") w ∷ marked mark.OpenBracket o ∷ (inner l ++ marked mark.Comma m ∷ (inner r ++ marked mark.CloseBracket c ∷ []))

abbrev pub questions_words : List Span → Words
questions_words [] = []
questions_words (s ∷ ss) = marked mark.Question s ∷ questions_words ss

abbrev pub type_step : TypeTree-F Words → Words
type_step t = base_words itself t.base ++ questions_words t.questions

unfoldable pub type_words : TypeTree → Words
type_words = fold-TypeTree Words type_step

-- ---- meta values

abbrev pub number_words : Number → Words
number_words (number.Int n s) = at (kind.Int n) s ∷ []
number_words (number.Frac w s) = at (kind.Frac w) s ∷ []

abbrev pub meta_step : MetaValue-F Words → Words
meta_step (meta.Null s) = keyword (codes "null") s ∷ []
meta_step (meta.True s) = keyword (codes "true") s ∷ []
meta_step (meta.False s) = keyword (codes "false") s ∷ []
meta_step (meta.Number minus n) = mark_words mark.Minus minus ++ number_words n
meta_step (meta.Str s) = plain_words s
meta_step (meta.Object o attributes c) = marked mark.OpenBrace o ∷ (attributes_words itself attributes ++ marked mark.CloseBrace c ∷ [])
meta_step (meta.List o items c) = marked mark.OpenBracket o ∷ (items_words itself items ++ marked mark.CloseBracket c ∷ [])

unfoldable pub meta_words : MetaValue → Words
meta_words = fold-MetaValue Words meta_step
