-- The equations of `words`, `type_words` and `meta_words`.
use Rattle.std.proofs.Common.{◌≡◌, ℤ, List, [], ◌∷◌, ◌++◌, Option, refl, ap, sym, ◌∙◌, codes, append_assoc}
use Rattle.std.proofs.lemmas.List.{append-nil}
use Rattle.wdl_base.specs.declared.span.Span.{Span}
use Rattle.wdl_ast.specs.declared.token.Mark.TheVariants as mark
use Rattle.wdl_ast.specs.declared.token.Kind.TheVariants as kind
use Rattle.wdl_ast.specs.declared.token.Quote.{Quote}
use Rattle.wdl_ast.specs.declared.leaf.Ident.{Ident}
use Rattle.wdl_ast.specs.declared.leaf.ListItem.{ListItem}
use Rattle.wdl_ast.specs.declared.leaf.Attribute.{Attribute}
use Rattle.wdl_ast.specs.declared.leaf.PlainString.{PlainString}
use Rattle.wdl_ast.specs.declared.string.StringTree.{StringTree}
use Rattle.wdl_ast.specs.declared.string.StringPart.{StringPart}
use Rattle.wdl_ast.specs.declared.string.StringPart.TheVariants as part
use Rattle.wdl_ast.specs.declared.expr.BinaryOperator.{BinaryOperator}
use Rattle.wdl_ast.specs.declared.expr.UnaryOperator.{UnaryOperator}
use Rattle.wdl_ast.specs.declared.expr.MapEntry.{MapEntry}
use Rattle.wdl_ast.specs.declared.expr.MemberEntry.{MemberEntry}
use Rattle.wdl_ast.specs.declared.expr.Expr.{Expr, fold-roll-Expr}
use Rattle.wdl_ast.specs.declared.expr.Expr.TheOpen as layer
use Rattle.wdl_ast.specs.declared.expr.Expr.TheVariants as e
use Rattle.wdl_ast.specs.declared.expr.Expr.TheShapes.{former-Expr-Str-0, former-Expr-Call-2, former-Expr-Map-1, former-Expr-Struct-2}
use Rattle.wdl_ast.specs.declared.type_tree.BaseType.{BaseType}
use Rattle.wdl_ast.specs.declared.type_tree.BaseType.TheVariants as base
use Rattle.wdl_ast.specs.declared.type_tree.TypeTree.{TypeTree, roll-TypeTree, out-TypeTree, roll-out-TypeTree, fold-roll-TypeTree}
use Rattle.wdl_ast.specs.declared.meta.Number.{Number}
use Rattle.wdl_ast.specs.declared.meta.MetaValue.{MetaValue, fold-roll-MetaValue}
use Rattle.wdl_ast.specs.declared.meta.MetaValue.TheOpen as meta
use Rattle.wdl_ast.specs.declared.meta.MetaValue.TheVariants as m
use Rattle.wdl_ast.specs.declared.meta.MetaValue.TheShapes.{former-MetaValue-Object-1, former-MetaValue-List-1}
use Rattle.wdl_ast.specs.Words.{Words, at, marked, mark_words, keyword, ident, word, chars, comma, plain_words, items_words, attributes_words, entry_words, member_words, parts_words, placeholder_words, string_words, binary_mark, unary_mark, itself, expr_step, words, base_words, questions_words, type_step, type_words, number_words, meta_step, meta_words}

-- ---- the words of the parts of a list, taken before or after

string_parts : (q : Quote) (o c : Span) (ps : List (StringPart Expr)) → parts_words itself ((former-Expr-Str-0).map _ _ words (record { quote = q; opening = o; parts = ps; closing = c })).parts ≡ parts_words words ps
string_parts q o c [] = refl
string_parts q o c (part.Chars k ∷ ps) = ap (λ z. chars k ∷ z) (string_parts q o c ps)
string_parts q o c (part.Placeholder h ∷ ps) = ap (λ z. placeholder_words words h ++ z) (string_parts q o c ps)

items : (is : List (ListItem Expr)) → items_words itself ((former-Expr-Call-2).map _ _ words is) ≡ items_words words is
items [] = refl
items (i ∷ is) = ap (λ z. (words i.item ++ comma i.comma) ++ z) (items is)

entries : (es : List (ListItem (MapEntry Expr))) → items_words (entry_words itself) ((former-Expr-Map-1).map _ _ words es) ≡ items_words (entry_words words) es
entries [] = refl
entries (x ∷ es) = ap (λ z. (entry_words words x.item ++ comma x.comma) ++ z) (entries es)

members : (ms : List (ListItem (MemberEntry Expr))) → items_words (member_words itself) ((former-Expr-Struct-2).map _ _ words ms) ≡ items_words (member_words words) ms
members [] = refl
members (x ∷ ms) = ap (λ z. (member_words words x.item ++ comma x.comma) ++ z) (members ms)

meta_items : (is : List (ListItem MetaValue)) → items_words itself ((former-MetaValue-List-1).map _ _ meta_words is) ≡ items_words meta_words is
meta_items [] = refl
meta_items (i ∷ is) = ap (λ z. (meta_words i.item ++ comma i.comma) ++ z) (meta_items is)

attributes : (xs : List (Attribute MetaValue)) → attributes_words itself ((former-MetaValue-Object-1).map _ _ meta_words xs) ≡ attributes_words meta_words xs
attributes [] = refl
attributes (x ∷ xs) = ap (λ z. word x.key ∷ marked mark.Colon x.colon ∷ ((meta_words x.value ++ comma x.comma) ++ z)) (attributes xs)

-- ---- expressions

pub words_if : (i : Span) (c : Expr) (t : Span) (a : Expr) (s : Span) (r : Expr) → words (e.If i c t a s r) ≡ keyword (codes "if") i ∷ (words c ++ keyword (codes "then") t ∷ (words a ++ keyword (codes "else") s ∷ words r))
unfolding words
words_if i c t a s r = ap words (sym (e.rolls-If i c t a s r)) ∙ fold-roll-Expr Words expr_step (layer.If i c t a s r)

pub words_binary : (l : Expr) (o : BinaryOperator) (s : Span) (r : Expr) → words (e.Binary l o s r) ≡ words l ++ marked (binary_mark o) s ∷ words r
unfolding words
words_binary l o s r = ap words (sym (e.rolls-Binary l o s r)) ∙ fold-roll-Expr Words expr_step (layer.Binary l o s r)

pub words_unary : (o : UnaryOperator) (s : Span) (x : Expr) → words (e.Unary o s x) ≡ marked (unary_mark o) s ∷ words x
unfolding words
words_unary o s x = ap words (sym (e.rolls-Unary o s x)) ∙ fold-roll-Expr Words expr_step (layer.Unary o s x)

pub words_member : (x : Expr) (dot : Span) (n : Ident) → words (e.Member x dot n) ≡ words x ++ marked mark.Dot dot ∷ ident n ∷ []
unfolding words
words_member x dot n = ap words (sym (e.rolls-Member x dot n)) ∙ fold-roll-Expr Words expr_step (layer.Member x dot n)

pub words_index : (x : Expr) (o : Span) (i : Expr) (c : Span) → words (e.Index x o i c) ≡ words x ++ marked mark.OpenBracket o ∷ (words i ++ marked mark.CloseBracket c ∷ [])
unfolding words
words_index x o i c = ap words (sym (e.rolls-Index x o i c)) ∙ fold-roll-Expr Words expr_step (layer.Index x o i c)

pub words_true : (s : Span) → words (e.True s) ≡ keyword (codes "true") s ∷ []
unfolding words
words_true s = ap words (sym (e.rolls-True s)) ∙ fold-roll-Expr Words expr_step (layer.True s)

pub words_false : (s : Span) → words (e.False s) ≡ keyword (codes "false") s ∷ []
unfolding words
words_false s = ap words (sym (e.rolls-False s)) ∙ fold-roll-Expr Words expr_step (layer.False s)

pub words_none : (s : Span) → words (e.None s) ≡ keyword (codes "None") s ∷ []
unfolding words
words_none s = ap words (sym (e.rolls-None s)) ∙ fold-roll-Expr Words expr_step (layer.None s)

pub words_int : (n : ℤ) (s : Span) → words (e.Int n s) ≡ at (kind.Int n) s ∷ []
unfolding words
words_int n s = ap words (sym (e.rolls-Int n s)) ∙ fold-roll-Expr Words expr_step (layer.Int n s)

pub words_str : (s : StringTree Expr) → words (e.Str s) ≡ string_words words s
unfolding words
words_str s = ap words (sym (e.rolls-Str s)) ∙ fold-roll-Expr Words expr_step (layer.Str s) ∙ ap (λ z. at (kind.StrOpen s.quote) s.opening ∷ (z ++ at kind.StrClose s.closing ∷ [])) (string_parts s.quote s.opening s.closing s.parts)

pub words_name : (n : Ident) → words (e.Name n) ≡ ident n ∷ []
unfolding words
words_name n = ap words (sym (e.rolls-Name n)) ∙ fold-roll-Expr Words expr_step (layer.Name n)

pub words_call : (n : Ident) (o : Span) (is : List (ListItem Expr)) (c : Span) → words (e.Call n o is c) ≡ ident n ∷ marked mark.OpenParen o ∷ (items_words words is ++ marked mark.CloseParen c ∷ [])
unfolding words
words_call n o is c = ap words (sym (e.rolls-Call n o is c)) ∙ fold-roll-Expr Words expr_step (layer.Call n o is c) ∙ ap (λ z. ident n ∷ marked mark.OpenParen o ∷ (z ++ marked mark.CloseParen c ∷ [])) (items is)

pub words_group : (o : Span) (x : Expr) (c : Span) → words (e.Group o x c) ≡ marked mark.OpenParen o ∷ (words x ++ marked mark.CloseParen c ∷ [])
unfolding words
words_group o x c = ap words (sym (e.rolls-Group o x c)) ∙ fold-roll-Expr Words expr_step (layer.Group o x c)

pub words_pair : (o : Span) (l : Expr) (k : Span) (r : Expr) (c : Span) → words (e.Pair o l k r c) ≡ marked mark.OpenParen o ∷ (words l ++ marked mark.Comma k ∷ (words r ++ marked mark.CloseParen c ∷ []))
unfolding words
words_pair o l k r c = ap words (sym (e.rolls-Pair o l k r c)) ∙ fold-roll-Expr Words expr_step (layer.Pair o l k r c)

pub words_list : (o : Span) (is : List (ListItem Expr)) (c : Span) → words (e.List o is c) ≡ marked mark.OpenBracket o ∷ (items_words words is ++ marked mark.CloseBracket c ∷ [])
unfolding words
words_list o is c = ap words (sym (e.rolls-List o is c)) ∙ fold-roll-Expr Words expr_step (layer.List o is c) ∙ ap (λ z. marked mark.OpenBracket o ∷ (z ++ marked mark.CloseBracket c ∷ [])) (items is)

pub words_map : (o : Span) (es : List (ListItem (MapEntry Expr))) (c : Span) → words (e.Map o es c) ≡ marked mark.OpenBrace o ∷ (items_words (entry_words words) es ++ marked mark.CloseBrace c ∷ [])
unfolding words
words_map o es c = ap words (sym (e.rolls-Map o es c)) ∙ fold-roll-Expr Words expr_step (layer.Map o es c) ∙ ap (λ z. marked mark.OpenBrace o ∷ (z ++ marked mark.CloseBrace c ∷ [])) (entries es)

pub words_struct : (n : Ident) (o : Span) (ms : List (ListItem (MemberEntry Expr))) (c : Span) → words (e.Struct n o ms c) ≡ ident n ∷ marked mark.OpenBrace o ∷ (items_words (member_words words) ms ++ marked mark.CloseBrace c ∷ [])
unfolding words
words_struct n o ms c = ap words (sym (e.rolls-Struct n o ms c)) ∙ fold-roll-Expr Words expr_step (layer.Struct n o ms c) ∙ ap (λ z. ident n ∷ marked mark.OpenBrace o ∷ (z ++ marked mark.CloseBrace c ∷ [])) (members ms)

pub ruleset equations = (words_if, words_binary, words_unary, words_member, words_index, words_true, words_false, words_none, words_int, words_str, words_name, words_call, words_group, words_pair, words_list, words_map, words_struct, append_assoc, append-nil)

-- ---- types

pub words_type : (b : BaseType TypeTree) (qs : List Span) → type_words (roll-TypeTree (record { base = b; questions = qs })) ≡ base_words type_words b ++ questions_words qs
unfolding type_words
words_type (base.Boolean s) qs = fold-roll-TypeTree Words type_step (record { base = base.Boolean s; questions = qs })
words_type (base.Int s) qs = fold-roll-TypeTree Words type_step (record { base = base.Int s; questions = qs })
words_type (base.Str s) qs = fold-roll-TypeTree Words type_step (record { base = base.Str s; questions = qs })
words_type (base.File s) qs = fold-roll-TypeTree Words type_step (record { base = base.File s; questions = qs })
words_type (base.Struct n) qs = fold-roll-TypeTree Words type_step (record { base = base.Struct n; questions = qs })
words_type (base.Array w o t c p) qs = fold-roll-TypeTree Words type_step (record { base = base.Array w o t c p; questions = qs })
words_type (base.Map w o k c v d) qs = fold-roll-TypeTree Words type_step (record { base = base.Map w o k c v d; questions = qs })
words_type (base.Pair w o l c r d) qs = fold-roll-TypeTree Words type_step (record { base = base.Pair w o l c r d; questions = qs })

pub type_words_is : (t : TypeTree) → type_words t ≡ base_words type_words (out-TypeTree t).base ++ questions_words (out-TypeTree t).questions
type_words_is t = ap type_words (sym (roll-out-TypeTree t)) ∙ words_type (out-TypeTree t).base (out-TypeTree t).questions

pub ruleset type_equations = (type_words_is, append_assoc, append-nil)

-- ---- meta values

pub meta_null : (s : Span) → meta_words (m.Null s) ≡ keyword (codes "null") s ∷ []
unfolding meta_words
meta_null s = ap meta_words (sym (m.rolls-Null s)) ∙ fold-roll-MetaValue Words meta_step (meta.Null s)

pub meta_true : (s : Span) → meta_words (m.True s) ≡ keyword (codes "true") s ∷ []
unfolding meta_words
meta_true s = ap meta_words (sym (m.rolls-True s)) ∙ fold-roll-MetaValue Words meta_step (meta.True s)

pub meta_false : (s : Span) → meta_words (m.False s) ≡ keyword (codes "false") s ∷ []
unfolding meta_words
meta_false s = ap meta_words (sym (m.rolls-False s)) ∙ fold-roll-MetaValue Words meta_step (meta.False s)

pub meta_number : (k : Option Span) (n : Number) → meta_words (m.Number k n) ≡ mark_words mark.Minus k ++ number_words n
unfolding meta_words
meta_number k n = ap meta_words (sym (m.rolls-Number k n)) ∙ fold-roll-MetaValue Words meta_step (meta.Number k n)

pub meta_str : (s : PlainString) → meta_words (m.Str s) ≡ plain_words s
unfolding meta_words
meta_str s = ap meta_words (sym (m.rolls-Str s)) ∙ fold-roll-MetaValue Words meta_step (meta.Str s)

pub meta_object : (o : Span) (xs : List (Attribute MetaValue)) (c : Span) → meta_words (m.Object o xs c) ≡ marked mark.OpenBrace o ∷ (attributes_words meta_words xs ++ marked mark.CloseBrace c ∷ [])
unfolding meta_words
meta_object o xs c = ap meta_words (sym (m.rolls-Object o xs c)) ∙ fold-roll-MetaValue Words meta_step (meta.Object o xs c) ∙ ap (λ z. marked mark.OpenBrace o ∷ (z ++ marked mark.CloseBrace c ∷ [])) (attributes xs)

pub meta_list : (o : Span) (is : List (ListItem MetaValue)) (c : Span) → meta_words (m.List o is c) ≡ marked mark.OpenBracket o ∷ (items_words meta_words is ++ marked mark.CloseBracket c ∷ [])
unfolding meta_words
meta_list o is c = ap meta_words (sym (m.rolls-List o is c)) ∙ fold-roll-MetaValue Words meta_step (meta.List o is c) ∙ ap (λ z. marked mark.OpenBracket o ∷ (z ++ marked mark.CloseBracket c ∷ [])) (meta_items is)

pub ruleset meta_equations = (meta_null, meta_true, meta_false, meta_number, meta_str, meta_object, meta_list, append_assoc, append-nil)
