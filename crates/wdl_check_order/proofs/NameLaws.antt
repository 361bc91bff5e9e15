-- The names of an expression, form by form.
use Rattle.std.proofs.Common.{◌≡◌, ℤ, List, [], ◌∷◌, ◌++◌, refl, ap, sym, ◌∙◌, append_assoc, append-nil}
use Rattle.wdl_base.specs.declared.span.Span.{Span}
use Rattle.wdl_ast.specs.declared.expr.BinaryOperator.{BinaryOperator}
use Rattle.wdl_ast.specs.declared.expr.UnaryOperator.{UnaryOperator}
use Rattle.wdl_ast.specs.declared.expr.Expr.{Expr, fold-roll-Expr}
use Rattle.wdl_ast.specs.declared.expr.Expr.TheOpen as layer
use Rattle.wdl_ast.specs.declared.expr.Expr.TheVariants as form
use Rattle.wdl_ast.specs.declared.expr.Expr.TheShapes.{former-Expr-Str-0, former-Expr-Call-2, former-Expr-Map-1, former-Expr-Struct-2}
use Rattle.wdl_ast.specs.declared.expr.MapEntry.{MapEntry}
use Rattle.wdl_ast.specs.declared.expr.MemberEntry.{MemberEntry}
use Rattle.wdl_ast.specs.declared.leaf.Ident.{Ident}
use Rattle.wdl_ast.specs.declared.leaf.ListItem.{ListItem}
use Rattle.wdl_ast.specs.declared.string.StringPart.{StringPart}
use Rattle.wdl_ast.specs.declared.string.StringPart.TheVariants as part
use Rattle.wdl_ast.specs.declared.string.StringTree.{StringTree}
use Rattle.wdl_ast.specs.declared.token.Quote.{Quote}
use Rattle.wdl_check_order.specs.Names.{Words, entry_names, item_names, member_names, names_of, names_step, part_names, same}

-- ---- the names of the parts of a list, taken before or after

string_parts : (q : Quote) (o c : Span) (ps : List (StringPart Expr)) → part_names same ((former-Expr-Str-0).map Expr Words names_of (record { quote = q; opening = o; parts = ps; closing = c })).parts ≡ part_names names_of ps
string_parts q o c [] = refl
string_parts q o c (part.Chars k ∷ ps) = string_parts q o c ps
string_parts q o c (part.Placeholder h ∷ ps) = ap (λ z. names_of h.expr ++ z) (string_parts q o c ps)

items : (is : List (ListItem Expr)) → item_names same ((former-Expr-Call-2).map Expr Words names_of is) ≡ item_names names_of is
items [] = refl
items (i ∷ is) = ap (λ z. names_of i.item ++ z) (items is)

entries : (es : List (ListItem (MapEntry Expr))) → entry_names same ((former-Expr-Map-1).map Expr Words names_of es) ≡ entry_names names_of es
entries [] = refl
entries (x ∷ es) = ap (λ z. names_of x.item.key ++ (names_of x.item.value ++ z)) (entries es)

members : (ms : List (ListItem (MemberEntry Expr))) → member_names same ((former-Expr-Struct-2).map Expr Words names_of ms) ≡ member_names names_of ms
members [] = refl
members (x ∷ ms) = ap (λ z. names_of x.item.value ++ z) (members ms)

-- ---- form by form

pub names_if : (i : Span) (c : Expr) (t : Span) (a : Expr) (e : Span) (r : Expr) → names_of (form.If i c t a e r) ≡ names_of c ++ (names_of a ++ names_of r)
unfolding names_of
names_if i c t a e r = ap names_of (sym (form.rolls-If i c t a e r)) ∙ fold-roll-Expr Words names_step (layer.If i c t a e r)

pub names_binary : (l : Expr) (o : BinaryOperator) (s : Span) (r : Expr) → names_of (form.Binary l o s r) ≡ names_of l ++ names_of r
unfolding names_of
names_binary l o s r = ap names_of (sym (form.rolls-Binary l o s r)) ∙ fold-roll-Expr Words names_step (layer.Binary l o s r)

pub names_unary : (o : UnaryOperator) (s : Span) (x : Expr) → names_of (form.Unary o s x) ≡ names_of x
unfolding names_of
names_unary o s x = ap names_of (sym (form.rolls-Unary o s x)) ∙ fold-roll-Expr Words names_step (layer.Unary o s x)

pub names_member : (x : Expr) (d : Span) (n : Ident) → names_of (form.Member x d n) ≡ names_of x
unfolding names_of
names_member x d n = ap names_of (sym (form.rolls-Member x d n)) ∙ fold-roll-Expr Words names_step (layer.Member x d n)

pub names_index : (x : Expr) (o : Span) (i : Expr) (c : Span) → names_of (form.Index x o i c) ≡ names_of x ++ names_of i
unfolding names_of
names_index x o i c = ap names_of (sym (form.rolls-Index x o i c)) ∙ fold-roll-Expr Words names_step (layer.Index x o i c)

pub names_true : (s : Span) → names_of (form.True s) ≡ []
unfolding names_of
names_true s = ap names_of (sym (form.rolls-True s)) ∙ fold-roll-Expr Words names_step (layer.True s)

pub names_false : (s : Span) → names_of (form.False s) ≡ []
unfolding names_of
names_false s = ap names_of (sym (form.rolls-False s)) ∙ fold-roll-Expr Words names_step (layer.False s)

pub names_none : (s : Span) → names_of (form.None s) ≡ []
unfolding names_of
names_none s = ap names_of (sym (form.rolls-None s)) ∙ fold-roll-Expr Words names_step (layer.None s)

pub names_int : (n : ℤ) (s : Span) → names_of (form.Int n s) ≡ []
unfolding names_of
names_int n s = ap names_of (sym (form.rolls-Int n s)) ∙ fold-roll-Expr Words names_step (layer.Int n s)

pub names_str : (s : StringTree Expr) → names_of (form.Str s) ≡ part_names names_of s.parts
unfolding names_of
names_str s = ap names_of (sym (form.rolls-Str s)) ∙ fold-roll-Expr Words names_step (layer.Str s) ∙ string_parts s.quote s.opening s.closing s.parts

pub names_name : (n : Ident) → names_of (form.Name n) ≡ n.name ∷ []
unfolding names_of
names_name n = ap names_of (sym (form.rolls-Name n)) ∙ fold-roll-Expr Words names_step (layer.Name n)

pub names_call : (n : Ident) (o : Span) (is : List (ListItem Expr)) (c : Span) → names_of (form.Call n o is c) ≡ item_names names_of is
unfolding names_of
names_call n o is c = ap names_of (sym (form.rolls-Call n o is c)) ∙ fold-roll-Expr Words names_step (layer.Call n o is c) ∙ items is

pub names_group : (o : Span) (x : Expr) (c : Span) → names_of (form.Group o x c) ≡ names_of x
unfolding names_of
names_group o x c = ap names_of (sym (form.rolls-Group o x c)) ∙ fold-roll-Expr Words names_step (layer.Group o x c)

pub names_pair : (o : Span) (l : Expr) (m : Span) (r : Expr) (c : Span) → names_of (form.Pair o l m r c) ≡ names_of l ++ names_of r
unfolding names_of
names_pair o l m r c = ap names_of (sym (form.rolls-Pair o l m r c)) ∙ fold-roll-Expr Words names_step (layer.Pair o l m r c)

pub names_list : (o : Span) (is : List (ListItem Expr)) (c : Span) → names_of (form.List o is c) ≡ item_names names_of is
unfolding names_of
names_list o is c = ap names_of (sym (form.rolls-List o is c)) ∙ fold-roll-Expr Words names_step (layer.List o is c) ∙ items is

pub names_map : (o : Span) (es : List (ListItem (MapEntry Expr))) (c : Span) → names_of (form.Map o es c) ≡ entry_names names_of es
unfolding names_of
names_map o es c = ap names_of (sym (form.rolls-Map o es c)) ∙ fold-roll-Expr Words names_step (layer.Map o es c) ∙ entries es

pub names_struct : (n : Ident) (o : Span) (ms : List (ListItem (MemberEntry Expr))) (c : Span) → names_of (form.Struct n o ms c) ≡ member_names names_of ms
unfolding names_of
names_struct n o ms c = ap names_of (sym (form.rolls-Struct n o ms c)) ∙ fold-roll-Expr Words names_step (layer.Struct n o ms c) ∙ members ms

pub ruleset equations = (names_if, names_binary, names_unary, names_member, names_index, names_true, names_false, names_none, names_int, names_str, names_name, names_call, names_group, names_pair, names_list, names_map, names_struct, append_assoc, append-nil)
