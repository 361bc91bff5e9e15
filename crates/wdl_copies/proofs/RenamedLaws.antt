-- A renamed expression, form by form.
use Rattle.std.proofs.Common.{◌≡◌, ℤ, List, [], ◌∷◌, refl, ap, sym, ◌∙◌}
use Rattle.wdl_base.specs.declared.span.Span.{Span}
use Rattle.wdl_ast.specs.declared.expr.BinaryOperator.{BinaryOperator}
use Rattle.wdl_ast.specs.declared.expr.UnaryOperator.{UnaryOperator}
use Rattle.wdl_ast.specs.declared.expr.Expr.{Expr, fold-roll-Expr, roll-Expr}
use Rattle.wdl_ast.specs.declared.expr.Expr.TheOpen as layer
use Rattle.wdl_ast.specs.declared.expr.Expr.TheVariants as form
use Rattle.wdl_ast.specs.declared.expr.Expr.TheShapes.{former-Expr-Str-0, former-Expr-Call-2, former-Expr-Map-1, former-Expr-Struct-2}
use Rattle.wdl_ast.specs.declared.expr.MapEntry.{MapEntry}
use Rattle.wdl_ast.specs.declared.expr.MemberEntry.{MemberEntry}
use Rattle.wdl_ast.specs.declared.leaf.Ident.{Ident}
use Rattle.wdl_ast.specs.declared.leaf.ListItem.{ListItem}
use Rattle.wdl_ast.specs.declared.string.StringPart.{StringPart}
use Rattle.wdl_ast.specs.declared.string.StringPart.TheVariants as part
use Rattle.wdl_ast.specs.declared.string.StringTree.{StringTree}
use Rattle.wdl_ast.specs.declared.token.Quote.{Quote}
use Rattle.wdl_check_rules.specs.Locals.{Naming}
use Rattle.wdl_copies.specs.Expressions.{renamed, renamed_ident, renamed_step}
use Rattle.wdl_copies.specs.Parts.{entries_with, entry_with, hole_with, items_with, member_with, members_with, parts_with}

-- ---- lists of parts

string_parts : (locals : Naming) (q : Quote) (o c : Span) (ps : List (StringPart Expr)) → ((former-Expr-Str-0).map Expr Expr (renamed locals) (record { quote = q; opening = o; parts = ps; closing = c })).parts ≡ parts_with (renamed locals) ps
string_parts locals q o c [] = refl
string_parts locals q o c (part.Chars k ∷ ps) = ap (λ z. part.Chars k ∷ z) (string_parts locals q o c ps)
string_parts locals q o c (part.Placeholder h ∷ ps) = ap (λ z. part.Placeholder (hole_with (renamed locals) h) ∷ z) (string_parts locals q o c ps)

items : (locals : Naming) (is : List (ListItem Expr)) → (former-Expr-Call-2).map Expr Expr (renamed locals) is ≡ items_with (renamed locals) is
items locals [] = refl
items locals (i ∷ is) = ap (λ z. record { item = renamed locals i.item; comma = i.comma } ∷ z) (items locals is)

entries : (locals : Naming) (es : List (ListItem (MapEntry Expr))) → (former-Expr-Map-1).map Expr Expr (renamed locals) es ≡ entries_with (renamed locals) es
entries locals [] = refl
entries locals (x ∷ es) = ap (λ z. record { item = entry_with (renamed locals) x.item; comma = x.comma } ∷ z) (entries locals es)

members : (locals : Naming) (ms : List (ListItem (MemberEntry Expr))) → (former-Expr-Struct-2).map Expr Expr (renamed locals) ms ≡ members_with (renamed locals) ms
members locals [] = refl
members locals (x ∷ ms) = ap (λ z. record { item = member_with (renamed locals) x.item; comma = x.comma } ∷ z) (members locals ms)

abbrev string_with : (locals : Naming) (s : StringTree Expr) → StringTree Expr
string_with locals s = record { quote = s.quote; opening = s.opening; parts = parts_with (renamed locals) s.parts; closing = s.closing }

-- ---- form by form

pub renamed_if : (locals : Naming) (i : Span) (c : Expr) (t : Span) (a : Expr) (e : Span) (r : Expr) → renamed locals (form.If i c t a e r) ≡ form.If i (renamed locals c) t (renamed locals a) e (renamed locals r)
unfolding renamed
renamed_if locals i c t a e r = ap (renamed locals) (sym (form.rolls-If i c t a e r)) ∙ fold-roll-Expr Expr (renamed_step locals) (layer.If i c t a e r) ∙ form.rolls-If i (renamed locals c) t (renamed locals a) e (renamed locals r)

pub renamed_binary : (locals : Naming) (l : Expr) (o : BinaryOperator) (s : Span) (r : Expr) → renamed locals (form.Binary l o s r) ≡ form.Binary (renamed locals l) o s (renamed locals r)
unfolding renamed
renamed_binary locals l o s r = ap (renamed locals) (sym (form.rolls-Binary l o s r)) ∙ fold-roll-Expr Expr (renamed_step locals) (layer.Binary l o s r) ∙ form.rolls-Binary (renamed locals l) o s (renamed locals r)

pub renamed_unary : (locals : Naming) (o : UnaryOperator) (s : Span) (x : Expr) → renamed locals (form.Unary o s x) ≡ form.Unary o s (renamed locals x)
unfolding renamed
renamed_unary locals o s x = ap (renamed locals) (sym (form.rolls-Unary o s x)) ∙ fold-roll-Expr Expr (renamed_step locals) (layer.Unary o s x) ∙ form.rolls-Unary o s (renamed locals x)

pub renamed_member : (locals : Naming) (x : Expr) (d : Span) (n : Ident) → renamed locals (form.Member x d n) ≡ form.Member (renamed locals x) d n
unfolding renamed
renamed_member locals x d n = ap (renamed locals) (sym (form.rolls-Member x d n)) ∙ fold-roll-Expr Expr (renamed_step locals) (layer.Member x d n) ∙ form.rolls-Member (renamed locals x) d n

pub renamed_index : (locals : Naming) (x : Expr) (o : Span) (i : Expr) (c : Span) → renamed locals (form.Index x o i c) ≡ form.Index (renamed locals x) o (renamed locals i) c
unfolding renamed
renamed_index locals x o i c = ap (renamed locals) (sym (form.rolls-Index x o i c)) ∙ fold-roll-Expr Expr (renamed_step locals) (layer.Index x o i c) ∙ form.rolls-Index (renamed locals x) o (renamed locals i) c

pub renamed_true : (locals : Naming) (s : Span) → renamed locals (form.True s) ≡ form.True s
unfolding renamed
renamed_true locals s = ap (renamed locals) (sym (form.rolls-True s)) ∙ fold-roll-Expr Expr (renamed_step locals) (layer.True s) ∙ form.rolls-True s

pub renamed_false : (locals : Naming) (s : Span) → renamed locals (form.False s) ≡ form.False s
unfolding renamed
renamed_false locals s = ap (renamed locals) (sym (form.rolls-False s)) ∙ fold-roll-Expr Expr (renamed_step locals) (layer.False s) ∙ form.rolls-False s

pub renamed_none : (locals : Naming) (s : Span) → renamed locals (form.None s) ≡ form.None s
unfolding renamed
renamed_none locals s = ap (renamed locals) (sym (form.rolls-None s)) ∙ fold-roll-Expr Expr (renamed_step locals) (layer.None s) ∙ form.rolls-None s

pub renamed_int : (locals : Naming) (n : ℤ) (s : Span) → renamed locals (form.Int n s) ≡ form.Int n s
unfolding renamed
renamed_int locals n s = ap (renamed locals) (sym (form.rolls-Int n s)) ∙ fold-roll-Expr Expr (renamed_step locals) (layer.Int n s) ∙ form.rolls-Int n s

pub renamed_str : (locals : Naming) (s : StringTree Expr) → renamed locals (form.Str s) ≡ form.Str (string_with locals s)
unfolding renamed
renamed_str locals s = ap (renamed locals) (sym (form.rolls-Str s)) ∙ fold-roll-Expr Expr (renamed_step locals) (layer.Str s) ∙ ap roll-Expr (ap layer.Str (ap (λ z. record { quote = s.quote; opening = s.opening; parts = z; closing = s.closing }) (string_parts locals s.quote s.opening s.closing s.parts))) ∙ form.rolls-Str (string_with locals s)

pub renamed_name : (locals : Naming) (n : Ident) → renamed locals (form.Name n) ≡ form.Name n
unfolding renamed
renamed_name locals n = ap (renamed locals) (sym (form.rolls-Name n)) ∙ fold-roll-Expr Expr (renamed_step locals) (layer.Name n) ∙ form.rolls-Name n

pub renamed_call : (locals : Naming) (n : Ident) (o : Span) (is : List (ListItem Expr)) (c : Span) → renamed locals (form.Call n o is c) ≡ form.Call n o (items_with (renamed locals) is) c
unfolding renamed
renamed_call locals n o is c = ap (renamed locals) (sym (form.rolls-Call n o is c)) ∙ fold-roll-Expr Expr (renamed_step locals) (layer.Call n o is c) ∙ ap (λ z. roll-Expr (layer.Call n o z c)) (items locals is) ∙ form.rolls-Call n o (items_with (renamed locals) is) c

pub renamed_group : (locals : Naming) (o : Span) (x : Expr) (c : Span) → renamed locals (form.Group o x c) ≡ form.Group o (renamed locals x) c
unfolding renamed
renamed_group locals o x c = ap (renamed locals) (sym (form.rolls-Group o x c)) ∙ fold-roll-Expr Expr (renamed_step locals) (layer.Group o x c) ∙ form.rolls-Group o (renamed locals x) c

pub renamed_pair : (locals : Naming) (o : Span) (l : Expr) (m : Span) (r : Expr) (c : Span) → renamed locals (form.Pair o l m r c) ≡ form.Pair o (renamed locals l) m (renamed locals r) c
unfolding renamed
renamed_pair locals o l m r c = ap (renamed locals) (sym (form.rolls-Pair o l m r c)) ∙ fold-roll-Expr Expr (renamed_step locals) (layer.Pair o l m r c) ∙ form.rolls-Pair o (renamed locals l) m (renamed locals r) c

pub renamed_list : (locals : Naming) (o : Span) (is : List (ListItem Expr)) (c : Span) → renamed locals (form.List o is c) ≡ form.List o (items_with (renamed locals) is) c
unfolding renamed
renamed_list locals o is c = ap (renamed locals) (sym (form.rolls-List o is c)) ∙ fold-roll-Expr Expr (renamed_step locals) (layer.List o is c) ∙ ap (λ z. roll-Expr (layer.List o z c)) (items locals is) ∙ form.rolls-List o (items_with (renamed locals) is) c

pub renamed_map : (locals : Naming) (o : Span) (es : List (ListItem (MapEntry Expr))) (c : Span) → renamed locals (form.Map o es c) ≡ form.Map o (entries_with (renamed locals) es) c
unfolding renamed
renamed_map locals o es c = ap (renamed locals) (sym (form.rolls-Map o es c)) ∙ fold-roll-Expr Expr (renamed_step locals) (layer.Map o es c) ∙ ap (λ z. roll-Expr (layer.Map o z c)) (entries locals es) ∙ form.rolls-Map o (entries_with (renamed locals) es) c

pub renamed_struct : (locals : Naming) (n : Ident) (o : Span) (ms : List (ListItem (MemberEntry Expr))) (c : Span) → renamed locals (form.Struct n o ms c) ≡ form.Struct (renamed_ident locals n) o (members_with (renamed locals) ms) c
unfolding renamed
renamed_struct locals n o ms c = ap (renamed locals) (sym (form.rolls-Struct n o ms c)) ∙ fold-roll-Expr Expr (renamed_step locals) (layer.Struct n o ms c) ∙ ap (λ z. form.Struct (renamed_ident locals n) o z c) (members locals ms)

pub ruleset equations = (renamed_if, renamed_binary, renamed_unary, renamed_member, renamed_index, renamed_true, renamed_false, renamed_none, renamed_int, renamed_str, renamed_name, renamed_call, renamed_group, renamed_pair, renamed_list, renamed_map, renamed_struct)
