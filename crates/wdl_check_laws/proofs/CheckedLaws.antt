-- The equations of `checked`, form by form.
use Rattle.std.proofs.Common.{◌≡◌, ℕ, ℤ, Bool, true, false, List, [], ◌∷◌, ◌++◌, Option, None, Ok, option_map, refl, ap, sym, ◌∙◌}
use Rattle.wdl_base.specs.declared.span.Span.{Span}
use Rattle.wdl_value.specs.declared.ty.Ty.TheVariants as ty
use Rattle.wdl_value.specs.declared.value.Value.TheVariants as v
use Rattle.wdl_ast.specs.declared.expr.BinaryOperator.{BinaryOperator}
use Rattle.wdl_ast.specs.declared.expr.UnaryOperator.{UnaryOperator}
use Rattle.wdl_ast.specs.declared.expr.MapEntry.{MapEntry}
use Rattle.wdl_ast.specs.declared.expr.MemberEntry.{MemberEntry}
use Rattle.wdl_ast.specs.declared.expr.Expr.{Expr, Expr-F, roll-Expr, map-Expr, fold-roll-Expr, para-roll-Expr}
use Rattle.wdl_ast.specs.declared.expr.Expr.TheOpen as layer
use Rattle.wdl_ast.specs.declared.expr.Expr.TheVariants as form
use Rattle.wdl_ast.specs.declared.expr.Expr.TheShapes.{former-Expr-Str-0, former-Expr-Call-2, former-Expr-Map-1, former-Expr-Struct-2}
use Rattle.wdl_ast.specs.declared.leaf.Ident.{Ident}
use Rattle.wdl_ast.specs.declared.leaf.ListItem.{ListItem}
use Rattle.wdl_ast.specs.declared.string.StringPart.{StringPart}
use Rattle.wdl_ast.specs.declared.string.StringPart.TheVariants as part
use Rattle.wdl_ast.specs.declared.string.StringTree.{StringTree}
use Rattle.wdl_ast.specs.declared.token.Quote.{Quote}
use Rattle.wdl_typed.specs.declared.expr.TExpr.{TExpr}
use Rattle.wdl_typed.specs.declared.expr.TPart.{TPart}
use Rattle.wdl_typed.specs.declared.expr.TPart.TheVariants as tp
use Rattle.wdl_check_rules.specs.Locals.{struct_named}
use Rattle.wdl_check_rules.specs.Scopes.{Scope}
use Rattle.wdl_check_rules.specs.declared.typed.Typed.{Typed}
use Rattle.wdl_check_rules.specs.Checked.{Checked, Checking, checked, checked_step, then_, or_bad, name_checked, items_checked, entries_checked, members_checked, hole_checked, parts_checked, condition_checked, if_checked, binary_checked, unary_checked, index_checked, member_checked, string_checked, call_checked, pair_checked, list_checked, map_checked, struct_checked, literal_checked}
use Rattle.wdl_check_rules.specs.Rules.{literal, int_literal, output_named, plain_text, strung}
use Rattle.wdl_check_rules.specs.Spans.{joined, span_step, span_of, name_of}
use Rattle.wdl_check_rules.specs.Typed.{Part, idents, given, row}

-- ---- where each form stands

pub span_if : (i : Span) (c : Expr) (t : Span) (a : Expr) (w : Span) (r : Expr) → span_of (form.If i c t a w r) ≡ joined i (span_of r)
span_if i c t a w r = ap span_of (sym (form.rolls-If i c t a w r)) ∙ fold-roll-Expr Span span_step (layer.If i c t a w r)

pub span_binary : (l : Expr) (o : BinaryOperator) (s : Span) (r : Expr) → span_of (form.Binary l o s r) ≡ joined (span_of l) (span_of r)
span_binary l o s r = ap span_of (sym (form.rolls-Binary l o s r)) ∙ fold-roll-Expr Span span_step (layer.Binary l o s r)

pub span_unary : (o : UnaryOperator) (s : Span) (x : Expr) → span_of (form.Unary o s x) ≡ joined s (span_of x)
span_unary o s x = ap span_of (sym (form.rolls-Unary o s x)) ∙ fold-roll-Expr Span span_step (layer.Unary o s x)

pub span_member : (x : Expr) (dot : Span) (n : Ident) → span_of (form.Member x dot n) ≡ joined (span_of x) n.span
span_member x dot n = ap span_of (sym (form.rolls-Member x dot n)) ∙ fold-roll-Expr Span span_step (layer.Member x dot n)

pub span_index : (x : Expr) (o : Span) (i : Expr) (c : Span) → span_of (form.Index x o i c) ≡ joined (span_of x) c
span_index x o i c = ap span_of (sym (form.rolls-Index x o i c)) ∙ fold-roll-Expr Span span_step (layer.Index x o i c)

pub span_call : (n : Ident) (o : Span) (is : List (ListItem Expr)) (c : Span) → span_of (form.Call n o is c) ≡ joined n.span c
span_call n o is c = ap span_of (sym (form.rolls-Call n o is c)) ∙ fold-roll-Expr Span span_step (layer.Call n o is c)

pub span_list : (o : Span) (is : List (ListItem Expr)) (c : Span) → span_of (form.List o is c) ≡ joined o c
span_list o is c = ap span_of (sym (form.rolls-List o is c)) ∙ fold-roll-Expr Span span_step (layer.List o is c)

pub span_map : (o : Span) (es : List (ListItem (MapEntry Expr))) (c : Span) → span_of (form.Map o es c) ≡ joined o c
span_map o es c = ap span_of (sym (form.rolls-Map o es c)) ∙ fold-roll-Expr Span span_step (layer.Map o es c)

-- ---- lists of parts, with their outcomes beside them or not

abbrev beside : Scope → Expr → Part Checking
beside s e = (e, checked s e)

items : (s : Scope) (is : List (ListItem Expr)) (p : Bool) → items_checked (λ (x : Part Checking). x.1) ((former-Expr-Call-2).map Expr (Part Checking) (beside s) is) p ≡ items_checked (checked s) is p
items s [] p = refl
items s (i ∷ is) p = ap (λ (z : Checked (List Typed)). then_ (checked s i.item p) (λ x. then_ z (λ xs. Ok (x ∷ xs)))) (items s is p)

entries : (s : Scope) (es : List (ListItem (MapEntry Expr))) (p : Bool) → entries_checked (λ (x : Part Checking). x.1) ((former-Expr-Map-1).map Expr (Part Checking) (beside s) es) p ≡ entries_checked (checked s) es p
entries s [] p = refl
entries s (i ∷ es) p = ap (λ z. then_ (checked s i.item.key p) (λ x. then_ (checked s i.item.value p) (λ y. then_ z (λ rows. Ok (row x y ∷ rows))))) (entries s es p)

members : (s : Scope) (ms : List (ListItem (MemberEntry Expr))) (p : Bool) → members_checked (λ (x : Part Checking). span_of x.0) (λ (x : Part Checking). x.1) ((former-Expr-Struct-2).map Expr (Part Checking) (beside s) ms) p ≡ members_checked span_of (checked s) ms p
members s [] p = refl
members s (i ∷ ms) p = ap (λ z. then_ (checked s i.item.value p) (λ x. then_ z (λ gs. Ok (given i.item.name.name (span_of i.item.value) x ∷ gs)))) (members s ms p)

names : (s : Scope) (ms : List (ListItem (MemberEntry Expr))) → idents ((former-Expr-Struct-2).map Expr (Part Checking) (beside s) ms) ≡ idents ms
names s [] = refl
names s (i ∷ ms) = ap (λ z. i.item.name ∷ z) (names s ms)

string_parts : (s : Scope) (q : Quote) (o c : Span) (ps : List (StringPart Expr)) → parts_checked (λ (x : Part Checking). span_of x.0) (λ (x : Part Checking). x.1) ((former-Expr-Str-0).map Expr (Part Checking) (beside s) (record { quote = q; opening = o; parts = ps; closing = c })).parts ≡ parts_checked span_of (checked s) ps
string_parts s q o c [] = refl
string_parts s q o c (part.Chars k ∷ ps) = ap (λ (z : Checked (List (TPart TExpr))). then_ z (λ qs. Ok (tp.Chars k.text ∷ qs))) (string_parts s q o c ps)
string_parts s q o c (part.Placeholder h ∷ ps) = ap (λ z. then_ (hole_checked span_of (checked s) h) (λ x. then_ z (λ qs. Ok (x ∷ qs)))) (string_parts s q o c ps)

texts : (s : Scope) (q : Quote) (o c : Span) (ps : List (StringPart Expr)) → plain_text ((former-Expr-Str-0).map Expr (Part Checking) (beside s) (record { quote = q; opening = o; parts = ps; closing = c })).parts ≡ plain_text ps
texts s q o c [] = refl
texts s q o c (part.Chars k ∷ ps) = ap (λ (z : Option (List ℕ)). option_map (λ t. k.text ++ t) z) (texts s q o c ps)
texts s q o c (part.Placeholder h ∷ ps) = refl

-- ---- forms

checked_roll : (s : Scope) (x : Expr-F Expr) (p : Bool) → checked s (roll-Expr x) p ≡ checked_step s (map-Expr Expr (Part Checking) (beside s) x) p
unfolding checked
checked_roll s x p = ap (λ (f : Checking). f p) (para-roll-Expr Checking (checked_step s) x)

checked_at : (s : Scope) (e : Expr) (x : Expr-F Expr) (p : Bool) → roll-Expr x ≡ e → checked s e p ≡ checked_step s (map-Expr Expr (Part Checking) (beside s) x) p
checked_at s e x p is = ap (λ (y : Expr). checked s y p) (sym is) ∙ checked_roll s x p

pub checked_if : (s : Scope) (i : Span) (c : Expr) (t : Span) (a : Expr) (w : Span) (r : Expr) (p : Bool) → checked s (form.If i c t a w r) p ≡ if_checked (span_of (form.If i c t a w r)) (condition_checked (span_of c) (checked s c p)) (checked s a p) (checked s r p)
checked_if s i c t a w r p = checked_at s _ _ p (form.rolls-If i c t a w r) ∙ ap (λ (at : Span). if_checked at (condition_checked (span_of c) (checked s c p)) (checked s a p) (checked s r p)) (sym (span_if i c t a w r))

pub checked_binary : (s : Scope) (l : Expr) (o : BinaryOperator) (sign : Span) (r : Expr) (p : Bool) → checked s (form.Binary l o sign r) p ≡ binary_checked o p (span_of (form.Binary l o sign r)) (checked s l p) (checked s r p)
checked_binary s l o sign r p = checked_at s _ _ p (form.rolls-Binary l o sign r) ∙ ap (λ (at : Span). binary_checked o p at (checked s l p) (checked s r p)) (sym (span_binary l o sign r))

pub checked_unary : (s : Scope) (o : UnaryOperator) (sign : Span) (x : Expr) (p : Bool) → checked s (form.Unary o sign x) p ≡ unary_checked o (span_of (form.Unary o sign x)) (checked s x p)
checked_unary s o sign x p = checked_at s _ _ p (form.rolls-Unary o sign x) ∙ ap (λ (at : Span). unary_checked o at (checked s x p)) (sym (span_unary o sign x))

pub checked_member : (s : Scope) (x : Expr) (dot : Span) (n : Ident) (p : Bool) → checked s (form.Member x dot n) p ≡ member_checked s (output_named s.names (name_of x) n.name) (name_of x) n (span_of (form.Member x dot n)) (checked s x p)
checked_member s x dot n p = checked_at s _ _ p (form.rolls-Member x dot n) ∙ ap (λ (at : Span). member_checked s (output_named s.names (name_of x) n.name) (name_of x) n at (checked s x p)) (sym (span_member x dot n))

pub checked_index : (s : Scope) (x : Expr) (o : Span) (i : Expr) (c : Span) (p : Bool) → checked s (form.Index x o i c) p ≡ index_checked (span_of (form.Index x o i c)) (checked s x p) (checked s i p)
checked_index s x o i c p = checked_at s _ _ p (form.rolls-Index x o i c) ∙ ap (λ (at : Span). index_checked at (checked s x p) (checked s i p)) (sym (span_index x o i c))

pub checked_true : (s : Scope) (at : Span) (p : Bool) → checked s (form.True at) p ≡ Ok (literal (v.Bool true) ty.Bool)
checked_true s at p = checked_at s _ _ p (form.rolls-True at)

pub checked_false : (s : Scope) (at : Span) (p : Bool) → checked s (form.False at) p ≡ Ok (literal (v.Bool false) ty.Bool)
checked_false s at p = checked_at s _ _ p (form.rolls-False at)

pub checked_none : (s : Scope) (at : Span) (p : Bool) → checked s (form.None at) p ≡ Ok (literal v.Absent ty.Absent)
checked_none s at p = checked_at s _ _ p (form.rolls-None at)

pub checked_int : (s : Scope) (n : ℤ) (at : Span) (p : Bool) → checked s (form.Int n at) p ≡ or_bad 106 at (int_literal n)
checked_int s n at p = checked_at s _ _ p (form.rolls-Int n at)

pub checked_str : (s : Scope) (string : StringTree Expr) (p : Bool) → checked s (form.Str string) p ≡ string_checked (plain_text string.parts) span_of (checked s) string.parts
checked_str s string p =
    checked_at s _ _ p (form.rolls-Str string)
    ∙ ap (λ z. string_checked z (λ (x : Part Checking). span_of x.0) (λ (x : Part Checking). x.1) ((former-Expr-Str-0).map Expr (Part Checking) (beside s) string).parts) (texts s string.quote string.opening string.closing string.parts)
    ∙ by_text (plain_text string.parts)
  where
    by_text : (t : Option (List ℕ)) → string_checked t (λ (x : Part Checking). span_of x.0) (λ (x : Part Checking). x.1) ((former-Expr-Str-0).map Expr (Part Checking) (beside s) string).parts ≡ string_checked t span_of (checked s) string.parts
    by_text (Option.Some t) = refl
    by_text None = ap (λ (z : Checked (List (TPart TExpr))). then_ z (λ qs. Ok (strung qs))) (string_parts s string.quote string.opening string.closing string.parts)

pub checked_name : (s : Scope) (n : Ident) (p : Bool) → checked s (form.Name n) p ≡ name_checked s.names s.calls n
checked_name s n p = checked_at s _ _ p (form.rolls-Name n)

pub checked_call : (s : Scope) (n : Ident) (o : Span) (is : List (ListItem Expr)) (c : Span) (p : Bool) → checked s (form.Call n o is c) p ≡ call_checked s n (span_of (form.Call n o is c)) (items_checked (checked s) is p)
checked_call s n o is c p = checked_at s _ _ p (form.rolls-Call n o is c) ∙ ap (λ z. call_checked s n (joined n.span c) z) (items s is p) ∙ ap (λ (at : Span). call_checked s n at (items_checked (checked s) is p)) (sym (span_call n o is c))

pub checked_group : (s : Scope) (o : Span) (x : Expr) (c : Span) (p : Bool) → checked s (form.Group o x c) p ≡ checked s x p
checked_group s o x c p = checked_at s _ _ p (form.rolls-Group o x c)

pub checked_pair : (s : Scope) (o : Span) (l : Expr) (m : Span) (r : Expr) (c : Span) (p : Bool) → checked s (form.Pair o l m r c) p ≡ pair_checked (checked s l p) (checked s r p)
checked_pair s o l m r c p = checked_at s _ _ p (form.rolls-Pair o l m r c)

pub checked_list : (s : Scope) (o : Span) (is : List (ListItem Expr)) (c : Span) (p : Bool) → checked s (form.List o is c) p ≡ list_checked (span_of (form.List o is c)) (items_checked (checked s) is p)
checked_list s o is c p = checked_at s _ _ p (form.rolls-List o is c) ∙ ap (λ z. list_checked (joined o c) z) (items s is p) ∙ ap (λ (at : Span). list_checked at (items_checked (checked s) is p)) (sym (span_list o is c))

pub checked_map : (s : Scope) (o : Span) (es : List (ListItem (MapEntry Expr))) (c : Span) (p : Bool) → checked s (form.Map o es c) p ≡ map_checked (span_of (form.Map o es c)) (entries_checked (checked s) es p)
checked_map s o es c p = checked_at s _ _ p (form.rolls-Map o es c) ∙ ap (λ z. map_checked (joined o c) z) (entries s es p) ∙ ap (λ (at : Span). map_checked at (entries_checked (checked s) es p)) (sym (span_map o es c))

pub checked_struct : (s : Scope) (n : Ident) (o : Span) (ms : List (ListItem (MemberEntry Expr))) (c : Span) (p : Bool) → checked s (form.Struct n o ms c) p ≡ literal_checked span_of (checked s) (struct_named s.structs s.locals n.name) n ms p
checked_struct s n o ms c p =
    checked_at s _ _ p (form.rolls-Struct n o ms c)
    ∙ ap (λ z. struct_checked n.span (struct_named s.structs s.locals n.name) z (members_checked (λ (x : Part Checking). span_of x.0) (λ (x : Part Checking). x.1) ((former-Expr-Struct-2).map Expr (Part Checking) (beside s) ms) p)) (names s ms)
    ∙ ap (λ z. struct_checked n.span (struct_named s.structs s.locals n.name) (idents ms) z) (members s ms p)

pub ruleset equations = (checked_if, checked_binary, checked_unary, checked_member, checked_index, checked_true, checked_false, checked_none, checked_int, checked_str, checked_name, checked_call, checked_group, checked_pair, checked_list, checked_map, checked_struct)
