-- The type and the typed expression of an expression in a scope, or nothing (OpenWDL 1.1, "Expressions"): a recursion on
-- the syntax tree, by whether the expression stands in a placeholder.
use Rattle.std.specs.Prelude.{ℕ, Bool, true, false, not, ◌&&◌, List, [], ◌∷◌, Option, Some, None, option_map, option_and_then, if◌then◌else◌}
use Rattle.wdl_base.specs.declared.span.Span.{Span}
use Rattle.wdl_value.specs.declared.operator.Func.{Func}
use Rattle.wdl_value.specs.declared.ty.StructDef.{StructDef}
use Rattle.wdl_value.specs.declared.ty.Ty.{Ty}
use Rattle.wdl_value.specs.declared.ty.Ty.TheVariants as ty
use Rattle.wdl_value.specs.declared.value.Value.TheVariants as v
use Rattle.wdl_value.specs.FunctionTypes.{writes}
use Rattle.wdl_ast.specs.declared.expr.Expr.{Expr, Expr-F, para-Expr}
use Rattle.wdl_ast.specs.declared.expr.Expr.TheOpen as layer
use Rattle.wdl_ast.specs.declared.expr.MapEntry.{MapEntry}
use Rattle.wdl_ast.specs.declared.expr.MemberEntry.{MemberEntry}
use Rattle.wdl_ast.specs.declared.leaf.Ident.{Ident}
use Rattle.wdl_ast.specs.declared.leaf.ListItem.{ListItem}
use Rattle.wdl_ast.specs.declared.string.StringPart.{StringPart}
use Rattle.wdl_ast.specs.declared.string.StringPart.TheVariants as part
use Rattle.wdl_typed.specs.declared.expr.TExpr.{TExpr}
use Rattle.wdl_typed.specs.declared.expr.TPair.{TPair}
use Rattle.wdl_typed.specs.declared.expr.TPart.{TPart}
use Rattle.wdl_typed.specs.declared.expr.TPart.TheVariants as tp
use Rattle.wdl_check_rules.specs.declared.literal_members.MemberValue.{MemberValue}
use Rattle.wdl_check_rules.specs.Scopes.{Scope}
use Rattle.wdl_check_rules.specs.declared.typed.Typed.{Typed}
use Rattle.wdl_check_rules.specs.Functions.{func_of, reads_early}
use Rattle.wdl_check_rules.specs.Locals.{struct_named}
use Rattle.wdl_check_rules.specs.Members.{has_stray, given_of, fields_of, struct_with}
use Rattle.wdl_check_rules.specs.Rules.{or_else, coerced, literal, int_literal, key_of, named, output_named, member_of, item_of, unary_of, binary_of, condition_of, choose_of, list_of, map_of, pair_of, apply_of, choice_of, hole_of, plain_text, string_literal, strung}
use Rattle.wdl_check_rules.specs.Spans.{name_of, span_of}

-- by whether it stands in a placeholder
abbrev pub Typing : Type 0
Typing = Bool → Option Typed

-- a part of an expression, with its result
abbrev pub Part : Type 0 → Type 0
Part A = Expr × A

abbrev pub both : {A B C : Type 0} → (A → B → Option C) → Option A → Option B → Option C
both f o q = option_and_then (λ a. option_and_then (λ b. f a b) q) o

abbrev pub idents : {E : Type 0} → List (ListItem (MemberEntry E)) → List Ident
idents [] = []
idents (m ∷ ms) = m.item.name ∷ idents ms

-- ---- lists of parts, of which each has a typing; `f` gives that of a part

abbrev pub items_typed : {E : Type 0} → (E → Typing) → List (ListItem E) → Bool → Option (List Typed)
items_typed f [] p = Some []
items_typed f (i ∷ is) p = both (λ x xs. Some (x ∷ xs)) (f i.item p) (items_typed f is p)

abbrev pub row : Typed → Typed → TPair Typed
row x y = record { key = x; value = y }

abbrev pub entries_typed : {E : Type 0} → (E → Typing) → List (ListItem (MapEntry E)) → Bool → Option (List (TPair Typed))
entries_typed f [] p = Some []
entries_typed f (i ∷ is) p =
    both (λ x y. option_map (λ rows. row x y ∷ rows) (entries_typed f is p)) (f i.item.key p) (f i.item.value p)

abbrev pub given : List ℕ → Span → Typed → MemberValue
given name place x = record { name = name; place = place; value = x }

abbrev pub members_typed : {E : Type 0} → (E → Span) → (E → Typing) → List (ListItem (MemberEntry E)) → Bool → Option (List MemberValue)
members_typed place f [] p = Some []
members_typed place f (i ∷ is) p =
    both (λ x gs. Some (given i.item.name.name (place i.item.value) x ∷ gs)) (f i.item.value p) (members_typed place f is p)

-- what stands in a placeholder is typed as such
abbrev pub parts_typed : {E : Type 0} → (E → Typing) → List (StringPart E) → Option (List (TPart TExpr))
parts_typed f [] = Some []
parts_typed f (part.Chars c ∷ ps) = option_map (λ qs. tp.Chars c.text ∷ qs) (parts_typed f ps)
parts_typed f (part.Placeholder h ∷ ps) =
    both (λ q qs. Some (q ∷ qs)) (option_and_then (hole_of (choice_of h.options)) (f h.expr true)) (parts_typed f ps)

-- ---- forms

abbrev pub string_typed : {E : Type 0} → Option (List ℕ) → (E → Typing) → List (StringPart E) → Option Typed
string_typed (Some s) f ps = Some (string_literal s)
string_typed None f ps = option_map strung (parts_typed f ps)

-- the functions that write files stand in no expression, and those that read them where the scope has outputs
abbrev pub may_call : Bool → Func → Bool
may_call outputs f = not (writes f) && not (reads_early outputs f)

abbrev pub call_typed : Scope → Option Func → Option (List Typed) → Option Typed
call_typed s None xs = None
call_typed s (Some f) xs = if may_call s.outputs f then option_and_then (apply_of f) xs else None

-- a literal of a struct has the name of the library
abbrev pub struct_typed : Option StructDef → List Ident → Option (List MemberValue) → Option Typed
struct_typed None names gs = None
struct_typed (Some d) names gs =
    if has_stray d.members [] names then None else option_map (struct_with d.name) (option_and_then (λ gs. fields_of d.members (given_of gs)) gs)

abbrev pub typed_step : Scope → Expr-F (Part Typing) → Typing
typed_step s (layer.If i c t a e r) p = option_and_then (λ b. both (choose_of b) (a.1 p) (r.1 p)) (option_and_then condition_of (c.1 p))
typed_step s (layer.Binary l o sign r) p = both (binary_of o p) (l.1 p) (r.1 p)
typed_step s (layer.Unary o sign x) p = option_and_then (unary_of o) (x.1 p)
typed_step s (layer.Member x dot n) p =
    or_else (output_named s.names (name_of x.0) n.name) (option_and_then (member_of s.structs n.name) (x.1 p))
typed_step s (layer.Index x o i c) p = both item_of (x.1 p) (i.1 p)
typed_step s (layer.True at) p = Some (literal (v.Bool true) ty.Bool)
typed_step s (layer.False at) p = Some (literal (v.Bool false) ty.Bool)
typed_step s (layer.None at) p = Some (literal v.Absent ty.Absent)
typed_step s (layer.Int n at) p = int_literal n
typed_step s (layer.Str string) p = string_typed (plain_text string.parts) (λ (x : Part Typing). x.1) string.parts
typed_step s (layer.Name n) p = named s.names (key_of n.name None)
typed_step s (layer.Call n o items c) p = call_typed s (func_of n.name) (items_typed (λ (x : Part Typing). x.1) items p)
typed_step s (layer.Group o x c) p = x.1 p
typed_step s (layer.Pair o l m r c) p = both (λ x y. Some (pair_of x y)) (l.1 p) (r.1 p)
typed_step s (layer.List o items c) p = option_and_then list_of (items_typed (λ (x : Part Typing). x.1) items p)
typed_step s (layer.Map o entries c) p = option_and_then map_of (entries_typed (λ (x : Part Typing). x.1) entries p)
typed_step s (layer.Struct n o members c) p =
    struct_typed (struct_named s.structs s.locals n.name) (idents members)
    (members_typed (λ (x : Part Typing). span_of x.0) (λ (x : Part Typing). x.1) members p)

-- outside a placeholder and in one
unfoldable pub typed_at : Scope → Expr → Bool → Option Typed
typed_at s = para-Expr Typing (typed_step s)

-- the typing of an expression in a scope
abbrev pub typed : Scope → Expr → Option Typed
typed s e = typed_at s e s.placeholder

-- the same, cast to a type
abbrev pub typed_as : Scope → Expr → Ty → Option TExpr
typed_as s e t = option_and_then (λ x. coerced x t) (typed s e)
