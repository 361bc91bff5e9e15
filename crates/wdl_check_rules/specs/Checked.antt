-- The typing of an expression, or the first code in the order in which the checker looks. What it means is said by
-- `typed` and `conditions`.
use Rattle.std.specs.Prelude.{◌≡◌, ◌≢◌, ℕ, Bool, true, false, List, [], ◌∷◌, ◌++◌, Option, Some, None, Result, Ok, Err, if◌then◌else◌}
use Rattle.wdl_base.specs.declared.span.Span.{Span}
use Rattle.wdl_value.specs.declared.operator.Func.{Func}
use Rattle.wdl_value.specs.declared.ty.Member.{Member}
use Rattle.wdl_value.specs.declared.ty.StructDef.{StructDef}
use Rattle.wdl_value.specs.declared.ty.Ty.{Ty}
use Rattle.wdl_value.specs.declared.ty.Ty.TheVariants as ty
use Rattle.wdl_value.specs.declared.value.Value.TheVariants as v
use Rattle.wdl_value.specs.FunctionTypes.{writes}
use Rattle.wdl_ast.specs.declared.expr.BinaryOperator.{BinaryOperator}
use Rattle.wdl_ast.specs.declared.expr.UnaryOperator.{UnaryOperator}
use Rattle.wdl_ast.specs.declared.expr.Expr.{Expr, Expr-F, para-Expr}
use Rattle.wdl_ast.specs.declared.expr.Expr.TheOpen as layer
use Rattle.wdl_ast.specs.declared.expr.MapEntry.{MapEntry}
use Rattle.wdl_ast.specs.declared.expr.MemberEntry.{MemberEntry}
use Rattle.wdl_ast.specs.declared.leaf.Ident.{Ident}
use Rattle.wdl_ast.specs.declared.leaf.ListItem.{ListItem}
use Rattle.wdl_ast.specs.declared.string.Placeholder.{Placeholder}
use Rattle.wdl_ast.specs.declared.string.StringPart.{StringPart}
use Rattle.wdl_ast.specs.declared.string.StringPart.TheVariants as part
use Rattle.wdl_typed.specs.declared.expr.TExpr.{TExpr}
use Rattle.wdl_typed.specs.declared.expr.TField.{TField}
use Rattle.wdl_typed.specs.declared.expr.TPair.{TPair}
use Rattle.wdl_typed.specs.declared.expr.TPart.{TPart}
use Rattle.wdl_typed.specs.declared.expr.TPart.TheVariants as tp
use Rattle.wdl_typed.specs.declared.scope.Bound.{Bound}
use Rattle.wdl_check_rules.specs.declared.fault.CheckFault.{CheckFault}
use Rattle.wdl_check_rules.specs.declared.fault.CheckFault.TheVariants.{Bad, NoMemory}
use Rattle.wdl_check_rules.specs.declared.literal_members.MemberValue.{MemberValue}
use Rattle.wdl_check_rules.specs.Scopes.{Scope}
use Rattle.wdl_check_rules.specs.declared.typed.Typed.{Typed}
use Rattle.wdl_check_rules.specs.Conditions.{name_code, is_call_alone}
use Rattle.wdl_check_rules.specs.Functions.{func_of, reads_early}
use Rattle.wdl_check_rules.specs.Locals.{struct_named}
use Rattle.wdl_check_rules.specs.Members.{is_stray, left_out, GivenAt, given_of, without, field, struct_with}
use Rattle.wdl_check_rules.specs.Rules.{coerced, literal, int_literal, key_of, named, output_named, member_of, item_of, unary_of, binary_of, condition_of, choose_of, list_of, keys_join, values_join, plain_key, map_with, pair_of, apply_of, choice_of, hole_of, plain_text, string_literal, strung}
use Rattle.wdl_check_rules.specs.Spans.{joined, name_of, span_of}
use Rattle.wdl_check_rules.specs.Typed.{Part, idents, row, given}

abbrev pub Checked : Type 0 → Type 0
Checked A = Result A CheckFault

abbrev pub then_ : {A B : Type 0} → Checked A → (A → Checked B) → Checked B
then_ (Ok a) f = f a
then_ (Err e) f = Err e

abbrev pub bad : {A : Type 0} → ℕ → Span → Checked A
bad code span = Err (Bad code span)

abbrev pub or_bad : {A : Type 0} → ℕ → Span → Option A → Checked A
or_bad code span (Some a) = Ok a
or_bad code span None = bad code span

-- what code answers where the outcome is known, but for want of memory
abbrev pub Gives : {A : Type 0} → Checked A → Checked A → Type 0
Gives outcome (Ok a) = outcome ≡ Ok a
Gives outcome (Err e) = e ≢ NoMemory → outcome ≡ Err e

abbrev pub Checking : Type 0
Checking = Bool → Checked Typed

abbrev pub name_checked : List Bound → List (List ℕ) → Ident → Checked Typed
name_checked names calls n = or_bad (name_code calls n.name) n.span (named names (key_of n.name None))

-- ---- lists of parts; `f` gives the outcome of a part

abbrev pub items_checked : {E : Type 0} → (E → Checking) → List (ListItem E) → Bool → Checked (List Typed)
items_checked f [] p = Ok []
items_checked f (i ∷ is) p = then_ (f i.item p) (λ x. then_ (items_checked f is p) (λ xs. Ok (x ∷ xs)))

abbrev pub entries_checked : {E : Type 0} → (E → Checking) → List (ListItem (MapEntry E)) → Bool → Checked (List (TPair Typed))
entries_checked f [] p = Ok []
entries_checked f (i ∷ is) p =
    then_ (f i.item.key p) (λ x. then_ (f i.item.value p) (λ y. then_ (entries_checked f is p) (λ rows. Ok (row x y ∷ rows))))

abbrev pub members_checked : {E : Type 0} → (E → Span) → (E → Checking) → List (ListItem (MemberEntry E)) → Bool → Checked (List MemberValue)
members_checked place f [] p = Ok []
members_checked place f (i ∷ is) p =
    then_ (f i.item.value p) (λ x. then_ (members_checked place f is p) (λ gs. Ok (given i.item.name.name (place i.item.value) x ∷ gs)))

abbrev pub hole_checked : {E : Type 0} → (E → Span) → (E → Checking) → Placeholder E → Checked (TPart TExpr)
hole_checked place f h = then_ (f h.expr true) (λ x. or_bad 308 (place h.expr) (hole_of (choice_of h.options) x))

abbrev pub parts_checked : {E : Type 0} → (E → Span) → (E → Checking) → List (StringPart E) → Checked (List (TPart TExpr))
parts_checked place f [] = Ok []
parts_checked place f (part.Chars c ∷ ps) = then_ (parts_checked place f ps) (λ qs. Ok (tp.Chars c.text ∷ qs))
parts_checked place f (part.Placeholder h ∷ ps) =
    then_ (hole_checked place f h) (λ q. then_ (parts_checked place f ps) (λ qs. Ok (q ∷ qs)))

-- ---- forms

abbrev pub condition_checked : Span → Checked Typed → Checked TExpr
condition_checked span c = then_ c (λ t. or_bad 304 span (condition_of t))

abbrev pub if_checked : Span → Checked TExpr → Checked Typed → Checked Typed → Checked Typed
if_checked span c a r = then_ c (λ b. then_ a (λ x. then_ r (λ y. or_bad 310 span (choose_of b x y))))

abbrev pub binary_checked : BinaryOperator → Bool → Span → Checked Typed → Checked Typed → Checked Typed
binary_checked o p span l r = then_ l (λ x. then_ r (λ y. or_bad 304 span (binary_of o p x y)))

abbrev pub unary_checked : UnaryOperator → Span → Checked Typed → Checked Typed
unary_checked o span x = then_ x (λ t. or_bad 304 span (unary_of o t))

abbrev pub index_checked : Span → Checked Typed → Checked Typed → Checked Typed
index_checked span x i = then_ x (λ t. then_ i (λ u. or_bad 304 span (item_of t u)))

abbrev pub base_checked : Scope → Bool → Ident → Span → Checked Typed → Checked Typed
base_checked s alone n span x = if alone then bad 301 span else then_ x (λ t. or_bad 306 n.span (member_of s.structs n.name t))

abbrev pub member_checked : Scope → Option Typed → Option (List ℕ) → Ident → Span → Checked Typed → Checked Typed
member_checked s (Some t) name n span x = Ok t
member_checked s None name n span x = base_checked s (is_call_alone s.names s.calls name) n span x

abbrev pub string_checked : {E : Type 0} → Option (List ℕ) → (E → Span) → (E → Checking) → List (StringPart E) → Checked Typed
string_checked (Some s) place f ps = Ok (string_literal s)
string_checked None place f ps = then_ (parts_checked place f ps) (λ qs. Ok (strung qs))

-- the function that a name calls, where it may stand
abbrev pub callee_checked : Bool → Span → Option Func → Checked Func
callee_checked outputs span None = bad 302 span
callee_checked outputs span (Some f) = if writes f then bad 312 span else (if reads_early outputs f then bad 309 span else Ok f)

abbrev pub call_checked : Scope → Ident → Span → Checked (List Typed) → Checked Typed
call_checked s n span xs =
    then_ (callee_checked s.outputs n.span (func_of n.name)) (λ f. then_ xs (λ ts. or_bad 305 span (apply_of f ts)))

abbrev pub pair_checked : Checked Typed → Checked Typed → Checked Typed
pair_checked l r = then_ l (λ x. then_ r (λ y. Ok (pair_of x y)))

abbrev pub list_checked : Span → Checked (List Typed) → Checked Typed
list_checked span xs = then_ xs (λ ts. or_bad 310 span (list_of ts))

abbrev pub rows_checked : Span → List (TPair Typed) → Checked Typed
rows_checked span rows =
    then_ (or_bad 310 span (keys_join rows)) (λ k. then_ (or_bad 329 span (plain_key k)) (λ k. then_ (or_bad 310 span (values_join rows)) (λ t. Ok (map_with rows k t))))

abbrev pub map_checked : Span → Checked (List (TPair Typed)) → Checked Typed
map_checked span rows = then_ rows (rows_checked span)

-- where the first name stands that the struct lacks, or that stands before
abbrev pub first_stray : List Member → List Ident → List Ident → Option Span
first_stray ms before [] = None
first_stray ms before (n ∷ ns) = if is_stray ms before n.name then Some n.span else first_stray ms (before ++ n ∷ []) ns

abbrev pub no_stray : Option Span → Checked Typed → Checked Typed
no_stray (Some span) x = bad 310 span
no_stray None x = x

abbrev pub value_checked : Span → Ty → Option MemberValue → Checked TExpr
value_checked span t None = or_bad 310 span (left_out t)
value_checked span t (Some g) = or_bad 303 g.place (coerced g.value t)

abbrev pub fields_checked : Span → List Member → GivenAt → Checked (List (TField TExpr))
fields_checked span [] gs = Ok []
fields_checked span (m ∷ ms) gs =
    then_ (value_checked span m.ty (gs m.name)) (λ e. then_ (fields_checked span ms (without gs m.name)) (λ fs. Ok (field m.name e ∷ fs)))

abbrev pub struct_with_checked : Span → StructDef → List MemberValue → Checked Typed
struct_with_checked span d gs = then_ (fields_checked span d.members (given_of gs)) (λ fs. Ok (struct_with d.name fs))

abbrev pub struct_checked : Span → Option StructDef → List Ident → Checked (List MemberValue) → Checked Typed
struct_checked span None names gs = bad 329 span
struct_checked span (Some d) names gs =
    no_stray (first_stray d.members [] names) (then_ gs (struct_with_checked span d))

abbrev pub literal_checked : {E : Type 0} → (E → Span) → (E → Checking) → Option StructDef → Ident → List (ListItem (MemberEntry E)) → Bool → Checked Typed
literal_checked place f def n entries p = struct_checked n.span def (idents entries) (members_checked place f entries p)

abbrev pub checked_step : Scope → Expr-F (Part Checking) → Checking
checked_step s (layer.If i c t a e r) p = if_checked (joined i (span_of r.0)) (condition_checked (span_of c.0) (c.1 p)) (a.1 p) (r.1 p)
checked_step s (layer.Binary l o sign r) p = binary_checked o p (joined (span_of l.0) (span_of r.0)) (l.1 p) (r.1 p)
checked_step s (layer.Unary o sign x) p = unary_checked o (joined sign (span_of x.0)) (x.1 p)
checked_step s (layer.Member x dot n) p =
    member_checked s (output_named s.names (name_of x.0) n.name) (name_of x.0) n (joined (span_of x.0) n.span) (x.1 p)
checked_step s (layer.Index x o i c) p = index_checked (joined (span_of x.0) c) (x.1 p) (i.1 p)
checked_step s (layer.True span) p = Ok (literal (v.Bool true) ty.Bool)
checked_step s (layer.False span) p = Ok (literal (v.Bool false) ty.Bool)
checked_step s (layer.None span) p = Ok (literal v.Absent ty.Absent)
checked_step s (layer.Int n span) p = or_bad 106 span (int_literal n)
checked_step s (layer.Str string) p =
    string_checked (plain_text string.parts) (λ (x : Part Checking). span_of x.0) (λ (x : Part Checking). x.1) string.parts
checked_step s (layer.Name n) p = name_checked s.names s.calls n
checked_step s (layer.Call n o items c) p = call_checked s n (joined n.span c) (items_checked (λ (x : Part Checking). x.1) items p)
checked_step s (layer.Group o x c) p = x.1 p
checked_step s (layer.Pair o l m r c) p = pair_checked (l.1 p) (r.1 p)
checked_step s (layer.List o items c) p = list_checked (joined o c) (items_checked (λ (x : Part Checking). x.1) items p)
checked_step s (layer.Map o entries c) p = map_checked (joined o c) (entries_checked (λ (x : Part Checking). x.1) entries p)
checked_step s (layer.Struct n o members c) p =
    literal_checked (λ (x : Part Checking). span_of x.0) (λ (x : Part Checking). x.1) (struct_named s.structs s.locals n.name) n members p

unfoldable pub checked : Scope → Expr → Bool → Checked Typed
checked s = para-Expr Checking (checked_step s)

-- the same, cast to a type
abbrev pub checked_as : Scope → Expr → Ty → Checked TExpr
checked_as s e t = then_ (checked s e s.placeholder) (λ x. or_bad 303 (span_of e) (coerced x t))
