-- Why an expression has no typing in a scope: each code with each span at which its condition holds.
use Rattle.std.specs.Prelude.{◌≡◌, ◌⊎◌, ℕ, Bool, true, false, ◌&&◌, List, [], ◌∷◌, ◌++◌, Option, Some, None, Result, Ok, Err, if◌then◌else◌, is_none}
use Rattle.wdl_base.specs.declared.span.Span.{Span}
use Rattle.wdl_value.specs.declared.operator.Func.{Func}
use Rattle.wdl_value.specs.declared.ty.Member.{Member}
use Rattle.wdl_value.specs.declared.ty.StructDef.{StructDef}
use Rattle.wdl_value.specs.declared.ty.Ty.{Ty}
use Rattle.wdl_value.specs.FunctionTypes.{writes}
use Rattle.wdl_value.specs.Join.{join}
use Rattle.wdl_ast.specs.declared.expr.Expr.{Expr, Expr-F, para-Expr}
use Rattle.wdl_ast.specs.declared.expr.Expr.TheOpen as layer
use Rattle.wdl_ast.specs.declared.expr.MapEntry.{MapEntry}
use Rattle.wdl_ast.specs.declared.expr.MemberEntry.{MemberEntry}
use Rattle.wdl_ast.specs.declared.leaf.Ident.{Ident}
use Rattle.wdl_ast.specs.declared.leaf.ListItem.{ListItem}
use Rattle.wdl_ast.specs.declared.string.StringPart.{StringPart}
use Rattle.wdl_ast.specs.declared.string.StringPart.TheVariants as part
use Rattle.wdl_typed.specs.declared.expr.TPair.{TPair}
use Rattle.wdl_typed.specs.declared.scope.Bound.{Bound}
use Rattle.wdl_typed.specs.Lists.{has_name}
use Rattle.wdl_typed.specs.Scope.{type_in}
use Rattle.wdl_check_rules.specs.declared.fault.CheckFault.{CheckFault}
use Rattle.wdl_check_rules.specs.declared.fault.CheckFault.TheVariants.{Bad, NoMemory}
use Rattle.wdl_check_rules.specs.declared.literal_members.MemberValue.{MemberValue}
use Rattle.wdl_check_rules.specs.Scopes.{Scope}
use Rattle.wdl_check_rules.specs.declared.typed.Typed.{Typed}
use Rattle.wdl_check_rules.specs.Functions.{func_of, reads_early}
use Rattle.wdl_check_rules.specs.Locals.{struct_named}
use Rattle.wdl_check_rules.specs.Members.{is_stray, left_out, GivenAt, given_of, without}
use Rattle.wdl_check_rules.specs.Rules.{coerced, int_literal, key_of, output_named, member_of, item_of, unary_of, binary_of, condition_of, list_of, keys_join, values_join, plain_key, apply_of, choice_of, hole_of}
use Rattle.wdl_check_rules.specs.Spans.{joined, name_of, span_of}
use Rattle.wdl_check_rules.specs.Typed.{Part, typed_at, items_typed, entries_typed, members_typed, idents}

-- codes with their spans
abbrev pub Conditions : Type 0
Conditions = List CheckFault

abbrev pub is_among : CheckFault → Conditions → Type 0
is_among f [] = ⊥
is_among f (g ∷ gs) = (f ≡ g) ⊎ is_among f gs

abbrev pub at : ℕ → Span → Conditions
at code span = Bad code span ∷ []

abbrev pub where_ : Bool → Conditions → Conditions
where_ b fs = if b then fs else []

-- where a rule gives nothing
abbrev pub unless : {A : Type 0} → Option A → Conditions → Conditions
unless (Some a) fs = []
unless None fs = fs

-- conditions on parts that have a typing
abbrev pub given_that : {A : Type 0} → Option A → (A → Conditions) → Conditions
given_that (Some a) f = f a
given_that None f = []

-- ---- names

-- a name that stands for no value: 307 that of a call, 301 any other
abbrev pub name_code : List (List ℕ) → List ℕ → ℕ
name_code calls name = if has_name name calls then 307 else 301

abbrev pub name_conditions : List Bound → List (List ℕ) → Ident → Conditions
name_conditions names calls n = unless (type_in names (key_of n.name None)) (at (name_code calls n.name) n.span)

-- the name is that of a call and of no value
abbrev pub is_call_alone : List Bound → List (List ℕ) → Option (List ℕ) → Bool
is_call_alone names calls None = false
is_call_alone names calls (Some x) = is_none (type_in names (key_of x None)) && has_name x calls

-- ---- lists of parts; `f` gives the conditions of a part

abbrev pub items_conditions : {E : Type 0} → (E → Bool → Conditions) → List (ListItem E) → Bool → Conditions
items_conditions f [] p = []
items_conditions f (i ∷ is) p = f i.item p ++ items_conditions f is p

abbrev pub entries_conditions : {E : Type 0} → (E → Bool → Conditions) → List (ListItem (MapEntry E)) → Bool → Conditions
entries_conditions f [] p = []
entries_conditions f (i ∷ is) p = f i.item.key p ++ (f i.item.value p ++ entries_conditions f is p)

abbrev pub members_conditions : {E : Type 0} → (E → Bool → Conditions) → List (ListItem (MemberEntry E)) → Bool → Conditions
members_conditions f [] p = []
members_conditions f (i ∷ is) p = f i.item.value p ++ members_conditions f is p

-- 308: a type that the placeholder or its option does not take
abbrev pub parts_conditions : {E : Type 0} → (E → Span) → (E → Bool → Option Typed) → (E → Bool → Conditions) → List (StringPart E) → Conditions
parts_conditions place t f [] = []
parts_conditions place t f (part.Chars c ∷ ps) = parts_conditions place t f ps
parts_conditions place t f (part.Placeholder h ∷ ps) =
    (f h.expr true ++ given_that (t h.expr true) (λ x. unless (hole_of (choice_of h.options) x) (at 308 (place h.expr))))
    ++ parts_conditions place t f ps

-- 310: a member that the struct lacks, or one that is repeated
abbrev pub stray_conditions : List Member → List Ident → List Ident → Conditions
stray_conditions ms before [] = []
stray_conditions ms before (n ∷ ns) = where_ (is_stray ms before n.name) (at 310 n.span) ++ stray_conditions ms (before ++ n ∷ []) ns

-- 303: a member's value of another type; 310: a member that is not given and not optional
abbrev pub member_conditions : Span → Ty → Option MemberValue → Conditions
member_conditions span t None = unless (left_out t) (at 310 span)
member_conditions span t (Some g) = unless (coerced g.value t) (at 303 g.place)

abbrev pub fields_conditions : Span → List Member → GivenAt → Conditions
fields_conditions span [] gs = []
fields_conditions span (m ∷ ms) gs =
    member_conditions span m.ty (gs m.name) ++ fields_conditions span ms (without gs m.name)

-- ---- forms

-- 302: no function of that name; 312: one that writes a file; 309: one that reads where there are no outputs
abbrev pub function_conditions : Bool → Option Func → Span → Conditions
function_conditions outputs None span = at 302 span
function_conditions outputs (Some f) span = where_ (writes f) (at 312 span) ++ where_ (reads_early outputs f) (at 309 span)

-- 305: no row for the types of the arguments
abbrev pub argument_conditions : Option Func → Option (List Typed) → Span → Conditions
argument_conditions None xs span = []
argument_conditions (Some f) xs span = given_that xs (λ xs. unless (apply_of f xs) (at 305 span))

-- 329: no struct of that name
abbrev pub struct_conditions : Span → Option StructDef → List Ident → Option (List MemberValue) → Conditions
struct_conditions span None names gs = at 329 span
struct_conditions span (Some d) names gs =
    stray_conditions d.members [] names ++ given_that gs (λ gs. fields_conditions span d.members (given_of gs))

-- 310: keys or values without a join; 329: keys of a type that no map has
abbrev pub map_conditions : Span → List (TPair Typed) → Conditions
map_conditions span rows =
    unless (keys_join rows) (at 310 span)
    ++ (given_that (keys_join rows) (λ k. unless (plain_key k) (at 329 span)) ++ unless (values_join rows) (at 310 span))

-- 306: no such member; 301: a call has no such output
abbrev pub member_of_conditions : Scope → Option (List ℕ) → Ident → Span → Option Typed → Conditions → Conditions
member_of_conditions s name n span x fs =
    unless (output_named s.names name n.name)
    (if is_call_alone s.names s.calls name then at 301 span else fs ++ given_that x (λ t. unless (member_of s.structs n.name t) (at 306 n.span)))

abbrev pub conditions_step : Scope → Expr-F (Part (Bool → Conditions)) → Bool → Conditions
conditions_step s (layer.If i c t a e r) p =
    (c.1 p ++ given_that (typed_at s c.0 p) (λ x. unless (condition_of x) (at 304 (span_of c.0))))
    ++ (a.1 p ++ (r.1 p ++ given_that (typed_at s a.0 p) (λ x. given_that (typed_at s r.0 p) (λ y.
    unless (join x.ty y.ty) (at 310 (joined i (span_of r.0)))))))
conditions_step s (layer.Binary l o sign r) p =
    l.1 p ++ (r.1 p ++ given_that (typed_at s l.0 p) (λ x. given_that (typed_at s r.0 p) (λ y.
    unless (binary_of o p x y) (at 304 (joined (span_of l.0) (span_of r.0))))))
conditions_step s (layer.Unary o sign x) p =
    x.1 p ++ given_that (typed_at s x.0 p) (λ t. unless (unary_of o t) (at 304 (joined sign (span_of x.0))))
conditions_step s (layer.Member x dot n) p =
    member_of_conditions s (name_of x.0) n (joined (span_of x.0) n.span) (typed_at s x.0 p) (x.1 p)
conditions_step s (layer.Index x o i c) p =
    x.1 p ++ (i.1 p ++ given_that (typed_at s x.0 p) (λ t. given_that (typed_at s i.0 p) (λ u.
    unless (item_of t u) (at 304 (joined (span_of x.0) c)))))
conditions_step s (layer.True span) p = []
conditions_step s (layer.False span) p = []
conditions_step s (layer.None span) p = []
conditions_step s (layer.Int n span) p = unless (int_literal n) (at 106 span)
conditions_step s (layer.Str string) p =
    parts_conditions (λ (x : Part (Bool → Conditions)). span_of x.0) (λ (x : Part (Bool → Conditions)). typed_at s x.0)
    (λ (x : Part (Bool → Conditions)). x.1) string.parts
conditions_step s (layer.Name n) p = name_conditions s.names s.calls n
conditions_step s (layer.Call n o items c) p =
    function_conditions s.outputs (func_of n.name) n.span
    ++ (items_conditions (λ (x : Part (Bool → Conditions)). x.1) items p
    ++ argument_conditions (func_of n.name) (items_typed (λ (x : Part (Bool → Conditions)). typed_at s x.0) items p) (joined n.span c))
conditions_step s (layer.Group o x c) p = x.1 p
conditions_step s (layer.Pair o l m r c) p = l.1 p ++ r.1 p
conditions_step s (layer.List o items c) p =
    items_conditions (λ (x : Part (Bool → Conditions)). x.1) items p
    ++ given_that (items_typed (λ (x : Part (Bool → Conditions)). typed_at s x.0) items p) (λ xs. unless (list_of xs) (at 310 (joined o c)))
conditions_step s (layer.Map o entries c) p =
    entries_conditions (λ (x : Part (Bool → Conditions)). x.1) entries p
    ++ given_that (entries_typed (λ (x : Part (Bool → Conditions)). typed_at s x.0) entries p) (map_conditions (joined o c))
conditions_step s (layer.Struct n o members c) p =
    members_conditions (λ (x : Part (Bool → Conditions)). x.1) members p
    ++ struct_conditions n.span (struct_named s.structs s.locals n.name) (idents members)
    (members_typed (λ (x : Part (Bool → Conditions)). span_of x.0) (λ (x : Part (Bool → Conditions)). typed_at s x.0) members p)

unfoldable pub conditions_at : Scope → Expr → Bool → Conditions
conditions_at s = para-Expr (Bool → Conditions) (conditions_step s)

abbrev pub conditions : Scope → Expr → Conditions
conditions s e = conditions_at s e s.placeholder

-- 303: the type does not coerce to the one that is asked for
abbrev pub conditions_as : Scope → Expr → Ty → Conditions
conditions_as s e t = conditions s e ++ given_that (typed_at s e s.placeholder) (λ x. unless (coerced x t) (at 303 (span_of e)))

-- what a check answers: the typing, where there is one; else a code at a span where its condition holds
abbrev pub Answers : {A : Type 0} → Option A → Conditions → Result A CheckFault → Type 0
Answers typing conditions (Ok x) = typing ≡ Some x
Answers typing conditions (Err NoMemory) = Unit {0}
Answers typing conditions (Err (Bad code span)) = (typing ≡ None) × is_among (Bad code span) conditions
