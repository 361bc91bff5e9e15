-- The rule of each form agrees with its typing and its conditions.
use Rattle.std.proofs.Common.{◌≡◌, ℕ, Bool, true, false, not, ◌&&◌, List, [], ◌∷◌, ◌++◌, Option, Some, None, Ok, Err, option_map, option_and_then, inl, refl, ap, sym, subst}
use Rattle.std.specs.Prelude.{is_none, ◌||◌, if◌then◌else◌}
use Rattle.std.proofs.lemmas.Bool.{false≢true}
use Rattle.wdl_base.specs.declared.span.Span.{Span}
use Rattle.wdl_value.specs.declared.operator.Func.{Func}
use Rattle.wdl_value.specs.declared.ty.Member.{Member}
use Rattle.wdl_value.specs.declared.ty.StructDef.{StructDef}
use Rattle.wdl_value.specs.declared.ty.Ty.{Ty}
use Rattle.wdl_value.specs.FunctionTypes.{writes}
use Rattle.wdl_value.specs.Join.{join}
use Rattle.wdl_ast.specs.declared.leaf.Ident.{Ident}
use Rattle.wdl_typed.specs.declared.expr.TExpr.{TExpr}
use Rattle.wdl_typed.specs.declared.expr.TExpr.TheVariants as te
use Rattle.wdl_typed.specs.declared.expr.TField.{TField}
use Rattle.wdl_typed.specs.declared.expr.TPair.{TPair}
use Rattle.wdl_typed.specs.declared.scope.Bound.{Bound}
use Rattle.wdl_typed.specs.Scope.{type_in}
use Rattle.wdl_typed.specs.Lists.{has_name}
use Rattle.wdl_check_rules.specs.declared.fault.CheckFault.TheVariants.{Bad}
use Rattle.wdl_check_rules.specs.declared.literal_members.MemberValue.{MemberValue}
use Rattle.wdl_check_rules.specs.Scopes.{Scope}
use Rattle.wdl_check_rules.specs.declared.typed.Typed.{Typed}
use Rattle.wdl_check_rules.specs.Checked.{Checked, then_, or_bad, bad, name_checked, condition_checked, if_checked, base_checked, member_checked, callee_checked, call_checked, rows_checked, first_stray, no_stray, value_checked, fields_checked, struct_with_checked, struct_checked}
use Rattle.wdl_check_rules.specs.Conditions.{Conditions, is_among, at, where_, unless, given_that, name_code, name_conditions, is_call_alone, stray_conditions, member_conditions, fields_conditions, function_conditions, argument_conditions, struct_conditions, map_conditions}
use Rattle.wdl_check_rules.specs.Functions.{func_of, reads_early}
use Rattle.wdl_check_rules.specs.Members.{is_stray, has_stray, left_out, GivenAt, given_of, without, member_value, field, fields_of, struct_with}
use Rattle.wdl_check_rules.specs.Rules.{typing, named, key_of, or_else, member_of, condition_of, choose_of, cast_to, keys_join, values_join, plain_key, map_with, map_of, apply_of, coerced}
use Rattle.wdl_check_rules.specs.Typed.{both, call_typed, struct_typed}
use Rattle.wdl_check_laws.proofs.Agreeing.{Agrees, among_left, among_right, more_right, or_bad_agrees, map_or_bad, then_agrees, bind_agrees, two_agree, map_agrees}

-- ---- names and members

pub name_agrees : (names : List Bound) (calls : List (List ℕ)) (n : Ident) → Agrees (name_checked names calls n) (named names (key_of n.name None)) (name_conditions names calls n)
name_agrees names calls n = map_or_bad (name_code calls n.name) n.span (λ (t : Ty). typing (te.Get (key_of n.name None)) t) (type_in names (key_of n.name None))

pub member_agrees : (s : Scope) (o : Option Typed) (name : Option (List ℕ)) (n : Ident) (span : Span) (x : Checked Typed) (t : Option Typed) (fs : Conditions) → (is_call_alone s.names s.calls name ≡ true → t ≡ None) → Agrees x t fs → Agrees (member_checked s o name n span x) (or_else o (option_and_then (member_of s.structs n.name) t)) (unless o (if is_call_alone s.names s.calls name then at 301 span else fs ++ given_that t (λ u. unless (member_of s.structs n.name u) (at 306 n.span))))
member_agrees s (Some u) name n span x t fs a e = refl
member_agrees s None name n span x t fs a e = by_alone (is_call_alone s.names s.calls name) a
  where
    by_alone : (b : Bool) → (b ≡ true → t ≡ None) → Agrees (base_checked s b n span x) (option_and_then (member_of s.structs n.name) t) (if b then at 301 span else fs ++ given_that t (λ u. unless (member_of s.structs n.name u) (at 306 n.span)))
    by_alone true a = (ap (option_and_then (member_of s.structs n.name)) (a refl), inl refl)
    by_alone false a = bind_agrees x t fs (λ u. or_bad 306 n.span (member_of s.structs n.name u)) (member_of s.structs n.name) (λ u. unless (member_of s.structs n.name u) (at 306 n.span)) e (λ u. or_bad_agrees 306 n.span (member_of s.structs n.name u))

-- the name of a call alone stands for no value
pub alone_is_none : (names : List Bound) (calls : List (List ℕ)) (x : List ℕ) → is_call_alone names calls (Some x) ≡ true → named names (key_of x None) ≡ None
alone_is_none names calls x h = by_type (type_in names (key_of x None)) h
  where
    by_type : (t : Option Ty) → (is_none t && has_name x calls) ≡ true → option_map (λ (u : Ty). typing (te.Get (key_of x None)) u) t ≡ None
    by_type None h = refl
    by_type (Some t) h = absurd (false≢true h)

-- ---- `if`

pub if_agrees : (place span : Span) (c a r : Checked Typed) (b x y : Option Typed) (fs gs hs : Conditions) → Agrees c b fs → Agrees a x gs → Agrees r y hs → Agrees (if_checked span (condition_checked place c) a r) (option_and_then (λ e. both (choose_of e) x y) (option_and_then condition_of b)) ((fs ++ given_that b (λ t. unless (condition_of t) (at 304 place))) ++ (gs ++ (hs ++ given_that x (λ t. given_that y (λ u. unless (join t.ty u.ty) (at 310 span))))))
if_agrees place span c a r b x y fs gs hs e d k =
    then_agrees (condition_checked place c) (option_and_then condition_of b) _ _ (λ e. then_ a (λ t. then_ r (λ u. or_bad 310 span (choose_of e t u)))) (λ e. both (choose_of e) x y)
    (bind_agrees c b fs (λ t. or_bad 304 place (condition_of t)) condition_of (λ t. unless (condition_of t) (at 304 place)) e (λ t. or_bad_agrees 304 place (condition_of t)))
    (λ e is. two_agree a r x y gs hs (λ t u. or_bad 310 span (choose_of e t u)) (choose_of e) (λ t u. unless (join t.ty u.ty) (at 310 span)) d k
    (λ t u. map_or_bad 310 span (λ (j : Ty). typing (te.Choose e (cast_to t j) (cast_to u j)) j) (join t.ty u.ty)))

-- ---- calls

pub call_agrees : (s : Scope) (n : Ident) (span : Span) (xs : Checked (List Typed)) (ts : Option (List Typed)) (fs : Conditions) → Agrees xs ts fs → Agrees (call_checked s n span xs) (call_typed s (func_of n.name) ts) (function_conditions s.outputs (func_of n.name) n.span ++ (fs ++ argument_conditions (func_of n.name) ts span))
call_agrees s n span xs ts fs e = by_function (func_of n.name)
  where
    by_kind : (f : Func) (w r : Bool) → Agrees (then_ (if w then bad 312 n.span else (if r then bad 309 n.span else Ok f)) (λ g. then_ xs (λ us. or_bad 305 span (apply_of g us)))) (if not w && not r then option_and_then (apply_of f) ts else None) ((where_ w (at 312 n.span) ++ where_ r (at 309 n.span)) ++ (fs ++ given_that ts (λ us. unless (apply_of f us) (at 305 span))))
    by_kind f true r = (refl, inl refl)
    by_kind f false true = (refl, inl refl)
    by_kind f false false = bind_agrees xs ts fs (λ us. or_bad 305 span (apply_of f us)) (apply_of f) (λ us. unless (apply_of f us) (at 305 span)) e (λ us. or_bad_agrees 305 span (apply_of f us))

    by_function : (f : Option Func) → Agrees (then_ (callee_checked s.outputs n.span f) (λ g. then_ xs (λ us. or_bad 305 span (apply_of g us)))) (call_typed s f ts) (function_conditions s.outputs f n.span ++ (fs ++ argument_conditions f ts span))
    by_function None = (refl, inl refl)
    by_function (Some f) = by_kind f (writes f) (reads_early s.outputs f)

-- ---- map literals

pub rows_agree : (span : Span) (rows : List (TPair Typed)) → Agrees (rows_checked span rows) (map_of rows) (map_conditions span rows)
rows_agree span rows = by_keys (keys_join rows) (values_join rows)
  where
    by_values : (k : Ty) (v : Option Ty) → Agrees (then_ (or_bad 310 span v) (λ t. Ok (map_with rows k t))) (option_map (λ t. map_with rows k t) v) (unless v (at 310 span))
    by_values k None = (refl, inl refl)
    by_values k (Some t) = refl

    by_plain : (p v : Option Ty) → Agrees (then_ (or_bad 329 span p) (λ k. then_ (or_bad 310 span v) (λ t. Ok (map_with rows k t)))) (option_and_then (λ k. option_map (λ t. map_with rows k t) v) p) (unless p (at 329 span) ++ unless v (at 310 span))
    by_plain None v = (refl, inl refl)
    by_plain (Some k) v = by_values k v

    by_keys : (o v : Option Ty) → Agrees (then_ (or_bad 310 span o) (λ k. then_ (or_bad 329 span (plain_key k)) (λ k. then_ (or_bad 310 span v) (λ t. Ok (map_with rows k t))))) (option_and_then (λ k. option_map (λ t. map_with rows k t) v) (option_and_then plain_key o)) (unless o (at 310 span) ++ (given_that o (λ k. unless (plain_key k) (at 329 span)) ++ unless v (at 310 span)))
    by_keys None v = (refl, inl refl)
    by_keys (Some k) v = by_plain (plain_key k) v

-- ---- struct literals

abbrev Strays : Option Span → Bool → Conditions → Type 0
Strays None b fs = b ≡ false
Strays (Some a) b fs = (b ≡ true) × is_among (Bad 310 a) fs

strays : (ms : List Member) (before ns : List Ident) → Strays (first_stray ms before ns) (has_stray ms before ns) (stray_conditions ms before ns)
strays ms before [] = refl
strays ms before (n ∷ ns) = by_first (is_stray ms before n.name) (strays ms (before ++ n ∷ []) ns)
  where
    by_first : (b : Bool) → Strays (first_stray ms (before ++ n ∷ []) ns) (has_stray ms (before ++ n ∷ []) ns) (stray_conditions ms (before ++ n ∷ []) ns) → Strays (if b then Some n.span else first_stray ms (before ++ n ∷ []) ns) (b || has_stray ms (before ++ n ∷ []) ns) (where_ b (at 310 n.span) ++ stray_conditions ms (before ++ n ∷ []) ns)
    by_first true h = (refl, inl refl)
    by_first false h = h

value_agrees : (span : Span) (t : Ty) (g : Option MemberValue) → Agrees (value_checked span t g) (member_value t g) (member_conditions span t g)
value_agrees span t None = or_bad_agrees 310 span (left_out t)
value_agrees span t (Some g) = or_bad_agrees 303 g.place (coerced g.value t)

pub fields_agree : (span : Span) (ms : List Member) (gs : GivenAt) → Agrees (fields_checked span ms gs) (fields_of ms gs) (fields_conditions span ms gs)
fields_agree span [] gs = refl
fields_agree span (m ∷ ms) gs =
    let rest = without gs m.name in
    then_agrees (value_checked span m.ty (gs m.name)) (member_value m.ty (gs m.name)) (member_conditions span m.ty (gs m.name)) (fields_conditions span ms rest)
    (λ e. then_ (fields_checked span ms rest) (λ fs. Ok (field m.name e ∷ fs))) (λ e. option_map (λ fs. field m.name e ∷ fs) (fields_of ms rest))
    (value_agrees span m.ty (gs m.name))
    (λ e is. map_agrees (fields_checked span ms rest) (fields_of ms rest) (fields_conditions span ms rest) (λ (fs : List (TField TExpr)). field m.name e ∷ fs) (fields_agree span ms rest))

pub struct_agrees : (span : Span) (def : Option StructDef) (names : List Ident) (x : Checked (List MemberValue)) (gs : Option (List MemberValue)) (fs : Conditions) → Agrees x gs fs → Agrees (struct_checked span def names x) (struct_typed def names gs) (fs ++ struct_conditions span def names gs)
struct_agrees span None names x gs fs e = (refl, among_right (Bad 329 span) fs (at 329 span) (inl refl))
struct_agrees span (Some d) names x gs fs e = by_strays (first_stray d.members [] names) (has_stray d.members [] names) (stray_conditions d.members [] names) (strays d.members [] names)
  where
    by_outcome : (x : Checked (List MemberValue)) (gs : Option (List MemberValue)) (hs : Conditions) → Agrees x gs fs → Agrees (then_ x (struct_with_checked span d)) (option_map (struct_with d.name) (option_and_then (λ gs. fields_of d.members (given_of gs)) gs)) (fs ++ (hs ++ given_that gs (λ gs. fields_conditions span d.members (given_of gs))))
    by_outcome (Ok a) gs hs e =
        subst (λ (z : Option (List MemberValue)). Agrees (struct_with_checked span d a) (option_map (struct_with d.name) (option_and_then (λ gs. fields_of d.members (given_of gs)) z)) (fs ++ (hs ++ given_that z (λ gs. fields_conditions span d.members (given_of gs))))) (sym e)
        (more_right (struct_with_checked span d a) (option_map (struct_with d.name) (fields_of d.members (given_of a))) fs (hs ++ fields_conditions span d.members (given_of a))
        (more_right (struct_with_checked span d a) (option_map (struct_with d.name) (fields_of d.members (given_of a))) hs (fields_conditions span d.members (given_of a))
        (map_agrees (fields_checked span d.members (given_of a)) (fields_of d.members (given_of a)) (fields_conditions span d.members (given_of a)) (struct_with d.name) (fields_agree span d.members (given_of a)))))
    by_outcome (Err f) gs hs e = (ap (λ (z : Option (List MemberValue)). option_map (struct_with d.name) (option_and_then (λ gs. fields_of d.members (given_of gs)) z)) e.0, among_left f fs _ e.1)

    by_strays : (a : Option Span) (b : Bool) (hs : Conditions) → Strays a b hs → Agrees (no_stray a (then_ x (struct_with_checked span d))) (if b then None else option_map (struct_with d.name) (option_and_then (λ gs. fields_of d.members (given_of gs)) gs)) (fs ++ (hs ++ given_that gs (λ gs. fields_conditions span d.members (given_of gs))))
    by_strays (Some a) b hs h =
        (ap (λ (z : Bool). if z then None else option_map (struct_with d.name) (option_and_then (λ gs. fields_of d.members (given_of gs)) gs)) h.0, among_right (Bad 310 a) fs _ (among_left (Bad 310 a) hs _ h.1))
    by_strays None b hs h =
        subst (λ (z : Bool). Agrees (then_ x (struct_with_checked span d)) (if z then None else option_map (struct_with d.name) (option_and_then (λ gs. fields_of d.members (given_of gs)) gs)) (fs ++ (hs ++ given_that gs (λ gs. fields_conditions span d.members (given_of gs))))) (sym h) (by_outcome x gs hs e)
