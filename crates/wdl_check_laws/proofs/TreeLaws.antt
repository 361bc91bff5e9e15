-- Typed trees that are made from well typed parts are well typed.
use Rattle.std.proofs.Common.{◌≡◌, ℕ, Bool, true, false, not, ◌&&◌, ◌||◌, List, [], ◌∷◌, Option, Some, None, option_map, option_and_then, refl, ap, sym, ◌∙◌, subst, if◌then◌else◌}
use Rattle.std.proofs.lemmas.Bool.{false≢true, and_from}
use Rattle.std.specs.Str.{bytes_eq}
use Rattle.std.proofs.lemmas.Slice.Eq.{bytes_eq-Decides}
use Rattle.std.proofs.lemmas.Option.{same_Some}
use Rattle.wdl_base.specs.declared.name.Key.{Key}
use Rattle.wdl_value.specs.declared.operator.Func.{Func}
use Rattle.wdl_value.specs.declared.ty.Member.{Member}
use Rattle.wdl_value.specs.declared.ty.StructDef.{StructDef}
use Rattle.wdl_value.specs.declared.ty.Ty.{Ty, Ty-F, out-Ty}
use Rattle.wdl_value.specs.declared.ty.Ty.TheVariants as ty
use Rattle.wdl_value.specs.declared.ty.Ty.TheOpen as type
use Rattle.wdl_value.specs.declared.value.Value.{Value}
use Rattle.wdl_value.specs.declared.value.Value.TheVariants as v
use Rattle.wdl_value.specs.Bare.{is_optional}
use Rattle.wdl_value.specs.Coerces.{coerces}
use Rattle.wdl_value.specs.Fits.{members_of, is_int as in_range}
use Rattle.wdl_value.specs.FunctionTypes.{function_type, is_plain, writes}
use Rattle.wdl_value.specs.Join.{join}
use Rattle.wdl_value.specs.Kinds.{is_bool, is_int}
use Rattle.wdl_value.specs.SameType.{same_type}
use Rattle.wdl_value.proofs.SameTypeLemmas.{same_type-true, same_type-refl}
use Rattle.wdl_ast.specs.declared.expr.BinaryOperator.{BinaryOperator}
use Rattle.wdl_ast.specs.declared.expr.UnaryOperator.{UnaryOperator}
use Rattle.wdl_ast.specs.declared.expr.UnaryOperator.TheVariants as unary
use Rattle.wdl_ast.specs.declared.leaf.Ident.{Ident}
use Rattle.wdl_typed.specs.declared.expr.Choice.{Choice}
use Rattle.wdl_typed.specs.declared.expr.TExpr.{TExpr, TExpr-F, roll-TExpr, map-TExpr, fold-roll-TExpr}
use Rattle.wdl_typed.specs.declared.expr.TExpr.TheOpen as layer
use Rattle.wdl_typed.specs.declared.expr.TExpr.TheVariants as te
use Rattle.wdl_typed.specs.declared.expr.TField.{TField}
use Rattle.wdl_typed.specs.declared.expr.TPair.{TPair}
use Rattle.wdl_typed.specs.declared.expr.TPart.{TPart}
use Rattle.wdl_typed.specs.declared.expr.TPart.TheVariants as tp
use Rattle.wdl_typed.specs.Scope.{type_in}
use Rattle.wdl_typed.specs.Typing as table
use Rattle.wdl_typed.specs.Typing.{Typing, type_step, type_of, when, literal_type, literal_at, all_types, all_same, are_same, at_of, at_type, binary_type, list_type, map_type, is_type, fields_have, exact_args, apply_type, hole_takes, takes_some, keys_in, values_in, fields_in, items_in, member_type}
use Rattle.wdl_check_rules.specs.Scopes.{Scope}
use Rattle.wdl_check_rules.specs.declared.literal_members.MemberValue.{MemberValue}
use Rattle.wdl_check_rules.specs.declared.typed.Typed.{Typed}
use Rattle.wdl_check_rules.specs.Functions.{reads_early}
use Rattle.wdl_check_laws.specs.Laws.{context}
use Rattle.wdl_check_rules.specs.Members.{has_stray, GivenAt, given_of, without, member_value, field, fields_of, struct_with}
use Rattle.wdl_check_rules.specs.Rules.{typing, cast_to, coerced, literal, int_literal, key_of, named, output_named, member_of, item_at, item_of, unary_of, row_of, op_of, by_row, binary_of, condition_of, choose_of, types_of, join_all, cast_all, has_items, list_of, key_types, value_types, cast_rows, keys_join, values_join, plain_key, map_with, map_of, pair_of, cast_args, applied, apply_of, hole_of, strung}
use Rattle.wdl_check_rules.specs.Typed.{both, may_call, call_typed, struct_typed}
use Rattle.wdl_check_laws.proofs.CoercionLaws.{coerces-refl, absent_to_opt, join_left, join_right}
use Rattle.wdl_check_laws.proofs.OperatorLaws.{operating}
use Rattle.wdl_check_laws.proofs.FunctionLaws.{CoerceAll, called}
use Rattle.wdl_base.proofs.Options.{map_parts}

abbrev pub Each : {A : Type 0} → (A → Type 0) → List A → Type 0
Each P [] = Unit {0}
Each P (x ∷ xs) = P x × Each P xs

same_when : (b : Bool) (t : Ty) → b ≡ true → when b t ≡ Some t
same_when b t h = ap (λ (c : Bool). when c t) h

module _ (s : Scope) (p : Bool) where
  abbrev pub Has : Typed → Type 0
  Has x = type_of (context s) x.expr p ≡ Some x.ty

  abbrev pub Fine : Option Typed → Type 0
  Fine o = (x : Typed) → o ≡ Some x → Has x

  pub some_fine : (y : Typed) → Has y → Fine (Some y)
  some_fine y h x e = subst (λ (z : Typed). Has z) (same_Some y x e) h

  pub none_fine : Fine None
  none_fine x e = cc

  if_fine : (b : Bool) (y : Typed) → (b ≡ true → Has y) → Fine (if b then Some y else None)
  if_fine true y h = some_fine y (h refl)
  if_fine false y h = none_fine

  pub and_fine : (f : Typed → Option Typed) (o : Option Typed) → Fine o → ((y : Typed) → Has y → Fine (f y)) → Fine (option_and_then f o)
  and_fine f None h k x e = cc
  and_fine f (Some y) h k x e = k y (h y refl) x e

  -- ---- the type of each form

  of_layer : (e : TExpr) (y : TExpr-F TExpr) → roll-TExpr y ≡ e → type_of (context s) e p ≡ type_step (context s) (map-TExpr TExpr Typing (type_of (context s)) y) p
  of_layer e y is = ap (λ (x : TExpr). type_of (context s) x p) (sym is) ∙ ap (λ (f : Typing). f p) (fold-roll-TExpr Typing (type_step (context s)) y)

  pub cast_has : (x : Typed) (t : Ty) → Has x → coerces x.ty t ≡ true → type_of (context s) (cast_to x t) p ≡ Some t
  cast_has x t h c = by_same (same_type x.ty t) refl
    where
      by_same : (b : Bool) → same_type x.ty t ≡ b → type_of (context s) (if b then x.expr else te.Cast x.expr t) p ≡ Some t
      by_same true e = h ∙ ap Some (same_type-true x.ty t e)
      by_same false e =
          of_layer (te.Cast x.expr t) (layer.Cast x.expr t) (te.rolls-Cast x.expr t)
          ∙ ap (option_and_then (λ u. when (coerces u t) t)) h ∙ same_when (coerces x.ty t) t c

  pub coerced_has : (x : Typed) (t : Ty) (e : TExpr) → Has x → coerced x t ≡ Some e → type_of (context s) e p ≡ Some t
  coerced_has x t e h is = by_test (coerces x.ty t) refl is
    where
      by_test : (b : Bool) → coerces x.ty t ≡ b → (if b then Some (cast_to x t) else None) ≡ Some e → type_of (context s) e p ≡ Some t
      by_test true c is = subst (λ (y : TExpr). type_of (context s) y p ≡ Some t) (same_Some (cast_to x t) e is) (cast_has x t h c)
      by_test false c is = cc

  lit_type : (x : Value) → type_of (context s) (te.Lit x) p ≡ literal_type x
  lit_type x = of_layer (te.Lit x) (layer.Lit x) (te.rolls-Lit x)

  pub bool_has : (b : Bool) → Has (literal (v.Bool b) ty.Bool)
  bool_has b = lit_type (v.Bool b) ∙ ap literal_at (v.outs-Bool b)

  pub absent_has : Has (literal v.Absent ty.Absent)
  absent_has = lit_type v.Absent ∙ ap literal_at v.outs-Absent

  pub str_has : (text : List ℕ) → Has (literal (v.Str text) ty.Str)
  str_has text = lit_type (v.Str text) ∙ ap literal_at (v.outs-Str text)

  pub int_fine : (n : _) → Fine (int_literal n)
  int_fine n = if_fine (in_range n) (literal (v.Int n) ty.Int) (λ h. lit_type (v.Int n) ∙ ap literal_at (v.outs-Int n) ∙ same_when (in_range n) ty.Int h)

  pub named_fine : (key : Key) → Fine (named s.names key)
  named_fine key x e =
      let q = map_parts (λ (t : Ty). typing (te.Get key) t) (type_in s.names key) x e in
      subst (λ (z : Typed). Has z) q.2 (of_layer (te.Get key) (layer.Get key) (te.rolls-Get key) ∙ q.1)

  pub output_fine : (o : Option (List ℕ)) (m : List ℕ) → Fine (output_named s.names o m)
  output_fine None m = none_fine
  output_fine (Some n) m = named_fine (key_of n (Some m))

  pub member_fine : (m : List ℕ) (y : Typed) → Has y → Fine (member_of s.structs m y)
  member_fine m y h x e =
      let q = map_parts (λ (t : Ty). typing (te.Member y.expr m) t) (member_type s.structs m y.ty) x e in
      subst (λ (z : Typed). Has z) q.2 (of_layer (te.Member y.expr m) (layer.Member y.expr m) (te.rolls-Member y.expr m) ∙ ap (option_and_then (member_type s.structs m)) h ∙ q.1)

  -- ---- items

  at_has : (e i : TExpr) (t u w : Ty) → type_of (context s) e p ≡ Some t → type_of (context s) i p ≡ Some u → at_type t u ≡ Some w → type_of (context s) (te.At e i) p ≡ Some w
  at_has e i t u w h k is =
      of_layer (te.At e i) (layer.At e i) (te.rolls-At e i)
      ∙ ap (λ (o : Option Ty). table.both at_type o (type_of (context s) i p)) h ∙ ap (λ (o : Option Ty). table.both at_type (Some t) o) k ∙ is

  item_layer : (y i : Typed) (z : Ty-F Ty) → out-Ty y.ty ≡ z → Has y → Has i → Fine (item_at y.expr i z)
  item_layer y i (type.Array t some) is h k x e =
      if_fine (is_int i.ty) (typing (te.At y.expr i.expr) t) (λ g. at_has y.expr i.expr y.ty i.ty t h k (ap (at_of i.ty) is ∙ same_when (is_int i.ty) t g)) x e
  item_layer y i (type.Map q t) is h k x e =
      let r = map_parts (λ (key : TExpr). typing (te.At y.expr key) t) (coerced i q) x e in
      subst (λ (z : Typed). Has z) r.2 (at_has y.expr r.0 y.ty q t h (coerced_has i q r.0 k r.1) (ap (at_of q) is ∙ same_when (same_type q q) t (same_type-refl q)))
  item_layer y i z is h k x e = cc

  pub item_fine : (y i : Typed) → Has y → Has i → Fine (item_of y i)
  item_fine y i h k = item_layer y i (out-Ty y.ty) refl h k

  -- ---- operators

  pub unary_fine : (o : UnaryOperator) (y : Typed) → Has y → Fine (unary_of o y)
  unary_fine unary.Not y h =
      if_fine (is_bool y.ty) (typing (te.Not y.expr) ty.Bool)
      (λ e. of_layer (te.Not y.expr) (layer.Not y.expr) (te.rolls-Not y.expr) ∙ ap (option_and_then (λ t. when (is_bool t) ty.Bool)) h ∙ same_when (is_bool y.ty) ty.Bool e)
  unary_fine unary.Negate y h =
      if_fine (is_int y.ty) (typing (te.Neg y.expr) ty.Int)
      (λ e. of_layer (te.Neg y.expr) (layer.Neg y.expr) (te.rolls-Neg y.expr) ∙ ap (option_and_then (λ t. when (is_int t) ty.Int)) h ∙ same_when (is_int y.ty) ty.Int e)
  unary_fine unary.Plus y h = if_fine (is_int y.ty) y (λ e. h)

  pub binary_fine : (o : BinaryOperator) (y z : Typed) → Has y → Has z → Fine (binary_of o p y z)
  binary_fine o y z h k x e =
      let q = map_parts (by_row y z) (row_of (op_of o) y.ty z.ty p) x e in
      let r = q.0 in
      let w = operating o p y.ty z.ty r q.1 in
      let a = cast_to y r.1.left in
      let b = cast_to z r.1.right in
      subst (λ (i : Typed). Has i) q.2
      (of_layer (te.Binary r.0 a b) (layer.Binary r.0 a b) (te.rolls-Binary r.0 a b)
      ∙ ap (λ (i : Option Ty). table.both (binary_type r.0 p) i (type_of (context s) b p)) (cast_has y r.1.left h w.0)
      ∙ ap (λ (i : Option Ty). table.both (binary_type r.0 p) (Some r.1.left) i) (cast_has z r.1.right k w.1) ∙ w.2)

  pub choose_fine : (c y z : Typed) (b : TExpr) → condition_of c ≡ Some b → Has c → Has y → Has z → Fine (choose_of b y z)
  choose_fine c y z b is g h k x e =
      let q = map_parts (λ (t : Ty). typing (te.Choose b (cast_to y t) (cast_to z t)) t) (join y.ty z.ty) x e in
      let j = q.0 in
      let l = cast_to y j in
      let r = cast_to z j in
      let d = condition_has is in
      subst (λ (i : Typed). Has i) q.2
      (of_layer (te.Choose b l r) (layer.Choose b l r) (te.rolls-Choose b l r)
      ∙ ap (option_and_then (λ i. table.both (λ t u. when (is_bool i && same_type t u) t) (type_of (context s) l p) (type_of (context s) r p))) d.0
      ∙ ap (λ (i : Option Ty). table.both (λ t u. when (is_bool c.ty && same_type t u) t) i (type_of (context s) r p)) (cast_has y j h (join_left y.ty z.ty j y.ty q.1 (coerces-refl y.ty)))
      ∙ ap (λ (i : Option Ty). table.both (λ t u. when (is_bool c.ty && same_type t u) t) (Some j) i) (cast_has z j k (join_right y.ty z.ty j q.1))
      ∙ same_when (is_bool c.ty && same_type j j) j (and_from _ _ d.1 (same_type-refl j)))
    where
      condition_has : condition_of c ≡ Some b → (type_of (context s) b p ≡ Some c.ty) × (is_bool c.ty ≡ true)
      condition_has is = by_test (is_bool c.ty) is
        where
          by_test : (t : Bool) → (if t then Some c.expr else None) ≡ Some b → (type_of (context s) b p ≡ Some c.ty) × (t ≡ true)
          by_test true is = (subst (λ (i : TExpr). type_of (context s) i p ≡ Some c.ty) (same_Some c.expr b is) g, refl)
          by_test false is = cc

  pub pair_has : (y z : Typed) → Has y → Has z → Has (pair_of y z)
  pair_has y z h k =
      of_layer (te.PairOf y.expr z.expr) (layer.PairOf y.expr z.expr) (te.rolls-PairOf y.expr z.expr)
      ∙ ap (λ (i : Option Ty). table.both (λ t u. Some (ty.Pair t u)) i (type_of (context s) z.expr p)) h ∙ ap (λ (i : Option Ty). table.both (λ t u. Some (ty.Pair t u)) (Some y.ty) i) k

  -- ---- lists

  abbrev listed : TExpr-F Typing → List Typing
  listed (layer.ListOf fs) = fs
  listed x = []

  abbrev list_types : List TExpr → List (Option Ty)
  list_types es = items_in (listed (map-TExpr TExpr Typing (type_of (context s)) (layer.ListOf es))) p

  abbrev repeat : {A : Type 0} → Ty → List A → List Ty
  repeat t [] = []
  repeat t (x ∷ xs) = t ∷ repeat t xs

  all_more : (o : Option Ty) (os : List (Option Ty)) (t : Ty) (ts : List Ty) → o ≡ Some t → all_types os ≡ Some ts → all_types (o ∷ os) ≡ Some (t ∷ ts)
  all_more o os t ts h k =
      ap (option_and_then (λ a. option_and_then (λ as_. Some (a ∷ as_)) (all_types os))) h ∙ ap (option_and_then (λ as_. Some (t ∷ as_))) k

  -- joins take each type to the last join
  abbrev Joined : Ty → Typed → Type 0
  Joined j x = coerces x.ty j ≡ true

  joins : (xs : List Typed) (t j : Ty) → join_all t (types_of xs) ≡ Some j → ((w : Ty) → coerces w t ≡ true → coerces w j ≡ true) × Each (Joined j) xs
  joins [] t j h = ((λ w c. subst (λ (i : Ty). coerces w i ≡ true) (same_Some t j h) c), tt)
  joins (x ∷ xs) t j h = by_join (join t x.ty) refl h (joins xs)
    where
      by_join : (o : Option Ty) → join t x.ty ≡ o → option_and_then (λ k. join_all k (types_of xs)) o ≡ Some j → ((u i : Ty) → join_all u (types_of xs) ≡ Some i → ((w : Ty) → coerces w u ≡ true → coerces w i ≡ true) × Each (Joined i) xs) → ((w : Ty) → coerces w t ≡ true → coerces w j ≡ true) × Each (Joined j) (x ∷ xs)
      by_join None e h f = cc
      by_join (Some k) e h f =
          let q = f k j h in
          ((λ w c. q.0 w (join_left t x.ty k w e c)), (q.0 x.ty (join_right t x.ty k e), q.1))

  cast_types : (xs : List Typed) (t : Ty) → Each Has xs → Each (Joined t) xs → all_types (list_types (cast_all t xs)) ≡ Some (repeat t xs)
  cast_types [] t h k = refl
  cast_types (x ∷ xs) t h k = all_more (type_of (context s) (cast_to x t) p) (list_types (cast_all t xs)) t (repeat t xs) (cast_has x t h.0 k.0) (cast_types xs t h.1 k.1)

  all_repeated : {A : Type 0} (t : Ty) (xs : List A) → all_same t (repeat t xs) ≡ true
  all_repeated t [] = refl
  all_repeated t (x ∷ xs) = and_from _ _ (same_type-refl t) (all_repeated t xs)

  list_is : (xs : List Typed) (t : Ty) → join_all ty.Empty (types_of xs) ≡ Some t → list_type (repeat t xs) ≡ Some (ty.Array t (has_items xs))
  list_is [] t h = ap (λ (i : Ty). Some (ty.Array i false)) (same_Some ty.Empty t h)
  list_is (x ∷ xs) t h = same_when (all_same t (repeat t xs)) (ty.Array t true) (all_repeated t xs)

  pub list_fine : (xs : List Typed) → Each Has xs → Fine (list_of xs)
  list_fine xs h x e =
      let q = map_parts (λ (t : Ty). typing (te.ListOf (cast_all t xs)) (ty.Array t (has_items xs))) (join_all ty.Empty (types_of xs)) x e in
      let t = q.0 in
      subst (λ (i : Typed). Has i) q.2
      (of_layer (te.ListOf (cast_all t xs)) (layer.ListOf (cast_all t xs)) (te.rolls-ListOf (cast_all t xs))
      ∙ ap (option_and_then list_type) (cast_types xs t h (joins xs ty.Empty t q.1).1) ∙ list_is xs t q.1)

  -- ---- maps

  abbrev pub HasRow : TPair Typed → Type 0
  HasRow r = Has r.key × Has r.value

  abbrev rows_listed : TExpr-F Typing → List (TPair Typing)
  rows_listed (layer.MapOf rows) = rows
  rows_listed x = []

  abbrev rows_of : List (TPair TExpr) → List (TPair Typing)
  rows_of rows = rows_listed (map-TExpr TExpr Typing (type_of (context s)) (layer.MapOf rows))

  abbrev keys : List (TPair Typed) → List Typed
  keys [] = []
  keys (r ∷ rows) = r.key ∷ keys rows

  abbrev values : List (TPair Typed) → List Typed
  values [] = []
  values (r ∷ rows) = r.value ∷ values rows

  keys_typed : (rows : List (TPair Typed)) → key_types rows ≡ types_of (keys rows)
  keys_typed [] = refl
  keys_typed (r ∷ rows) = ap (λ (ts : List Ty). r.key.ty ∷ ts) (keys_typed rows)

  values_typed : (rows : List (TPair Typed)) → value_types rows ≡ types_of (values rows)
  values_typed [] = refl
  values_typed (r ∷ rows) = ap (λ (ts : List Ty). r.value.ty ∷ ts) (values_typed rows)

  row_keys : (rows : List (TPair Typed)) (k t : Ty) → Each HasRow rows → Each (Joined k) (keys rows) → all_types (keys_in (rows_of (cast_rows k t rows)) p) ≡ Some (repeat k rows)
  row_keys [] k t h c = refl
  row_keys (r ∷ rows) k t h c = all_more (type_of (context s) (cast_to r.key k) p) (keys_in (rows_of (cast_rows k t rows)) p) k (repeat k rows) (cast_has r.key k h.0.0 c.0) (row_keys rows k t h.1 c.1)

  row_values : (rows : List (TPair Typed)) (k t : Ty) → Each HasRow rows → Each (Joined t) (values rows) → all_types (values_in (rows_of (cast_rows k t rows)) p) ≡ Some (repeat t rows)
  row_values [] k t h c = refl
  row_values (r ∷ rows) k t h c = all_more (type_of (context s) (cast_to r.value t) p) (values_in (rows_of (cast_rows k t rows)) p) t (repeat t rows) (cast_has r.value t h.0.1 c.0) (row_values rows k t h.1 c.1)

  map_is : (rows : List (TPair Typed)) (k t : Ty) → keys_join rows ≡ Some k → values_join rows ≡ Some t → is_plain k ≡ true → map_type (repeat k rows) (repeat t rows) ≡ Some (ty.Map k t)
  map_is [] k t h i c = ap (λ (j : Ty). Some (ty.Map j ty.Empty)) (same_Some ty.Empty k h) ∙ ap (λ (j : Ty). Some (ty.Map k j)) (same_Some ty.Empty t i)
  map_is (r ∷ rows) k t h i c =
      same_when (is_plain k && all_same k (repeat k rows) && all_same t (repeat t rows)) (ty.Map k t)
      (ap (λ (b : Bool). b && all_same k (repeat k rows) && all_same t (repeat t rows)) c ∙ ap (λ (b : Bool). b && all_same t (repeat t rows)) (all_repeated k rows) ∙ all_repeated t rows)

  map_has : (rows : List (TPair Typed)) (k t : Ty) → Each HasRow rows → keys_join rows ≡ Some k → values_join rows ≡ Some t → is_plain k ≡ true → Has (map_with rows k t)
  map_has rows k t h i j c =
      let ks = (joins (keys rows) ty.Empty k (ap (join_all ty.Empty) (sym (keys_typed rows)) ∙ i)).1 in
      let vs = (joins (values rows) ty.Empty t (ap (join_all ty.Empty) (sym (values_typed rows)) ∙ j)).1 in
      let rs = rows_of (cast_rows k t rows) in
      of_layer (te.MapOf (cast_rows k t rows)) (layer.MapOf (cast_rows k t rows)) (te.rolls-MapOf (cast_rows k t rows))
      ∙ ap (option_and_then (λ ks. option_and_then (λ ts. map_type ks ts) (all_types (values_in rs p)))) (row_keys rows k t h ks)
      ∙ ap (option_and_then (λ ts. map_type (repeat k rows) ts)) (row_values rows k t h vs) ∙ map_is rows k t i j c

  pub map_fine : (rows : List (TPair Typed)) → Each HasRow rows → Fine (map_of rows)
  map_fine rows h x e = by_keys (keys_join rows) (values_join rows) refl refl e
    where
      by_plain : (k : Ty) (o : Option Ty) (b : Bool) → keys_join rows ≡ Some k → values_join rows ≡ o → is_plain k ≡ b → option_and_then (λ k. option_map (λ t. map_with rows k t) o) (if b then Some k else None) ≡ Some x → Has x
      by_plain k o false i j c e = cc
      by_plain k None true i j c e = cc
      by_plain k (Some t) true i j c e = some_fine (map_with rows k t) (map_has rows k t h i j c) x e

      by_keys : (q o : Option Ty) → keys_join rows ≡ q → values_join rows ≡ o → option_and_then (λ k. option_map (λ t. map_with rows k t) o) (option_and_then plain_key q) ≡ Some x → Has x
      by_keys None o i j e = cc
      by_keys (Some k) o i j e = by_plain k o (is_plain k) i j refl e

  -- ---- calls

  abbrev args_listed : TExpr-F Typing → List Typing
  args_listed (layer.Apply f fs) = fs
  args_listed x = []

  abbrev arg_types : Func → List TExpr → List (Option Ty)
  arg_types f es = items_in (args_listed (map-TExpr TExpr Typing (type_of (context s)) (layer.Apply f es))) p

  args_typed : (f : Func) (ts : List Ty) (xs : List Typed) → Each Has xs → CoerceAll (types_of xs) ts → all_types (arg_types f (cast_args ts xs)) ≡ Some ts
  args_typed f [] [] h c = refl
  args_typed f [] (x ∷ xs) h c = absurd c
  args_typed f (t ∷ ts) [] h c = absurd c
  args_typed f (t ∷ ts) (x ∷ xs) h c = all_more (type_of (context s) (cast_to x t) p) (arg_types f (cast_args ts xs)) t ts (cast_has x t h.0 c.0) (args_typed f ts xs h.1 c.1)

  are_same-refl : (ts : List Ty) → are_same ts ts ≡ true
  are_same-refl [] = refl
  are_same-refl (t ∷ ts) = and_from _ _ (same_type-refl t) (are_same-refl ts)

  may_be_called : (w r : Bool) → (not w && not r) ≡ true → (w || r) ≡ false
  may_be_called false false h = refl
  may_be_called true r h = absurd (false≢true h)
  may_be_called false true h = absurd (false≢true h)

  apply_fine : (f : Func) (xs : List Typed) → may_call s.outputs f ≡ true → Each Has xs → Fine (apply_of f xs)
  apply_fine f xs m h x e =
      let q = map_parts (applied f xs) (function_type f (types_of xs)) x e in
      let row = q.0 in
      let c = called f (types_of xs) row q.1 in
      let es = cast_args row.args xs in
      subst (λ (i : Typed). Has i) q.2
      (of_layer (te.Apply f es) (layer.Apply f es) (te.rolls-Apply f es)
      ∙ ap (option_and_then (apply_type s.outputs f)) (args_typed f row.args xs h c.0)
      ∙ ap (λ (b : Bool). if b then None else option_and_then (exact_args row.args) (function_type f row.args)) (may_be_called (writes f) (reads_early s.outputs f) m)
      ∙ ap (option_and_then (exact_args row.args)) c.1 ∙ same_when (are_same row.args row.args) row.result (are_same-refl row.args))

  pub call_fine : (f : Option Func) (o : Option (List Typed)) → ((xs : List Typed) → o ≡ Some xs → Each Has xs) → Fine (call_typed s f o)
  call_fine None o h x e = cc
  call_fine (Some f) o h x e = by_test (may_call s.outputs f) refl e
    where
      by_args : (q : Option (List Typed)) → o ≡ q → may_call s.outputs f ≡ true → option_and_then (apply_of f) q ≡ Some x → Has x
      by_args None i m e = cc
      by_args (Some xs) i m e = apply_fine f xs m (h xs i) x e

      by_test : (b : Bool) → may_call s.outputs f ≡ b → (if b then option_and_then (apply_of f) o else None) ≡ Some x → Has x
      by_test true m e = by_args o refl m e
      by_test false m e = cc

  -- ---- struct literals

  abbrev GivenFine : GivenAt → Type 0
  GivenFine gs = (q : List ℕ) (g : MemberValue) → gs q ≡ Some g → Has g.value

  abbrev pub HasGiven : MemberValue → Type 0
  HasGiven g = Has g.value

  given_fine : (gs : List MemberValue) → Each HasGiven gs → GivenFine (given_of gs)
  given_fine [] h q g e = cc
  given_fine (f ∷ gs) h q g e = by_head (bytes_eq f.name q) e (given_fine gs h.1 q g)
    where
      by_head : (b : Bool) → (if b then Some f else given_of gs q) ≡ Some g → (given_of gs q ≡ Some g → Has g.value) → Has g.value
      by_head true e k = subst (λ (i : MemberValue). Has i.value) (same_Some f g e) h.0
      by_head false e k = k e

  without_fine : (gs : GivenAt) (name : List ℕ) → GivenFine gs → GivenFine (without gs name)
  without_fine gs name h q g e = by_test (bytes_eq name q) e
    where
      by_test : (b : Bool) → (if b then None else gs q) ≡ Some g → Has g.value
      by_test true e = cc
      by_test false e = h q g e

  value_has : (t : Ty) (o : Option MemberValue) (e : TExpr) → ((g : MemberValue) → o ≡ Some g → Has g.value) → member_value t o ≡ Some e → type_of (context s) e p ≡ Some t
  value_has t (Some g) e h is = coerced_has g.value t e (h g refl) is
  value_has t None e h is = by_test (is_optional (out-Ty t)) refl is
    where
      by_test : (b : Bool) → is_optional (out-Ty t) ≡ b → (if b then Some (cast_to (literal v.Absent ty.Absent) t) else None) ≡ Some e → type_of (context s) e p ≡ Some t
      by_test true o is = subst (λ (y : TExpr). type_of (context s) y p ≡ Some t) (same_Some (cast_to (literal v.Absent ty.Absent) t) e is) (cast_has (literal v.Absent ty.Absent) t absent_has (absent_to_opt t o))
      by_test false o is = cc

  abbrev fields_listed : TExpr-F Typing → List (TField Typing)
  fields_listed (layer.StructOf name fs) = fs
  fields_listed x = []

  abbrev field_types : List ℕ → List (TField TExpr) → List (TField (Option Ty))
  field_types name fs = fields_in (fields_listed (map-TExpr TExpr Typing (type_of (context s)) (layer.StructOf name fs))) p

  fields_typed : (name : List ℕ) (ms : List Member) (gs : GivenAt) (fs : List (TField TExpr)) → GivenFine gs → fields_of ms gs ≡ Some fs → fields_have (field_types name fs) ms ≡ true
  fields_typed name [] gs fs h e = subst (λ (i : List (TField TExpr)). fields_have (field_types name i) [] ≡ true) (same_Some [] fs e) refl
  fields_typed name (m ∷ ms) gs fs h e =
      by_value (member_value m.ty (gs m.name)) (fields_of ms (without gs m.name)) refl refl e (λ is k. fields_typed name ms (without gs m.name) is (without_fine gs m.name h) k)
    where
      by_value : (o : Option TExpr) (u : Option (List (TField TExpr))) → member_value m.ty (gs m.name) ≡ o → fields_of ms (without gs m.name) ≡ u → option_and_then (λ e. option_map (λ fields. field m.name e ∷ fields) u) o ≡ Some fs → ((is : List (TField TExpr)) → fields_of ms (without gs m.name) ≡ Some is → fields_have (field_types name is) ms ≡ true) → fields_have (field_types name fs) (m ∷ ms) ≡ true
      by_value None u i j e f = cc
      by_value (Some x) None i j e f = cc
      by_value (Some x) (Some more) i j e f =
          subst (λ (z : List (TField TExpr)). fields_have (field_types name z) (m ∷ ms) ≡ true) (same_Some (field m.name x ∷ more) fs e)
          (ap (λ (b : Bool). b && is_type (type_of (context s) x p) m.ty && fields_have (field_types name more) ms) ((bytes_eq-Decides m.name m.name).1 refl)
          ∙ ap (λ (t : Option Ty). is_type t m.ty && fields_have (field_types name more) ms) (value_has m.ty (gs m.name) x (λ g. h m.name g) i)
          ∙ ap (λ (b : Bool). b && fields_have (field_types name more) ms) (same_type-refl m.ty) ∙ f more j)

  struct_has : (name : List ℕ) (ms : List Member) (fs : List (TField TExpr)) → members_of s.structs name ≡ Some ms → fields_have (field_types name fs) ms ≡ true → Has (struct_with name fs)
  struct_has name ms fs is h =
      of_layer (te.StructOf name fs) (layer.StructOf name fs) (te.rolls-StructOf name fs)
      ∙ ap (option_and_then (λ ms. when (fields_have (field_types name fs) ms) (ty.Struct name))) is ∙ same_when (fields_have (field_types name fs) ms) (ty.Struct name) h

  pub struct_fine : (def : Option StructDef) (names : List Ident) (o : Option (List MemberValue)) → ((d : StructDef) → def ≡ Some d → members_of s.structs d.name ≡ Some d.members)
      → ((gs : List MemberValue) → o ≡ Some gs → Each HasGiven gs) → Fine (struct_typed def names o)
  struct_fine None names o is h x e = cc
  struct_fine (Some d) names o is h x e = by_stray (has_stray d.members [] names) e
    where
      by_given : (q : Option (List MemberValue)) → o ≡ q → option_map (struct_with d.name) (option_and_then (λ gs. fields_of d.members (given_of gs)) q) ≡ Some x → Has x
      by_given None j e = cc
      by_given (Some gs) j e =
          let r = map_parts (struct_with d.name) (fields_of d.members (given_of gs)) x e in
          subst (λ (z : Typed). Has z) r.2 (struct_has d.name d.members r.0 (is d refl) (fields_typed d.name d.members (given_of gs) r.0 (given_fine gs (h gs j)) r.1))

      by_stray : (b : Bool) → (if b then None else option_map (struct_with d.name) (option_and_then (λ gs. fields_of d.members (given_of gs)) o)) ≡ Some x → Has x
      by_stray true e = cc
      by_stray false e = by_given o refl e

  -- ---- strings

  abbrev parts_listed : TExpr-F Typing → List (TPart Typing)
  parts_listed (layer.Strung ps) = ps
  parts_listed x = []

  abbrev parts_of : List (TPart TExpr) → List (TPart Typing)
  parts_of qs = parts_listed (map-TExpr TExpr Typing (type_of (context s)) (layer.Strung qs))

  -- a placeholder takes the type that its expression has there
  abbrev pub PartFine : TPart TExpr → Type 0
  PartFine (tp.Chars text) = Unit {0}
  PartFine (tp.Hole h) = takes_some h.choice (type_of (context s) h.expr true) ≡ true

  pub hole_fine : (c : Choice) (y : Typed) (q : TPart TExpr) → type_of (context s) y.expr true ≡ Some y.ty → hole_of c y ≡ Some q → PartFine q
  hole_fine c y q h e = by_test (hole_takes c y.ty) refl e
    where
      by_test : (b : Bool) → hole_takes c y.ty ≡ b → (if b then Some (tp.Hole (record { expr = y.expr; choice = c })) else None) ≡ Some q → PartFine q
      by_test true k e = subst (λ (i : TPart TExpr). PartFine i) (same_Some (tp.Hole (record { expr = y.expr; choice = c })) q e) (ap (takes_some c) h ∙ k)
      by_test false k e = cc

  parts_fine : (qs : List (TPart TExpr)) → Each PartFine qs → table.parts_typed (parts_of qs) ≡ true
  parts_fine [] h = refl
  parts_fine (tp.Chars text ∷ qs) h = parts_fine qs h.1
  parts_fine (tp.Hole k ∷ qs) h = and_from _ _ h.0 (parts_fine qs h.1)

  pub strung_has : (qs : List (TPart TExpr)) → Each PartFine qs → Has (strung qs)
  strung_has qs h = of_layer (te.Strung qs) (layer.Strung qs) (te.rolls-Strung qs) ∙ same_when (table.parts_typed (parts_of qs)) ty.Str (parts_fine qs h)

  -- ---- two parts

  pub both_fine : (f : Typed → Typed → Option Typed) (o u : Option Typed) → Fine o → Fine u → ((y z : Typed) → Has y → Has z → Fine (f y z)) → Fine (both f o u)
  both_fine f None u h k g x e = cc
  both_fine f (Some y) None h k g x e = cc
  both_fine f (Some y) (Some z) h k g x e = g y z (h y refl) (k z refl) x e
