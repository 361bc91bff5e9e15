-- Each name of a well-typed expression has a type where the expression stands.
use Rattle.std.proofs.Common.{◌≡◌, Bool, true, false, cond, ◌&&◌, List, [], ◌∷◌, ◌++◌, map, Option, Some, None, option_and_then, sym, ap, ◌∙◌, subst, refl}
use Rattle.std.specs.List.{list_all}
use Rattle.std.proofs.lemmas.Bool.{false≢true, and_from, and_parts}
use Rattle.std.proofs.lemmas.List.Folds.{list_all-append}
use Rattle.wdl_base.specs.declared.name.Key.{Key}
use Rattle.wdl_value.specs.declared.ty.Member.{Member}
use Rattle.wdl_value.specs.declared.ty.Ty.{Ty}
use Rattle.wdl_value.specs.declared.ty.Ty.TheVariants as ty
use Rattle.wdl_value.specs.Coerces.{coerces}
use Rattle.wdl_value.specs.Fits.{members_of}
use Rattle.wdl_value.specs.Kinds.{is_bool, is_int}
use Rattle.wdl_value.specs.SameType.{same_type}
use Rattle.wdl_typed.specs.declared.expr.Choice.{Choice}
use Rattle.wdl_typed.specs.declared.expr.TExpr.{TExpr, TExpr-F, fold-roll-TExpr, ind-TExpr, map-TExpr, roll-TExpr}
use Rattle.wdl_typed.specs.declared.expr.TExpr.TheOpen as layer
use Rattle.wdl_typed.specs.declared.expr.TField.{TField}
use Rattle.wdl_typed.specs.declared.expr.TPair.{TPair}
use Rattle.wdl_typed.specs.declared.expr.TPart.{TPart}
use Rattle.wdl_typed.specs.declared.expr.TPart.TheVariants as part
use Rattle.wdl_typed.specs.KnownTypes.{is_some}
use Rattle.wdl_typed.specs.Scope.{all_names, field_names, names_of, names_step, part_names, row_names, type_in}
use Rattle.wdl_typed.specs.Typing.{Context, Typing, all_types, apply_type, at_type, binary_type, both, fields_have, fields_in, is_type, items_in, keys_in, list_type, map_type, member_type, parts_typed, takes_some, type_of, type_step, values_in, when}
use Rattle.references.specs.Names.{layer_parts}
use Rattle.wdl_base.proofs.Options.{then_parts}

-- ---- what comes of an option

pub when_true : {A : Type 0} (t : Bool) (a w : A) → (let o : Option A = cond t (Some a) None in o ≡ Some w) → t ≡ true
when_true true a w h = refl
when_true false a w h = absurd (cc)

pub some_typed : (o : Option Ty) (t : Ty) → is_type o t ≡ true → (u : Ty) × (o ≡ Some u)
some_typed None t h = absurd (false≢true h)
some_typed (Some u) t h = (u, refl)

module _ (c : Context) where
  abbrev has_type : Key → Bool
  has_type k = is_some (type_in c.names k)

  -- These names have types.
  abbrev pub AreBound : List Key → Type 0
  AreBound keys = list_all has_type keys ≡ true

  bound_both : (xs ys : List Key) → AreBound xs → AreBound ys → AreBound (xs ++ ys)
  bound_both xs ys h j = list_all-append has_type xs ys ∙ and_from (list_all has_type xs) (list_all has_type ys) h j

  abbrev Holds : TExpr → Type 0
  Holds e = (p : Bool) (t : Ty) → type_of c e p ≡ Some t → AreBound (names_of e)

  abbrev Known : Type 0
  Known = (e : TExpr) × Holds e

  abbrev first : Known → TExpr
  first k = k.0

  abbrev plain : TExpr-F Known → TExpr-F TExpr
  plain = map-TExpr Known TExpr first

  abbrev rows : {A B : Type 0} → (A → B) → List (TPair A) → List (TPair B)
  rows f = map (λ r. record { key = f r.key; value = f r.value })

  abbrev fields : {A B : Type 0} → (A → B) → List (TField A) → List (TField B)
  fields f = map (λ r. record { name = r.name; value = f r.value })

  abbrev typing : TExpr → Typing
  typing = type_of c

  two : (j k : Known) (p : Bool) (f : Ty → Ty → Option Ty) (t : Ty) → both f (typing j.0 p) (typing k.0 p) ≡ Some t → AreBound (names_of j.0 ++ names_of k.0)
  two j k p f t h =
      let a = then_parts (λ x. option_and_then (λ y. f x y) (typing k.0 p)) (typing j.0 p) t h in
      let b = then_parts (λ y. f a.0 y) (typing k.0 p) t a.2 in
      bound_both (names_of j.0) (names_of k.0) (j.1 p a.0 a.1) (k.1 p b.0 b.1)

  all_bound : (ks : List Known) (p : Bool) (ts : List Ty) → all_types (items_in (map typing (map first ks)) p) ≡ Some ts → AreBound (all_names (map names_of (map first ks)))
  all_bound [] p ts h = refl
  all_bound (k ∷ ks) p ts h =
      let rest = all_types (items_in (map typing (map first ks)) p) in
      let a = then_parts (λ (t : Ty). option_and_then (λ us. Some (t ∷ us)) rest) (typing k.0 p) ts h in
      let b = then_parts (λ us. Some (a.0 ∷ us)) rest ts a.2 in
      bound_both (names_of k.0) (all_names (map names_of (map first ks))) (k.1 p a.0 a.1) (all_bound ks p b.0 b.1)

  rows_bound : (ks : List (TPair Known)) (p : Bool) (us ts : List Ty) → all_types (keys_in (rows typing (rows first ks)) p) ≡ Some us → all_types (values_in (rows typing (rows first ks)) p) ≡ Some ts
      → AreBound (row_names (rows names_of (rows first ks)))
  rows_bound [] p us ts h j = refl
  rows_bound (k ∷ ks) p us ts h j =
      let keys = all_types (keys_in (rows typing (rows first ks)) p) in
      let values = all_types (values_in (rows typing (rows first ks)) p) in
      let a = then_parts (λ (t : Ty). option_and_then (λ zs. Some (t ∷ zs)) keys) (typing k.key.0 p) us h in
      let b = then_parts (λ zs. Some (a.0 ∷ zs)) keys us a.2 in
      let d = then_parts (λ (t : Ty). option_and_then (λ zs. Some (t ∷ zs)) values) (typing k.value.0 p) ts j in
      let e = then_parts (λ zs. Some (d.0 ∷ zs)) values ts d.2 in
      bound_both (names_of k.key.0 ++ names_of k.value.0) (row_names (rows names_of (rows first ks)))
      (bound_both (names_of k.key.0) (names_of k.value.0) (k.key.1 p a.0 a.1) (k.value.1 p d.0 d.1)) (rows_bound ks p b.0 e.0 b.1 e.1)

  fields_bound : (ks : List (TField Known)) (p : Bool) (ms : List Member) → fields_have (fields_in (fields typing (fields first ks)) p) ms ≡ true → AreBound (field_names (fields names_of (fields first ks)))
  fields_bound [] p ms h = refl
  fields_bound (k ∷ ks) p [] h = absurd (false≢true h)
  fields_bound (k ∷ ks) p (m ∷ ms) h =
      let a = and_parts _ _ h in
      let b = and_parts _ _ a.0 in
      let t = some_typed (typing k.value.0 p) m.ty b.1 in
      bound_both (names_of k.value.0) (field_names (fields names_of (fields first ks))) (k.value.1 p t.0 t.1) (fields_bound ks p ms a.1)

  abbrev part_by : {A B : Type 0} → (A → B) → TPart A → TPart B
  part_by f (part.Chars t) = part.Chars t
  part_by f (part.Hole h) = part.Hole (record { expr = f h.expr; choice = h.choice })

  each_part : {A B : Type 0} (f : A → B) (ps : List (TPart A)) → layer_parts (map-TExpr A B f (layer.Strung ps)) ≡ map (part_by f) ps
  each_part f [] = refl
  each_part f (part.Chars t ∷ ps) = ap (λ z. part.Chars t ∷ z) (each_part f ps)
  each_part f (part.Hole h ∷ ps) = ap (λ z. part.Hole (record { expr = f h.expr; choice = h.choice }) ∷ z) (each_part f ps)

  twice : (A : Type 0) (f : TExpr → A) (ks : List (TPart Known)) → map-TExpr TExpr A f (plain (layer.Strung ks)) ≡ layer.Strung (map (part_by f) (map (part_by first) ks))
  twice A f ks = ap (λ ps. map-TExpr TExpr A f (layer.Strung ps)) (each_part first ks) ∙ ap layer.Strung (each_part f (map (part_by first) ks))

  taken : (ch : Choice) (o : Option Ty) → takes_some ch o ≡ true → (u : Ty) × (o ≡ Some u)
  taken ch None h = absurd (false≢true h)
  taken ch (Some u) h = (u, refl)

  parts_bound : (ks : List (TPart Known)) → parts_typed (map (part_by typing) (map (part_by first) ks)) ≡ true → AreBound (part_names (map (part_by names_of) (map (part_by first) ks)))
  parts_bound [] h = refl
  parts_bound (part.Chars s ∷ ks) h = parts_bound ks h
  parts_bound (part.Hole k ∷ ks) h =
      let a = and_parts (takes_some k.choice (typing k.expr.0 true)) (parts_typed (map (part_by typing) (map (part_by first) ks))) h in
      let t = taken k.choice (typing k.expr.0 true) a.0 in
      bound_both (names_of k.expr.0) (part_names (map (part_by names_of) (map (part_by first) ks))) (k.expr.1 true t.0 t.1) (parts_bound ks a.1)

  strung_bound : (ks : List (TPart Known)) (p : Bool) (t : Ty) → type_step c (map-TExpr TExpr Typing typing (plain (layer.Strung ks))) p ≡ Some t
      → AreBound (names_step (map-TExpr TExpr (List Key) names_of (plain (layer.Strung ks))))
  strung_bound ks p t h =
      let typed = subst (λ (z : TExpr-F Typing). type_step c z p ≡ Some t) (twice Typing typing ks) h in
      subst (λ (z : TExpr-F (List Key)). AreBound (names_step z)) (sym (twice (List Key) names_of ks))
      (parts_bound ks (when_true (parts_typed (map (part_by typing) (map (part_by first) ks))) ty.Str t typed))

  layer_bound : (y : TExpr-F Known) (p : Bool) (t : Ty) → type_step c (map-TExpr TExpr Typing typing (plain y)) p ≡ Some t → AreBound (names_step (map-TExpr TExpr (List Key) names_of (plain y)))
  layer_bound (layer.Lit x) p t h = refl
  layer_bound (layer.Get key) p t h = and_from (has_type key) true (ap is_some h) refl
  layer_bound (layer.Member k name) p t h = let a = then_parts (member_type c.structs name) (typing k.0 p) t h in k.1 p a.0 a.1
  layer_bound (layer.At j k) p t h = two j k p at_type t h
  layer_bound (layer.Not k) p t h = let a = then_parts (λ u. when (is_bool u) ty.Bool) (typing k.0 p) t h in k.1 p a.0 a.1
  layer_bound (layer.Neg k) p t h = let a = then_parts (λ u. when (is_int u) ty.Int) (typing k.0 p) t h in k.1 p a.0 a.1
  layer_bound (layer.Binary o j k) p t h = two j k p (binary_type o p) t h
  layer_bound (layer.Choose i j k) p t h =
      let a = then_parts (λ b. both (λ x u. when (is_bool b && same_type x u) x) (typing j.0 p) (typing k.0 p)) (typing i.0 p) t h in
      let b = then_parts (λ x. option_and_then (λ u. when (is_bool a.0 && same_type x u) x) (typing k.0 p)) (typing j.0 p) t a.2 in
      let d = then_parts (λ u. when (is_bool a.0 && same_type b.0 u) b.0) (typing k.0 p) t b.2 in
      bound_both (names_of i.0 ++ names_of j.0) (names_of k.0) (bound_both (names_of i.0) (names_of j.0) (i.1 p a.0 a.1) (j.1 p b.0 b.1)) (k.1 p d.0 d.1)
  layer_bound (layer.ListOf ks) p t h = let a = then_parts list_type (all_types (items_in (map typing (map first ks)) p)) t h in all_bound ks p a.0 a.1
  layer_bound (layer.MapOf ks) p t h =
      let a = then_parts (λ us. option_and_then (λ ts. map_type us ts) (all_types (values_in (rows typing (rows first ks)) p))) (all_types (keys_in (rows typing (rows first ks)) p)) t h in
      let b = then_parts (λ ts. map_type a.0 ts) (all_types (values_in (rows typing (rows first ks)) p)) t a.2 in
      rows_bound ks p a.0 b.0 a.1 b.1
  layer_bound (layer.PairOf j k) p t h = two j k p (λ x u. Some (ty.Pair x u)) t h
  layer_bound (layer.StructOf name ks) p t h =
      let a = then_parts (λ ms. when (fields_have (fields_in (fields typing (fields first ks)) p) ms) (ty.Struct name)) (members_of c.structs name) t h in
      fields_bound ks p a.0 (when_true (fields_have (fields_in (fields typing (fields first ks)) p) a.0) (ty.Struct name) t a.2)
  layer_bound (layer.Apply f ks) p t h = let a = then_parts (apply_type c.outputs f) (all_types (items_in (map typing (map first ks)) p)) t h in all_bound ks p a.0 a.1
  layer_bound (layer.Strung ks) p t h = strung_bound ks p t h
  layer_bound (layer.Cast k u) p t h = let a = then_parts (λ x. when (coerces x u) u) (typing k.0 p) t h in k.1 p a.0 a.1

  pub names_bound : (e : TExpr) → Holds e
  names_bound = ind-TExpr Holds (λ x y is. subst (λ (z : TExpr-F TExpr). Holds (roll-TExpr z)) is (λ p t h.
      subst (λ (ks : List Key). AreBound ks) (sym (fold-roll-TExpr (List Key) names_step (plain y)))
      (layer_bound y p t (sym (ap (λ (f : Typing). f p) (fold-roll-TExpr Typing (type_step c) (plain y))) ∙ h))))
