-- The value of an expression depends on the values of its names alone.
use Rattle.std.proofs.Common.{◌≡◌, List, [], ◌∷◌, ◌++◌, map, sym, ap, ◌∙◌, subst, refl}
use Rattle.wdl_base.specs.declared.name.Key.{Key}
use Rattle.wdl_value.specs.declared.env.Bind.{Bind}
use Rattle.wdl_value.specs.declared.value.Value.{Value}
use Rattle.wdl_value.specs.Limits.{limited}
use Rattle.wdl_typed.specs.declared.expr.TExpr.{TExpr, TExpr-F, map-TExpr, roll-TExpr, ind-TExpr, fold-roll-TExpr}
use Rattle.wdl_typed.specs.declared.expr.TExpr.TheOpen as layer
use Rattle.wdl_typed.specs.declared.expr.TField.{TField}
use Rattle.wdl_typed.specs.declared.expr.TPair.{TPair}
use Rattle.wdl_typed.specs.declared.expr.TPart.{TPart}
use Rattle.wdl_typed.specs.declared.expr.TPart.TheVariants as part
use Rattle.wdl_typed.specs.Evaluation.{Met, found, met, node_step, settled, then_, value_met, value_of, value_step}
use Rattle.wdl_typed.specs.Requests.{before}
use Rattle.wdl_typed.specs.Scope.{lookup, names_of, names_step, all_names, row_names, field_names, part_names}

-- ---- the pieces of a string, one by one

abbrev part_of : {A B : Type 0} → (A → B) → TPart A → TPart B
part_of f (part.Chars t) = part.Chars t
part_of f (part.Hole h) = part.Hole (record { expr = f h.expr; choice = h.choice })

abbrev layer_parts : {A : Type 0} → TExpr-F A → List (TPart A)
layer_parts (layer.Strung ps) = ps
layer_parts y = []

each_part : {A B : Type 0} (f : A → B) (ps : List (TPart A)) → layer_parts (map-TExpr A B f (layer.Strung ps)) ≡ map (part_of f) ps
each_part f [] = refl
each_part f (part.Chars t ∷ ps) = ap (λ z. part.Chars t ∷ z) (each_part f ps)
each_part f (part.Hole h ∷ ps) = ap (λ z. part.Hole (record { expr = f h.expr; choice = h.choice }) ∷ z) (each_part f ps)

parts_map : {A B : Type 0} (f : A → B) (ps : List (TPart A)) → map-TExpr A B f (layer.Strung ps) ≡ layer.Strung (map (part_of f) ps)
parts_map f ps = ap layer.Strung (each_part f ps)

-- ---- one environment in the place of another one

module _ (env other : List Bind) where
  -- Both environments have the same values for these names.
  abbrev pub Agree : List Key → Type 0
  Agree [] = Unit {0}
  Agree (k ∷ ks) = (lookup env k ≡ lookup other k) × Agree ks

  agree_left : (ks ls : List Key) → Agree (ks ++ ls) → Agree ks
  agree_left [] ls h = tt
  agree_left (k ∷ ks) ls h = (h.0, agree_left ks ls h.1)

  agree_right : (ks ls : List Key) → Agree (ks ++ ls) → Agree ls
  agree_right [] ls h = h
  agree_right (k ∷ ks) ls h = agree_right ks ls h.1

  abbrev Same : TExpr → Type 0
  Same e = Agree (names_of e) → value_met (before env) e ≡ value_met (before other) e

  abbrev Known : Type 0
  Known = (e : TExpr) × Same e

  abbrev plain : TExpr-F Known → TExpr-F TExpr
  plain = map-TExpr Known TExpr (λ (k : Known). k.0)

  abbrev exprs : List Known → List TExpr
  exprs = map (λ (k : Known). k.0)

  abbrev left : TExpr → Met Value
  left = value_met (before env)

  abbrev right : TExpr → Met Value
  right = value_met (before other)

  items_same : (ks : List Known) → Agree (all_names (map names_of (exprs ks))) → map left (exprs ks) ≡ map right (exprs ks)
  items_same [] g = refl
  items_same (k ∷ ks) g =
      let first = k.1 (agree_left (names_of k.0) (all_names (map names_of (exprs ks))) g) in
      let rest = items_same ks (agree_right (names_of k.0) (all_names (map names_of (exprs ks))) g) in
      ap (λ x. x ∷ map left (exprs ks)) first ∙ ap (λ xs. right k.0 ∷ xs) rest

  -- ---- rows and fields

  abbrev pairs : List (TPair Known) → List (TPair TExpr)
  pairs = map (λ (r : TPair Known). record { key = r.key.0; value = r.value.0 })

  abbrev pairs_by : {A : Type 0} → (TExpr → A) → List (TPair TExpr) → List (TPair A)
  pairs_by f = map (λ (r : TPair TExpr). record { key = f r.key; value = f r.value })

  pairs_same : (ks : List (TPair Known)) → Agree (row_names (pairs_by names_of (pairs ks))) → pairs_by left (pairs ks) ≡ pairs_by right (pairs ks)
  pairs_same [] g = refl
  pairs_same (k ∷ ks) g =
      let names = row_names (pairs_by names_of (pairs ks)) in
      let both = agree_left (names_of k.key.0 ++ names_of k.value.0) names g in
      let first = k.key.1 (agree_left (names_of k.key.0) (names_of k.value.0) both) in
      let second = k.value.1 (agree_right (names_of k.key.0) (names_of k.value.0) both) in
      let rest = pairs_same ks (agree_right (names_of k.key.0 ++ names_of k.value.0) names g) in
      ap (λ (x : Met Value). record { key = x; value = left k.value.0 } ∷ pairs_by left (pairs ks)) first
      ∙ ap (λ (x : Met Value). record { key = right k.key.0; value = x } ∷ pairs_by left (pairs ks)) second
      ∙ ap (λ (xs : List (TPair (Met Value))). record { key = right k.key.0; value = right k.value.0 } ∷ xs) rest

  abbrev fields : List (TField Known) → List (TField TExpr)
  fields = map (λ (f : TField Known). record { name = f.name; value = f.value.0 })

  abbrev fields_by : {A : Type 0} → (TExpr → A) → List (TField TExpr) → List (TField A)
  fields_by f = map (λ (x : TField TExpr). record { name = x.name; value = f x.value })

  fields_same : (ks : List (TField Known)) → Agree (field_names (fields_by names_of (fields ks))) → fields_by left (fields ks) ≡ fields_by right (fields ks)
  fields_same [] g = refl
  fields_same (k ∷ ks) g =
      let names = field_names (fields_by names_of (fields ks)) in
      let first = k.value.1 (agree_left (names_of k.value.0) names g) in
      let rest = fields_same ks (agree_right (names_of k.value.0) names g) in
      ap (λ (x : Met Value). record { name = k.name; value = x } ∷ fields_by left (fields ks)) first
      ∙ ap (λ (xs : List (TField (Met Value))). record { name = k.name; value = right k.value.0 } ∷ xs) rest

  -- ---- pieces of strings

  abbrev parts : List (TPart Known) → List (TPart TExpr)
  parts = map (part_of (λ (k : Known). k.0))

  parts_same : (ks : List (TPart Known)) → Agree (part_names (map (part_of names_of) (parts ks))) → map (part_of left) (parts ks) ≡ map (part_of right) (parts ks)
  parts_same [] g = refl
  parts_same (part.Chars t ∷ ks) g = ap (λ (xs : List (TPart (Met Value))). part.Chars t ∷ xs) (parts_same ks g)
  parts_same (part.Hole h ∷ ks) g =
      let names = part_names (map (part_of names_of) (parts ks)) in
      let first = h.expr.1 (agree_left (names_of h.expr.0) names g) in
      let rest = parts_same ks (agree_right (names_of h.expr.0) names g) in
      ap (λ (x : Met Value). part.Hole (record { expr = x; choice = h.choice }) ∷ map (part_of left) (parts ks)) first
      ∙ ap (λ (xs : List (TPart (Met Value))). part.Hole (record { expr = right h.expr.0; choice = h.choice }) ∷ xs) rest

  twice : (A : Type 0) (f : TExpr → A) (ks : List (TPart Known)) → map-TExpr TExpr A f (plain (layer.Strung ks)) ≡ layer.Strung (map (part_of f) (parts ks))
  twice A f ks = ap (map-TExpr TExpr A f) (parts_map (λ (k : Known). k.0) ks) ∙ parts_map f (parts ks)

  strung_same : (ks : List (TPart Known)) → Agree (names_step (map-TExpr TExpr (List Key) names_of (plain (layer.Strung ks))))
      → map-TExpr TExpr (Met Value) left (plain (layer.Strung ks)) ≡ map-TExpr TExpr (Met Value) right (plain (layer.Strung ks))
  strung_same ks g =
      let names = subst (λ (z : TExpr-F (List Key)). Agree (names_step z)) (twice (List Key) names_of ks) g in
      twice (Met Value) left ks ∙ ap layer.Strung (parts_same ks names) ∙ sym (twice (Met Value) right ks)

  -- ---- expressions

  two_same : (a b : Known) → Agree (names_of a.0 ++ names_of b.0) → (left a.0 ≡ right a.0) × (left b.0 ≡ right b.0)
  two_same a b g = (a.1 (agree_left (names_of a.0) (names_of b.0) g), b.1 (agree_right (names_of a.0) (names_of b.0) g))

  layer_same : (y : TExpr-F Known) → Agree (names_step (map-TExpr TExpr (List Key) names_of (plain y)))
      → map-TExpr TExpr (Met Value) left (plain y) ≡ map-TExpr TExpr (Met Value) right (plain y)
  layer_same (layer.Lit x) g = refl
  layer_same (layer.Get key) g = refl
  layer_same (layer.Member a name) g = ap (λ (r : Met Value). layer.Member r name) (a.1 g)
  layer_same (layer.At a b) g = let p = two_same a b g in ap (λ (r : Met Value). layer.At r (left b.0)) p.0 ∙ ap (λ (r : Met Value). layer.At (right a.0) r) p.1
  layer_same (layer.Not a) g = ap (λ (r : Met Value). layer.Not r) (a.1 g)
  layer_same (layer.Neg a) g = ap (λ (r : Met Value). layer.Neg r) (a.1 g)
  layer_same (layer.Binary o a b) g = let p = two_same a b g in ap (λ (r : Met Value). layer.Binary o r (left b.0)) p.0 ∙ ap (λ (r : Met Value). layer.Binary o (right a.0) r) p.1
  layer_same (layer.Choose c a b) g =
      let first = agree_left (names_of c.0 ++ names_of a.0) (names_of b.0) g in
      let p = two_same c a first in
      let q = b.1 (agree_right (names_of c.0 ++ names_of a.0) (names_of b.0) g) in
      ap (λ (r : Met Value). layer.Choose r (left a.0) (left b.0)) p.0
      ∙ ap (λ (r : Met Value). layer.Choose (right c.0) r (left b.0)) p.1
      ∙ ap (λ (r : Met Value). layer.Choose (right c.0) (right a.0) r) q
  layer_same (layer.ListOf ks) g = ap (λ (rs : List (Met Value)). layer.ListOf rs) (items_same ks g)
  layer_same (layer.MapOf ks) g = ap (λ (rs : List (TPair (Met Value))). layer.MapOf rs) (pairs_same ks g)
  layer_same (layer.PairOf a b) g = let p = two_same a b g in ap (λ (r : Met Value). layer.PairOf r (left b.0)) p.0 ∙ ap (λ (r : Met Value). layer.PairOf (right a.0) r) p.1
  layer_same (layer.StructOf name ks) g = ap (λ (rs : List (TField (Met Value))). layer.StructOf name rs) (fields_same ks g)
  layer_same (layer.Apply f ks) g = ap (λ (rs : List (Met Value)). layer.Apply f rs) (items_same ks g)
  layer_same (layer.Strung ks) g = strung_same ks g
  layer_same (layer.Cast a t) g = ap (λ (r : Met Value). layer.Cast r t) (a.1 g)

  -- The two settings differ only in what a name's value is.
  step_same : (y : TExpr-F Known) → Agree (names_step (map-TExpr TExpr (List Key) names_of (plain y))) → node_step (before env) (map-TExpr TExpr (Met Value) left (plain y)) ≡ node_step (before other) (map-TExpr TExpr (Met Value) left (plain y))
  step_same (layer.Get key) g = ap found g.0
  step_same y g = refl

  met_same : (e : TExpr) → Same e
  met_same = ind-TExpr Same (λ x y is. subst (λ (z : TExpr-F TExpr). Same (roll-TExpr z)) is (λ g.
      let names = subst Agree (fold-roll-TExpr (List Key) names_step (plain y)) g in
      fold-roll-TExpr (Met Value) (value_step (before env)) (plain y)
      ∙ ap (λ (r : Met Value). then_ r (λ v. met (limited v))) (step_same y names)
      ∙ ap (value_step (before other)) (layer_same y names)
      ∙ sym (fold-roll-TExpr (Met Value) (value_step (before other)) (plain y))))

  pub value_same : (e : TExpr) → Agree (names_of e) → value_of (before env) e ≡ value_of (before other) e
  value_same e g = ap settled (met_same e g)
