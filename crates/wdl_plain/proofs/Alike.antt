-- The value of an expression hangs on the values of its own names alone.
use Rattle.std.proofs.Common.{◌≡◌, true, List, [], ◌∷◌, ◌++◌, map, sym, ap, ◌∙◌, subst, refl}
use Rattle.wdl_base.specs.declared.name.Key.{Key}
use Rattle.wdl_value.specs.declared.env.Bind.{Bind}
use Rattle.wdl_value.specs.declared.value.Value.{Value}
use Rattle.wdl_value.specs.Limits.{limited}
use Rattle.wdl_typed.specs.declared.expr.TExpr.{TExpr, TExpr-F, map-TExpr, roll-TExpr, ind-TExpr, fold-roll-TExpr}
use Rattle.wdl_typed.specs.declared.expr.TExpr.TheOpen as layer
use Rattle.wdl_typed.specs.declared.expr.TField.{TField}
use Rattle.wdl_typed.specs.declared.expr.TPair.{TPair}
use Rattle.wdl_typed.specs.declared.expr.TPart.{TPart}
use Rattle.wdl_typed.specs.declared.expr.TPart.TheVariants as part
use Rattle.wdl_typed.specs.Evaluation.{Met, found, met, node_step, settled, then_, value_met, value_of, value_step}
use Rattle.wdl_typed.specs.Requests.{before}
use Rattle.wdl_typed.specs.Scope.{all_names, field_names, is_among, lookup, names_of, names_step, part_names, row_names}
use Rattle.wdl_eval.proofs.PartMaps.{part_of, parts_map}
use Rattle.wdl_eval.proofs.Names.{among_left, among_right, among_one}

-- ---- values over two environments

module _ (env env' : List Bind) where
  abbrev pub Agree : List Key → Type 0
  Agree keys = (key : Key) → is_among key keys ≡ true → lookup env key ≡ lookup env' key

  agree_left : (xs ys : List Key) → Agree (xs ++ ys) → Agree xs
  agree_left xs ys g key h = g key (among_left key xs ys h)

  agree_right : (xs ys : List Key) → Agree (xs ++ ys) → Agree ys
  agree_right xs ys g key h = g key (among_right key xs ys h)

  abbrev here : TExpr → Met Value
  here = value_met (before env)

  abbrev there : TExpr → Met Value
  there = value_met (before env')

  abbrev Alike : TExpr → Type 0
  Alike e = Agree (names_of e) → here e ≡ there e

  abbrev Known : Type 0
  Known = (e : TExpr) × Alike e

  abbrev first : Known → TExpr
  first k = k.0

  abbrev plain : TExpr-F Known → TExpr-F TExpr
  plain = map-TExpr Known TExpr (λ (k : Known). k.0)

  abbrev rows : {A B : Type 0} → (A → B) → List (TPair A) → List (TPair B)
  rows f = map (λ r. record { key = f r.key; value = f r.value })

  abbrev fields : {A B : Type 0} → (A → B) → List (TField A) → List (TField B)
  fields f = map (λ r. record { name = r.name; value = f r.value })

  all_alike : (ks : List Known) → Agree (all_names (map names_of (map first ks))) → map here (map first ks) ≡ map there (map first ks)
  all_alike [] g = refl
  all_alike (k ∷ ks) g =
      let rest = all_names (map names_of (map first ks)) in
      ap (λ b. b ∷ map here (map first ks)) (k.1 (agree_left (names_of k.0) rest g))
      ∙ ap (λ bs. there k.0 ∷ bs) (all_alike ks (agree_right (names_of k.0) rest g))

  rows_alike : (ks : List (TPair Known)) → Agree (row_names (rows names_of (rows first ks))) → rows here (rows first ks) ≡ rows there (rows first ks)
  rows_alike [] g = refl
  rows_alike (k ∷ ks) g =
      let key = names_of k.key.0 in
      let value = names_of k.value.0 in
      let rest = row_names (rows names_of (rows first ks)) in
      let both = agree_left (key ++ value) rest g in
      ap (λ b. record { key = b; value = here k.value.0 } ∷ rows here (rows first ks)) (k.key.1 (agree_left key value both))
      ∙ ap (λ b. record { key = there k.key.0; value = b } ∷ rows here (rows first ks)) (k.value.1 (agree_right key value both))
      ∙ ap (λ bs. record { key = there k.key.0; value = there k.value.0 } ∷ bs) (rows_alike ks (agree_right (key ++ value) rest g))

  fields_alike : (ks : List (TField Known)) → Agree (field_names (fields names_of (fields first ks))) → fields here (fields first ks) ≡ fields there (fields first ks)
  fields_alike [] g = refl
  fields_alike (k ∷ ks) g =
      let rest = field_names (fields names_of (fields first ks)) in
      ap (λ b. record { name = k.name; value = b } ∷ fields here (fields first ks)) (k.value.1 (agree_left (names_of k.value.0) rest g))
      ∙ ap (λ bs. record { name = k.name; value = there k.value.0 } ∷ bs) (fields_alike ks (agree_right (names_of k.value.0) rest g))

  parts_alike : (ks : List (TPart Known)) → Agree (part_names (map (part_of names_of) (map (part_of first) ks)))
      → map (part_of here) (map (part_of first) ks) ≡ map (part_of there) (map (part_of first) ks)
  parts_alike [] g = refl
  parts_alike (part.Chars s ∷ ks) g = ap (λ bs. part.Chars s ∷ bs) (parts_alike ks g)
  parts_alike (part.Hole k ∷ ks) g =
      let rest = part_names (map (part_of names_of) (map (part_of first) ks)) in
      ap (λ b. part.Hole (record { expr = b; choice = k.choice }) ∷ map (part_of here) (map (part_of first) ks)) (k.expr.1 (agree_left (names_of k.expr.0) rest g))
      ∙ ap (λ bs. part.Hole (record { expr = there k.expr.0; choice = k.choice }) ∷ bs) (parts_alike ks (agree_right (names_of k.expr.0) rest g))

  twice : (A : Type 0) (f : TExpr → A) (ks : List (TPart Known)) → map-TExpr TExpr A f (plain (layer.Strung ks)) ≡ layer.Strung (map (part_of f) (map (part_of first) ks))
  twice A f ks = ap (map-TExpr TExpr A f) (parts_map first ks) ∙ parts_map f (map (part_of first) ks)

  abbrev layer_names : TExpr-F Known → List Key
  layer_names y = names_step (map-TExpr TExpr (List Key) names_of (plain y))

  strung_alike : (ks : List (TPart Known)) → Agree (layer_names (layer.Strung ks))
      → map-TExpr TExpr (Met Value) here (plain (layer.Strung ks)) ≡ map-TExpr TExpr (Met Value) there (plain (layer.Strung ks))
  strung_alike ks g =
      twice (Met Value) here ks
      ∙ ap layer.Strung (parts_alike ks (subst (λ (z : TExpr-F (List Key)). Agree (names_step z)) (twice (List Key) names_of ks) g))
      ∙ sym (twice (Met Value) there ks)

  parts_met : (y : TExpr-F Known) → Agree (layer_names y) → map-TExpr TExpr (Met Value) here (plain y) ≡ map-TExpr TExpr (Met Value) there (plain y)
  parts_met (layer.Lit x) g = refl
  parts_met (layer.Get key) g = refl
  parts_met (layer.Member k name) g = ap (λ b. layer.Member b name) (k.1 g)
  parts_met (layer.At j k) g =
      ap (λ b. layer.At b (here k.0)) (j.1 (agree_left (names_of j.0) (names_of k.0) g)) ∙ ap (layer.At (there j.0)) (k.1 (agree_right (names_of j.0) (names_of k.0) g))
  parts_met (layer.Not k) g = ap layer.Not (k.1 g)
  parts_met (layer.Neg k) g = ap layer.Neg (k.1 g)
  parts_met (layer.Binary o j k) g =
      ap (λ b. layer.Binary o b (here k.0)) (j.1 (agree_left (names_of j.0) (names_of k.0) g)) ∙ ap (layer.Binary o (there j.0)) (k.1 (agree_right (names_of j.0) (names_of k.0) g))
  parts_met (layer.Choose i j k) g =
      let front = agree_left (names_of i.0 ++ names_of j.0) (names_of k.0) g in
      ap (λ b. layer.Choose b (here j.0) (here k.0)) (i.1 (agree_left (names_of i.0) (names_of j.0) front))
      ∙ ap (λ b. layer.Choose (there i.0) b (here k.0)) (j.1 (agree_right (names_of i.0) (names_of j.0) front))
      ∙ ap (layer.Choose (there i.0) (there j.0)) (k.1 (agree_right (names_of i.0 ++ names_of j.0) (names_of k.0) g))
  parts_met (layer.ListOf ks) g = ap layer.ListOf (all_alike ks g)
  parts_met (layer.MapOf ks) g = ap layer.MapOf (rows_alike ks g)
  parts_met (layer.PairOf j k) g =
      ap (λ b. layer.PairOf b (here k.0)) (j.1 (agree_left (names_of j.0) (names_of k.0) g)) ∙ ap (layer.PairOf (there j.0)) (k.1 (agree_right (names_of j.0) (names_of k.0) g))
  parts_met (layer.StructOf name ks) g = ap (layer.StructOf name) (fields_alike ks g)
  parts_met (layer.Apply o ks) g = ap (layer.Apply o) (all_alike ks g)
  parts_met (layer.Strung ks) g = strung_alike ks g
  parts_met (layer.Cast k t) g = ap (λ b. layer.Cast b t) (k.1 g)

  -- a node itself looks up a name alone
  node_same : (y : TExpr-F Known) → Agree (layer_names y) → node_step (before env) (map-TExpr TExpr (Met Value) there (plain y)) ≡ node_step (before env') (map-TExpr TExpr (Met Value) there (plain y))
  node_same (layer.Get key) g = ap found (g key (among_one key))
  node_same (layer.Lit x) g = refl
  node_same (layer.Member k name) g = refl
  node_same (layer.At j k) g = refl
  node_same (layer.Not k) g = refl
  node_same (layer.Neg k) g = refl
  node_same (layer.Binary o j k) g = refl
  node_same (layer.Choose i j k) g = refl
  node_same (layer.ListOf ks) g = refl
  node_same (layer.MapOf ks) g = refl
  node_same (layer.PairOf j k) g = refl
  node_same (layer.StructOf name ks) g = refl
  node_same (layer.Apply o ks) g = refl
  node_same (layer.Strung ks) g = refl
  node_same (layer.Cast k t) g = refl

  layer_alike : (y : TExpr-F Known) → Agree (layer_names y) → value_step (before env) (map-TExpr TExpr (Met Value) here (plain y)) ≡ value_step (before env') (map-TExpr TExpr (Met Value) there (plain y))
  layer_alike y g =
      ap (value_step (before env)) (parts_met y g)
      ∙ ap (λ (r : Met Value). then_ r (λ x. met (limited x))) (node_same y g)

  alike : (e : TExpr) → Alike e
  alike = ind-TExpr Alike (λ x y is. subst (λ (z : TExpr-F TExpr). Alike (roll-TExpr z)) is (λ g.
      let names = subst (λ (ks : List Key). Agree ks) (fold-roll-TExpr (List Key) names_step (plain y)) g in
      fold-roll-TExpr (Met Value) (value_step (before env)) (plain y)
      ∙ layer_alike y names
      ∙ sym (fold-roll-TExpr (Met Value) (value_step (before env')) (plain y))))

  pub values_alike : (e : TExpr) → Agree (names_of e) → value_of (before env) e ≡ value_of (before env') e
  values_alike e g = ap settled (alike e g)
