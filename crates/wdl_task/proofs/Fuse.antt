-- One function after another over the layer of an expression.
use Rattle.std.proofs.Common.{◌≡◌, List, [], ◌∷◌, map, sym, ap, ◌∙◌, refl}
use Rattle.wdl_typed.specs.declared.expr.TExpr.{TExpr, TExpr-F, map-TExpr}
use Rattle.wdl_typed.specs.declared.expr.TExpr.TheOpen as layer
use Rattle.wdl_typed.specs.declared.expr.TField.{TField}
use Rattle.wdl_typed.specs.declared.expr.TPair.{TPair}
use Rattle.wdl_typed.specs.declared.expr.TPart.{TPart}
use Rattle.wdl_typed.specs.declared.expr.TPart.TheVariants as part
use Rattle.wdl_eval.proofs.PartMaps.{part_of, parts_map}

abbrev rows : {A B : Type 0} → (A → B) → List (TPair A) → List (TPair B)
rows f = map (λ r. record { key = f r.key; value = f r.value })

abbrev fields : {A B : Type 0} → (A → B) → List (TField A) → List (TField B)
fields f = map (λ r. record { name = r.name; value = f r.value })

module _ {A B : Type 0} (f : TExpr → A) (g : A → B) (h : TExpr → B) where
  -- an expression at which g after f is h
  abbrev pub Known : Type 0
  Known = (e : TExpr) × (g (f e) ≡ h e)

  abbrev first : Known → TExpr
  first k = k.0

  abbrev pub plain : TExpr-F Known → TExpr-F TExpr
  plain = map-TExpr Known TExpr (λ (k : Known). k.0)

  all_fused : (ks : List Known) → map g (map f (map first ks)) ≡ map h (map first ks)
  all_fused [] = refl
  all_fused (k ∷ ks) = ap (λ b. b ∷ map g (map f (map first ks))) k.1 ∙ ap (λ bs. h k.0 ∷ bs) (all_fused ks)

  rows_fused : (ks : List (TPair Known)) → rows g (rows f (rows first ks)) ≡ rows h (rows first ks)
  rows_fused [] = refl
  rows_fused (k ∷ ks) =
      ap (λ b. record { key = b; value = g (f k.value.0) } ∷ rows g (rows f (rows first ks))) k.key.1
      ∙ ap (λ b. record { key = h k.key.0; value = b } ∷ rows g (rows f (rows first ks))) k.value.1
      ∙ ap (λ bs. record { key = h k.key.0; value = h k.value.0 } ∷ bs) (rows_fused ks)

  fields_fused : (ks : List (TField Known)) → fields g (fields f (fields first ks)) ≡ fields h (fields first ks)
  fields_fused [] = refl
  fields_fused (k ∷ ks) =
      ap (λ b. record { name = k.name; value = b } ∷ fields g (fields f (fields first ks))) k.value.1
      ∙ ap (λ bs. record { name = k.name; value = h k.value.0 } ∷ bs) (fields_fused ks)

  parts_fused : (ks : List (TPart Known)) → map (part_of g) (map (part_of f) (map (part_of first) ks)) ≡ map (part_of h) (map (part_of first) ks)
  parts_fused [] = refl
  parts_fused (part.Chars s ∷ ks) = ap (λ bs. part.Chars s ∷ bs) (parts_fused ks)
  parts_fused (part.Hole k ∷ ks) =
      ap (λ b. part.Hole (record { expr = b; choice = k.choice }) ∷ map (part_of g) (map (part_of f) (map (part_of first) ks))) k.expr.1
      ∙ ap (λ bs. part.Hole (record { expr = h k.expr.0; choice = k.choice }) ∷ bs) (parts_fused ks)

  strung_fused : (ks : List (TPart Known)) → map-TExpr A B g (map-TExpr TExpr A f (plain (layer.Strung ks))) ≡ map-TExpr TExpr B h (plain (layer.Strung ks))
  strung_fused ks =
      ap (λ (y : TExpr-F TExpr). map-TExpr A B g (map-TExpr TExpr A f y)) (parts_map first ks)
      ∙ ap (λ (y : TExpr-F A). map-TExpr A B g y) (parts_map f (map (part_of first) ks))
      ∙ parts_map g (map (part_of f) (map (part_of first) ks))
      ∙ ap layer.Strung (parts_fused ks)
      ∙ sym (ap (λ (y : TExpr-F TExpr). map-TExpr TExpr B h y) (parts_map first ks) ∙ parts_map h (map (part_of first) ks))

  pub fused : (y : TExpr-F Known) → map-TExpr A B g (map-TExpr TExpr A f (plain y)) ≡ map-TExpr TExpr B h (plain y)
  fused (layer.Lit x) = refl
  fused (layer.Get key) = refl
  fused (layer.Member k name) = ap (λ b. layer.Member b name) k.1
  fused (layer.At j k) = ap (λ b. layer.At b (g (f k.0))) j.1 ∙ ap (layer.At (h j.0)) k.1
  fused (layer.Not k) = ap layer.Not k.1
  fused (layer.Neg k) = ap layer.Neg k.1
  fused (layer.Binary o j k) = ap (λ b. layer.Binary o b (g (f k.0))) j.1 ∙ ap (layer.Binary o (h j.0)) k.1
  fused (layer.Choose i j k) =
      ap (λ b. layer.Choose b (g (f j.0)) (g (f k.0))) i.1 ∙ ap (λ b. layer.Choose (h i.0) b (g (f k.0))) j.1 ∙ ap (layer.Choose (h i.0) (h j.0)) k.1
  fused (layer.ListOf ks) = ap layer.ListOf (all_fused ks)
  fused (layer.MapOf ks) = ap layer.MapOf (rows_fused ks)
  fused (layer.PairOf j k) = ap (λ b. layer.PairOf b (g (f k.0))) j.1 ∙ ap (layer.PairOf (h j.0)) k.1
  fused (layer.StructOf name ks) = ap (layer.StructOf name) (fields_fused ks)
  fused (layer.Apply o ks) = ap (layer.Apply o) (all_fused ks)
  fused (layer.Strung ks) = strung_fused ks
  fused (layer.Cast k t) = ap (λ b. layer.Cast b t) k.1
