-- An expression that is typed with its place has its plain type too.
use Rattle.std.proofs.Common.{◌≡◌, Bool, List, [], ◌∷◌, None, option_and_then, if◌then◌else◌, map, sym, ap, ◌∙◌, subst, refl}
use Rattle.wdl_value.specs.declared.operator.Func.{Func}
use Rattle.wdl_value.specs.FunctionTypes.{function_type, writes}
use Rattle.wdl_typed.specs.declared.expr.TExpr.{TExpr, TExpr-F, roll-TExpr, map-TExpr, ind-TExpr, fold-TExpr, fold_out-TExpr, fold-roll-TExpr}
use Rattle.wdl_typed.specs.declared.expr.TExpr.TheVariants as expr
use Rattle.wdl_typed.specs.declared.expr.TExpr.TheOpen as layer
use Rattle.wdl_typed.specs.declared.expr.TField.{TField}
use Rattle.wdl_typed.specs.declared.expr.TPair.{TPair}
use Rattle.wdl_typed.specs.declared.expr.TPart.{TPart}
use Rattle.wdl_typed.specs.declared.expr.TPart.TheVariants as part
use Rattle.wdl_typed.specs.Declarations.{Placed, either, or_type, placed_step, plain_of}
use Rattle.wdl_typed.specs.Typing.{Context, Typing, all_types, exact_args, items_in, type_of, type_step}
use Rattle.wdl_typing.specs.Types.{write_call}
use Rattle.wdl_typing.proofs.PieceLemmas.{part_of, parts_map}

module _ (c : Context) where
  abbrev placed : TExpr → Placed
  placed = fold-TExpr Placed (placed_step c)

  abbrev Holds : TExpr → Type 0
  Holds e = plain_of (placed e) ≡ type_of c e

  abbrev Known : Type 0
  Known = (e : TExpr) × Holds e

  abbrev plain : TExpr-F Known → TExpr-F TExpr
  plain = map-TExpr Known TExpr (λ (k : Known). k.0)

  abbrev by_place : TExpr-F Known → TExpr-F Typing
  by_place y = map-TExpr Placed Typing plain_of (map-TExpr TExpr Placed placed (plain y))

  abbrev by_type : TExpr-F Known → TExpr-F Typing
  by_type y = map-TExpr TExpr Typing (type_of c) (plain y)

  items_agree : (ks : List Known) → map plain_of (map placed (map (λ (k : Known). k.0) ks)) ≡ map (type_of c) (map (λ (k : Known). k.0) ks)
  items_agree [] = refl
  items_agree (k ∷ ks) = cc (k.1, items_agree ks)

  abbrev pair_by : {A B : Type 0} → (A → B) → TPair A → TPair B
  pair_by f r = record { key = f r.key; value = f r.value }

  rows_agree : (rs : List (TPair Known)) → map (pair_by plain_of) (map (pair_by placed) (map (pair_by (λ (k : Known). k.0)) rs)) ≡ map (pair_by (type_of c)) (map (pair_by (λ (k : Known). k.0)) rs)
  rows_agree [] = refl
  rows_agree (r ∷ rs) = cc (r.key.1, r.value.1, rows_agree rs)

  abbrev field_by : {A B : Type 0} → (A → B) → TField A → TField B
  field_by f r = record { name = r.name; value = f r.value }

  fields_agree : (fs : List (TField Known)) → map (field_by plain_of) (map (field_by placed) (map (field_by (λ (k : Known). k.0)) fs)) ≡ map (field_by (type_of c)) (map (field_by (λ (k : Known). k.0)) fs)
  fields_agree [] = refl
  fields_agree (f ∷ fs) = cc (f.value.1, fields_agree fs)

  abbrev pieces : List (TPart Known) → List (TPart TExpr)
  pieces = map (part_of (λ (k : Known). k.0))

  pieces_agree : (ps : List (TPart Known)) → map (part_of plain_of) (map (part_of placed) (pieces ps)) ≡ map (part_of (type_of c)) (pieces ps)
  pieces_agree [] = refl
  pieces_agree (part.Chars t ∷ ps) = ap (λ z. part.Chars t ∷ z) (pieces_agree ps)
  pieces_agree (part.Hole h ∷ ps) =
      ap (λ t. part.Hole (record { expr = t; choice = h.choice }) ∷ map (part_of plain_of) (map (part_of placed) (pieces ps))) h.expr.1
      ∙ ap (λ z. part.Hole (record { expr = type_of c h.expr.0; choice = h.choice }) ∷ z) (pieces_agree ps)

  strings_agree : (ps : List (TPart Known)) → by_place (layer.Strung ps) ≡ by_type (layer.Strung ps)
  strings_agree ps =
      ap (λ y. map-TExpr Placed Typing plain_of (map-TExpr TExpr Placed placed y)) (parts_map (λ (k : Known). k.0) ps)
      ∙ ap (map-TExpr Placed Typing plain_of) (parts_map placed (pieces ps))
      ∙ parts_map plain_of (map (part_of placed) (pieces ps))
      ∙ ap layer.Strung (pieces_agree ps)
      ∙ sym (parts_map (type_of c) (pieces ps))
      ∙ sym (ap (map-TExpr TExpr Typing (type_of c)) (parts_map (λ (k : Known). k.0) ps))

  layer_agree : (y : TExpr-F Known) → by_place y ≡ by_type y
  layer_agree (layer.Lit x) = refl
  layer_agree (layer.Get key) = refl
  layer_agree (layer.Member a name) = cc
  layer_agree (layer.At a b) = cc
  layer_agree (layer.Not a) = cc
  layer_agree (layer.Neg a) = cc
  layer_agree (layer.Binary o a b) = cc
  layer_agree (layer.Choose d a b) = cc
  layer_agree (layer.ListOf es) = ap layer.ListOf (items_agree es)
  layer_agree (layer.MapOf rows) = ap layer.MapOf (rows_agree rows)
  layer_agree (layer.PairOf a b) = cc
  layer_agree (layer.StructOf name fields) = ap (layer.StructOf name) (fields_agree fields)
  layer_agree (layer.Apply f es) = ap (layer.Apply f) (items_agree es)
  layer_agree (layer.Strung parts) = strings_agree parts
  layer_agree (layer.Cast a t) = cc

  pub plain-type : (e : TExpr) → plain_of (placed e) ≡ type_of c e
  plain-type = ind-TExpr Holds (λ x y is. subst (λ (z : TExpr-F TExpr). Holds (roll-TExpr z)) is (
      ap plain_of (fold-roll-TExpr Placed (placed_step c) (plain y))
      ∙ ap (type_step c) (layer_agree y)
      ∙ sym (fold-roll-TExpr Typing (type_step c) (plain y))))

  -- an expression in its place has its plain type, or else that of a call of a function that writes a file
  pub in_place : (e : TExpr) (b : Bool) → either (placed e) b ≡ or_type (type_of c e b) ((placed e).write b)
  in_place e b = ap (λ (f : Typing). or_type (f b) ((placed e).write b)) (plain-type e)

  pub items-plain : (es : List TExpr) → map plain_of (map placed es) ≡ map (type_of c) es
  items-plain [] = refl
  items-plain (e ∷ es) = cc (plain-type e, items-plain es)

  pub write-Apply : (f : Func) (es : List TExpr) (b : Bool) → (placed (expr.Apply f es)).write b ≡ write_call c f es b
  write-Apply f es b =
      ap (λ (q : Placed). q.write b)
      (fold_out-TExpr Placed (placed_step c) (expr.Apply f es) ∙ ap (λ (y : TExpr-F TExpr). placed_step c (map-TExpr TExpr Placed placed y)) (expr.outs-Apply f es))
      ∙ ap (λ ts. if writes f then option_and_then (λ us. option_and_then (exact_args us) (function_type f us)) (all_types (items_in ts b)) else None) (items-plain es)
