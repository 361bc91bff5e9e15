-- The types of expressions that may be, as a whole, a call of a function that writes a file.
use Rattle.std.proofs.Common.{◌≡◌, Bool, true, ◌||◌, not, ◌&&◌, List, [], ◌∷◌, Option, Some, None, option_and_then, if◌then◌else◌, map, sym, ap, ◌∙◌, subst, refl}
use Rattle.wdl_value.specs.declared.operator.Func.{Func}
use Rattle.wdl_value.specs.declared.ty.Ty.{Ty}
use Rattle.wdl_value.specs.declared.typing.FuncTyping.{FuncTyping}
use Rattle.wdl_value.specs.Coerces.{coerces}
use Rattle.wdl_value.specs.FunctionTypes.{function_type, reads, writes}
use Rattle.wdl_typed.specs.declared.expr.TExpr.{TExpr, TExpr-F, roll-TExpr, map-TExpr, ind-TExpr, fold-TExpr, fold-roll-TExpr}
use Rattle.wdl_typed.specs.declared.expr.TExpr.TheOpen as layer
use Rattle.wdl_typed.specs.declared.expr.TExpr.TheVariants as te
use Rattle.wdl_typed.specs.declared.expr.TField.{TField}
use Rattle.wdl_typed.specs.declared.expr.TPair.{TPair}
use Rattle.wdl_typed.specs.declared.expr.TPart.{TPart}
use Rattle.wdl_typed.specs.declared.expr.TPart.TheVariants as part
use Rattle.wdl_typed.specs.Declarations.{Placed, or_type, placed_step, plain_of, type_in_place}
use Rattle.wdl_typed.specs.Typing.{Context, Typing, all_types, apply_type, exact_args, type_of, type_step, when}

module _ (c : Context) where
  abbrev placed : TExpr → Placed
  placed = fold-TExpr Placed (placed_step c)

  -- ---- the plain type of an expression with its place is its type

  abbrev Holds : TExpr → Type 0
  Holds e = (placed e).plain ≡ type_of c e

  abbrev Known : Type 0
  Known = (e : TExpr) × Holds e

  abbrev first : Known → TExpr
  first k = k.0

  abbrev exprs : TExpr-F Known → TExpr-F TExpr
  exprs = map-TExpr Known TExpr first

  abbrev by_place : TExpr-F Known → TExpr-F Typing
  by_place y = map-TExpr Placed Typing plain_of (map-TExpr TExpr Placed placed (exprs y))

  abbrev by_type : TExpr-F Known → TExpr-F Typing
  by_type y = map-TExpr TExpr Typing (type_of c) (exprs y)

  items : (ks : List Known) → map plain_of (map placed (map first ks)) ≡ map (type_of c) (map first ks)
  items [] = refl
  items (k ∷ ks) = cc (k.1, items ks)

  abbrev both : {A B : Type 0} → (A → B) → TPair A → TPair B
  both f r = record { key = f r.key; value = f r.value }

  rows : (ks : List (TPair Known)) → map (both plain_of) (map (both placed) (map (both first) ks)) ≡ map (both (type_of c)) (map (both first) ks)
  rows [] = refl
  rows (k ∷ ks) = cc (k.key.1, k.value.1, rows ks)

  abbrev field : {A B : Type 0} → (A → B) → TField A → TField B
  field f r = record { name = r.name; value = f r.value }

  fields : (ks : List (TField Known)) → map (field plain_of) (map (field placed) (map (field first) ks)) ≡ map (field (type_of c)) (map (field first) ks)
  fields [] = refl
  fields (k ∷ ks) = cc (k.value.1, fields ks)

  abbrev parts_in : TExpr-F Typing → List (TPart Typing)
  parts_in (layer.Strung ps) = ps
  parts_in y = []

  parts : (ks : List (TPart Known)) → parts_in (by_place (layer.Strung ks)) ≡ parts_in (by_type (layer.Strung ks))
  parts [] = refl
  parts (part.Chars s ∷ ks) = ap (λ ps. part.Chars s ∷ ps) (parts ks)
  parts (part.Hole h ∷ ks) =
      ap (λ (t : Typing). part.Hole (record { expr = t; choice = h.choice }) ∷ parts_in (by_place (layer.Strung ks))) h.expr.1
      ∙ ap (λ ps. part.Hole (record { expr = type_of c h.expr.0; choice = h.choice }) ∷ ps) (parts ks)

  layers : (y : TExpr-F Known) → by_place y ≡ by_type y
  layers (layer.Lit x) = refl
  layers (layer.Get key) = refl
  layers (layer.Member j name) = cc
  layers (layer.At j k) = cc
  layers (layer.Not j) = cc
  layers (layer.Neg j) = cc
  layers (layer.Binary o j k) = cc
  layers (layer.Choose i j k) = cc
  layers (layer.ListOf ks) = ap layer.ListOf (items ks)
  layers (layer.MapOf ks) = ap layer.MapOf (rows ks)
  layers (layer.PairOf j k) = cc
  layers (layer.StructOf name ks) = ap (layer.StructOf name) (fields ks)
  layers (layer.Apply f ks) = ap (layer.Apply f) (items ks)
  layers (layer.Strung ks) = ap layer.Strung (parts ks)
  layers (layer.Cast k t) = cc

  plain_type : (e : TExpr) → (placed e).plain ≡ type_of c e
  plain_type = ind-TExpr Holds (λ x y is. subst (λ (z : TExpr-F TExpr). Holds (roll-TExpr z)) is (
      ap plain_of (fold-roll-TExpr Placed (placed_step c) (exprs y))
      ∙ ap (type_step c) (layers y)
      ∙ sym (fold-roll-TExpr Typing (type_step c) (exprs y))))

  -- ---- forms

  pub plain_placed : (e : TExpr) (b : Bool) (t : Ty) → type_of c e b ≡ Some t → type_in_place c e b ≡ Some t
  plain_placed e b t h = ap (λ (o : Option Ty). or_type o ((placed e).write b)) (ap (λ (f : Typing). f b) (plain_type e) ∙ h)

  same_when : (b : Bool) (t : Ty) → b ≡ true → when b t ≡ Some t
  same_when b t h = ap (λ (q : Bool). when q t) h

  abbrev at_cast : Ty → Option Ty → Option Ty
  at_cast u o = option_and_then (λ t. when (coerces t u) u) o

  either_cast : (o q : Option Ty) (t u : Ty) → or_type o q ≡ Some t → coerces t u ≡ true → or_type (at_cast u o) (at_cast u q) ≡ Some u
  either_cast (Some s) q t u h k =
      ap (λ (o : Option Ty). or_type (at_cast u o) (at_cast u q)) h ∙ ap (λ (o : Option Ty). or_type o (at_cast u q)) (same_when (coerces t u) u k)
  either_cast None q t u h k = ap (at_cast u) h ∙ same_when (coerces t u) u k

  pub cast_placed : (e : TExpr) (b : Bool) (t u : Ty) → type_in_place c e b ≡ Some t → coerces t u ≡ true → type_in_place c (te.Cast e u) b ≡ Some u
  cast_placed e b t u h k =
      ap (λ (x : TExpr). type_in_place c x b) (sym (te.rolls-Cast e u))
      ∙ ap (λ (p : Placed). or_type (p.plain b) (p.write b)) (fold-roll-TExpr Placed (placed_step c) (layer.Cast e u))
      ∙ either_cast ((placed e).plain b) ((placed e).write b) t u h k

  -- a call of a function that writes a file
  pub write_placed : (f : Func) (e : TExpr) (b : Bool) (p : Ty) (row : FuncTyping) → writes f ≡ true → type_of c e b ≡ Some p
      → function_type f (p ∷ []) ≡ Some row → exact_args (p ∷ []) row ≡ Some row.result → type_in_place c (te.Apply f (e ∷ [])) b ≡ Some row.result
  write_placed f e b p row w h is x =
      ap (λ (z : TExpr). type_in_place c z b) (sym (te.rolls-Apply f (e ∷ [])))
      ∙ ap (λ (q : Placed). or_type (q.plain b) (q.write b)) (fold-roll-TExpr Placed (placed_step c) (layer.Apply f (e ∷ [])))
      ∙ ap (λ (o : Option Ty). or_type (option_and_then (apply_type c.outputs f) (all_types (o ∷ []))) (if writes f then option_and_then (λ ts. option_and_then (exact_args ts) (function_type f ts)) (all_types (o ∷ [])) else None)) (ap (λ (g : Typing). g b) (plain_type e) ∙ h)
      ∙ ap (λ (v : Bool). or_type (if v || reads f && not c.outputs then None else option_and_then (exact_args (p ∷ [])) (function_type f (p ∷ []))) (if v then option_and_then (exact_args (p ∷ [])) (function_type f (p ∷ [])) else None)) w
      ∙ ap (option_and_then (exact_args (p ∷ []))) is ∙ x
