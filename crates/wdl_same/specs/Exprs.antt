-- Equality of typed expressions, as a test.
use Rattle.std.specs.Prelude.{Bool, true, false, ◌&&◌, List, [], ◌∷◌, map}
use Rattle.std.specs.Str.{bytes_eq}
use Rattle.wdl_value.specs.SameType.{same_type}
use Rattle.wdl_value.specs.SameValue.{same_value}
use Rattle.wdl_typed.specs.declared.expr.TExpr.{TExpr, TExpr-F, fold-TExpr, map-TExpr, out-TExpr}
use Rattle.wdl_typed.specs.declared.expr.TExpr.TheOpen as layer
use Rattle.wdl_typed.specs.declared.expr.TField.{TField}
use Rattle.wdl_typed.specs.declared.expr.TPair.{TPair}
use Rattle.wdl_typed.specs.declared.expr.TPart.{TPart}
use Rattle.wdl_typed.specs.declared.expr.TPart.TheVariants as part
use Rattle.wdl_typed.specs.Scope.{same_key}
use Rattle.wdl_same.specs.Words.{same_choice, same_func, same_op}

abbrev pub ExprTest : Type 0
ExprTest = TExpr → Bool

abbrev pub all_same : List ExprTest → List TExpr → Bool
all_same [] [] = true
all_same [] (e ∷ es) = false
all_same (f ∷ fs) [] = false
all_same (f ∷ fs) (e ∷ es) = f e && all_same fs es

abbrev pub rows_same : List (TPair ExprTest) → List (TPair TExpr) → Bool
rows_same [] [] = true
rows_same [] (r ∷ rows) = false
rows_same (f ∷ fs) [] = false
rows_same (f ∷ fs) (r ∷ rows) = f.key r.key && f.value r.value && rows_same fs rows

abbrev pub fields_same : List (TField ExprTest) → List (TField TExpr) → Bool
fields_same [] [] = true
fields_same [] (r ∷ fields) = false
fields_same (f ∷ fs) [] = false
fields_same (f ∷ fs) (r ∷ fields) = bytes_eq f.name r.name && f.value r.value && fields_same fs fields

abbrev pub part_same : TPart ExprTest → TPart TExpr → Bool
part_same (part.Chars s) (part.Chars t) = bytes_eq s t
part_same (part.Hole h) (part.Hole k) = h.expr k.expr && same_choice h.choice k.choice
part_same p q = false

abbrev pub parts_same : List (TPart ExprTest) → List (TPart TExpr) → Bool
parts_same [] [] = true
parts_same [] (p ∷ ps) = false
parts_same (f ∷ fs) [] = false
parts_same (f ∷ fs) (p ∷ ps) = part_same f p && parts_same fs ps

abbrev pub same_at : TExpr-F ExprTest → TExpr-F TExpr → Bool
same_at (layer.Lit x) (layer.Lit y) = same_value x y
same_at (layer.Get j) (layer.Get k) = same_key j k
same_at (layer.Member f n) (layer.Member e m) = f e && bytes_eq n m
same_at (layer.At f g) (layer.At a b) = f a && g b
same_at (layer.Not f) (layer.Not e) = f e
same_at (layer.Neg f) (layer.Neg e) = f e
same_at (layer.Binary o f g) (layer.Binary p a b) = same_op o p && f a && g b
same_at (layer.Choose f g h) (layer.Choose a b c) = f a && g b && h c
same_at (layer.ListOf fs) (layer.ListOf es) = all_same fs es
same_at (layer.MapOf fs) (layer.MapOf rows) = rows_same fs rows
same_at (layer.PairOf f g) (layer.PairOf a b) = f a && g b
same_at (layer.StructOf n fs) (layer.StructOf m fields) = bytes_eq n m && fields_same fs fields
same_at (layer.Apply o fs) (layer.Apply p es) = same_func o p && all_same fs es
same_at (layer.Strung fs) (layer.Strung parts) = parts_same fs parts
same_at (layer.Cast f t) (layer.Cast e u) = f e && same_type t u
same_at x y = false

abbrev pub same_expr : TExpr → TExpr → Bool
same_expr = fold-TExpr ExprTest (λ x e. same_at x (out-TExpr e))

-- ---- lists of them

abbrev pub same_exprs : List TExpr → List TExpr → Bool
same_exprs es = all_same (map same_expr es)

abbrev pub same_rows : List (TPair TExpr) → List (TPair TExpr) → Bool
same_rows rows = rows_same (map (λ r. record { key = same_expr r.key; value = same_expr r.value }) rows)

abbrev pub same_fields : List (TField TExpr) → List (TField TExpr) → Bool
same_fields fields = fields_same (map (λ f. record { name = f.name; value = same_expr f.value }) fields)

abbrev pub layer_parts : {A : Type 0} → TExpr-F A → List (TPart A)
layer_parts (layer.Strung parts) = parts
layer_parts y = []

abbrev pub same_parts : List (TPart TExpr) → List (TPart TExpr) → Bool
same_parts parts = parts_same (layer_parts (map-TExpr TExpr ExprTest same_expr (layer.Strung parts)))
