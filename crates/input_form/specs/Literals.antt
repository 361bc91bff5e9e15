-- Literals, and the values that they write (OpenWDL 1.1, "Expressions").
use Rattle.std.specs.Prelude.{zero, suc, ◌==◌, ℤ, pos, negsuc, Bool, true, false, ◌&&◌, List, [], ◌∷◌, map, if◌then◌else◌}
use Rattle.wdl_value.specs.declared.value.Field.{Field}
use Rattle.wdl_value.specs.declared.value.MapRow.{MapRow}
use Rattle.wdl_value.specs.declared.value.Value.{Value}
use Rattle.wdl_value.specs.declared.value.Value.TheVariants as v
use Rattle.wdl_value.specs.Parts.{int_in}
use Rattle.wdl_typed.specs.declared.expr.TExpr.{TExpr, TExpr-F, fold-TExpr}
use Rattle.wdl_typed.specs.declared.expr.TExpr.TheOpen as layer
use Rattle.wdl_typed.specs.declared.expr.TField.{TField}
use Rattle.wdl_typed.specs.declared.expr.TPair.{TPair}

abbrev pub rows_by : {A B : Type 0} → (A → B) → List (TPair A) → List (TPair B)
rows_by f = map (λ r. record { key = f r.key; value = f r.value })

abbrev pub fields_by : {A B : Type 0} → (A → B) → List (TField A) → List (TField B)
fields_by f = map (λ r. record { name = r.name; value = f r.value })

-- ---- which expressions are literals

abbrev pub all_true : List Bool → Bool
all_true [] = true
all_true (b ∷ bs) = b && all_true bs

abbrev pub rows_true : List (TPair Bool) → Bool
rows_true [] = true
rows_true (r ∷ rows) = (r.key && r.value) && rows_true rows

abbrev pub fields_true : List (TField Bool) → Bool
fields_true [] = true
fields_true (f ∷ fs) = f.value && fields_true fs

abbrev pub is_literal_step : TExpr-F Bool → Bool
is_literal_step (layer.Lit x) = true
is_literal_step (layer.Neg b) = b
is_literal_step (layer.ListOf bs) = all_true bs
is_literal_step (layer.MapOf rows) = rows_true rows
is_literal_step (layer.PairOf a b) = a && b
is_literal_step (layer.StructOf name fields) = fields_true fields
is_literal_step (layer.Cast b t) = b
is_literal_step y = false

-- A literal of a primitive type, one with `-` before it, or an array, a map, a pair or a struct of literals; casts aside.
abbrev pub is_literal : TExpr → Bool
is_literal = fold-TExpr Bool is_literal_step

-- ---- their values

-- (no Int is the negative of the least one, which stays)
abbrev pub negated : ℤ → ℤ
negated (pos zero) = pos zero
negated (pos (suc n)) = negsuc n
negated (negsuc n) = if n == 9223372036854775807 then negsuc n else pos (suc n)

abbrev pub row_of : TPair Value → MapRow Value
row_of r = record { key = r.key; value = r.value }

abbrev pub field_of : TField Value → Field Value
field_of f = record { name = f.name; value = f.value }

abbrev pub literal_step : TExpr-F Value → Value
literal_step (layer.Lit x) = x
literal_step (layer.Neg x) = v.Int (negated (int_in x))
literal_step (layer.ListOf xs) = v.List xs
literal_step (layer.MapOf rows) = v.Map (map row_of rows)
literal_step (layer.PairOf x y) = v.Pair x y
literal_step (layer.StructOf name fields) = v.Struct name (map field_of fields)
literal_step (layer.Cast x t) = x
literal_step y = v.Absent

-- the value that a literal writes, before any cast
abbrev pub literal : TExpr → Value
literal = fold-TExpr Value literal_step
