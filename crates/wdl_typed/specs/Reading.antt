-- Lists of expressions, and whether one among them reads what the command wrote.
use Rattle.std.specs.Prelude.{Bool, List, [], map}
use Rattle.wdl_typed.specs.declared.expr.TExpr.{TExpr, TExpr-F, map-TExpr}
use Rattle.wdl_typed.specs.declared.expr.TExpr.TheOpen as layer
use Rattle.wdl_typed.specs.declared.expr.TField.{TField}
use Rattle.wdl_typed.specs.declared.expr.TPair.{TPair}
use Rattle.wdl_typed.specs.declared.expr.TPart.{TPart}
use Rattle.wdl_typed.specs.Requests.{any_read, fields_read, is_reading, parts_read, rows_read}

abbrev pub any_reading : List TExpr → Bool
any_reading es = any_read (map is_reading es)

abbrev pub rows_reading : List (TPair TExpr) → Bool
rows_reading rows = rows_read (map (λ (r : TPair TExpr). record { key = is_reading r.key; value = is_reading r.value }) rows)

abbrev pub fields_reading : List (TField TExpr) → Bool
fields_reading fields = fields_read (map (λ (f : TField TExpr). record { name = f.name; value = is_reading f.value }) fields)

abbrev pub layer_parts : {A : Type 0} → TExpr-F A → List (TPart A)
layer_parts (layer.Strung parts) = parts
layer_parts y = []

abbrev pub parts_reading : List (TPart TExpr) → Bool
parts_reading parts = parts_read (layer_parts (map-TExpr TExpr Bool is_reading (layer.Strung parts)))
