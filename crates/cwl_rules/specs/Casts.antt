-- The casts in lists of expressions.
use Rattle.std.specs.Prelude.{Bool, List, map}
use Rattle.wdl_typed.specs.declared.expr.TExpr.{TExpr}
use Rattle.wdl_typed.specs.declared.expr.TField.{TField}
use Rattle.wdl_typed.specs.declared.expr.TPair.{TPair}
use Rattle.wdl_typed.specs.declared.expr.TPart.{TPart}
use Rattle.wdl_typed.specs.Typing.{Context}
use Rattle.wdl_typing.specs.Pieces.{parts_of}
use Rattle.cwl_image.specs.Expressions.{Placing, casts_widen, fields_hold, items_hold, parts_hold, rows_hold}

abbrev pub with_casts : Context → TExpr → TExpr × Placing
with_casts c e = (e, casts_widen c e)

abbrev pub row_with : Context → TPair TExpr → TPair (TExpr × Placing)
row_with c r = record { key = with_casts c r.key; value = with_casts c r.value }

abbrev pub field_with : Context → TField TExpr → TField (TExpr × Placing)
field_with c f = record { name = f.name; value = with_casts c f.value }

abbrev pub items_widen : Context → List TExpr → Placing
items_widen c es = items_hold (map (with_casts c) es)

abbrev pub rows_widen : Context → List (TPair TExpr) → Placing
rows_widen c rows = rows_hold (map (row_with c) rows)

abbrev pub fields_widen : Context → List (TField TExpr) → Placing
fields_widen c fs = fields_hold (map (field_with c) fs)

abbrev pub parts_widen : Context → List (TPart TExpr) → Bool
parts_widen c parts = parts_hold (parts_of (with_casts c) parts)
