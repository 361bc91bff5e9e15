-- What is met at the nodes of an expression, and at the lists of its parts.
use Rattle.std.specs.Prelude.{ℕ, List, map, Ok}
use Rattle.std.specs.Option.{option_copied}
use Rattle.wdl_value.specs.declared.operator.Func.{Func}
use Rattle.wdl_value.specs.declared.value.Field.{Field}
use Rattle.wdl_value.specs.declared.value.MapRow.{MapRow}
use Rattle.wdl_value.specs.declared.value.Value.{Value, out-Value}
use Rattle.wdl_value.specs.declared.value.Value.TheVariants as v
use Rattle.wdl_value.specs.Apply.{apply}
use Rattle.wdl_value.specs.Limits.{limited}
use Rattle.wdl_typed.specs.declared.expr.TExpr.{TExpr}
use Rattle.wdl_typed.specs.declared.expr.TField.{TField}
use Rattle.wdl_typed.specs.declared.expr.TPair.{TPair}
use Rattle.wdl_typed.specs.declared.expr.TPart.{TPart}
use Rattle.wdl_typed.specs.Evaluation.{Met, Setting, all_fields, all_of, all_rows, indexed, met, strung, then_, value_met}
use Rattle.wdl_eval.specs.declared.setting.Setting.{Setting as Lent}
use Rattle.wdl_eval.specs.Binds.{binds_in}
use Rattle.wdl_eval.specs.PartMaps.{parts_of}

-- the setting that is lent
abbrev pub setting_of : Lent → Setting
setting_of s = record { env = binds_in s.env; dir = s.dir.now; answer = option_copied s.answer }

-- where it keeps the limits of values
abbrev pub within : Met Value → Met Value
within outcome = then_ outcome (λ x. met (limited x))

-- `x[r]`
abbrev pub at_met : Value → Met Value → Met Value
at_met x right = then_ right (λ y. indexed (out-Value x) y (out-Value y))

-- `(x, r)`
abbrev pub pair_met : Value → Met Value → Met Value
pair_met x right = then_ right (λ y. Ok (v.Pair x y))

abbrev pub values_met : Setting → List TExpr → Met (List Value)
values_met s es = all_of (map (value_met s) es)

abbrev pub rows_met : Setting → List (TPair TExpr) → Met (List (MapRow Value))
rows_met s rows = all_rows (map (λ r. record { key = value_met s r.key; value = value_met s r.value }) rows)

abbrev pub fields_met : Setting → List (TField TExpr) → Met (List (Field Value))
fields_met s fields = all_fields (map (λ f. record { name = f.name; value = value_met s f.value }) fields)

abbrev pub text_met : Setting → List (TPart TExpr) → Met (List ℕ)
text_met s parts = strung (parts_of (value_met s) parts)

-- a function, once its arguments have values
abbrev pub called : Setting → Func → Met (List Value) → Met Value
called s f args = then_ args (λ xs. met (apply s.dir s.answer f xs))
