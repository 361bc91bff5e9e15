-- A layer of a value whose parts come with a fact: what an induction over values has.
use Rattle.std.proofs.Common.{List, map}
use Rattle.wdl_value.specs.declared.value.Value.{Value, Value-F, map-Value}
use Rattle.wdl_value.specs.declared.value.MapRow.{MapRow}
use Rattle.wdl_value.specs.declared.value.Field.{Field}

module _ (Holds : Value → Type 0) where
  abbrev pub Known : Type 0
  Known = (x : Value) × Holds x

  abbrev pub plain : Value-F Known → Value-F Value
  plain = map-Value Known Value (λ (k : Known). k.0)

  abbrev pub firsts : List Known → List Value
  firsts = map (λ (k : Known). k.0)

  abbrev pub first_rows : List (MapRow Known) → List (MapRow Value)
  first_rows = map (λ (r : MapRow Known). record { key = r.key.0; value = r.value.0 })

  abbrev pub first_fields : List (Field Known) → List (Field Value)
  first_fields = map (λ (f : Field Known). record { name = f.name; value = f.value.0 })
