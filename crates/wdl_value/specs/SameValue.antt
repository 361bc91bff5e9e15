-- Equality of values, as a test.
use Rattle.std.specs.Prelude.{Bool, true, false, ◌&&◌, List, [], ◌∷◌, map}
use Rattle.std.specs.Str.{bytes_eq}
use Rattle.std.specs.Ordering.{int_eq}
use Rattle.wdl_value.specs.declared.value.Value.{Value, Value-F, out-Value, fold-Value}
use Rattle.wdl_value.specs.declared.value.Value.TheOpen as layer
use Rattle.wdl_value.specs.declared.value.MapRow.{MapRow}
use Rattle.wdl_value.specs.declared.value.Field.{Field}
use Rattle.wdl_base.specs.Same.{same_bool}

abbrev pub ValueTest : Type 0
ValueTest = Value → Bool

abbrev pub all_same : List ValueTest → List Value → Bool
all_same [] [] = true
all_same [] (x ∷ xs) = false
all_same (f ∷ fs) [] = false
all_same (f ∷ fs) (x ∷ xs) = f x && all_same fs xs

abbrev pub rows_same : List (MapRow ValueTest) → List (MapRow Value) → Bool
rows_same [] [] = true
rows_same [] (x ∷ xs) = false
rows_same (f ∷ fs) [] = false
rows_same (f ∷ fs) (x ∷ xs) = f.key x.key && f.value x.value && rows_same fs xs

abbrev pub fields_same : List (Field ValueTest) → List (Field Value) → Bool
fields_same [] [] = true
fields_same [] (x ∷ xs) = false
fields_same (f ∷ fs) [] = false
fields_same (f ∷ fs) (x ∷ xs) = bytes_eq f.name x.name && f.value x.value && fields_same fs xs

abbrev pub same_at : Value-F ValueTest → Value-F Value → Bool
same_at (layer.Bool a) (layer.Bool b) = same_bool a b
same_at (layer.Int m) (layer.Int n) = int_eq m n
same_at (layer.Str s) (layer.Str t) = bytes_eq s t
same_at (layer.File s) (layer.File t) = bytes_eq s t
same_at (layer.List fs) (layer.List xs) = all_same fs xs
same_at (layer.Pair f g) (layer.Pair x y) = f x && g y
same_at (layer.Map fs) (layer.Map xs) = rows_same fs xs
same_at (layer.Struct n fs) (layer.Struct m xs) = bytes_eq n m && fields_same fs xs
same_at layer.Absent layer.Absent = true
same_at x y = false

abbrev pub same_value : Value → Value → Bool
same_value = fold-Value ValueTest (λ x y. same_at x (out-Value y))

abbrev pub same_all : List Value → List Value → Bool
same_all xs = all_same (map same_value xs)

abbrev pub same_rows : List (MapRow Value) → List (MapRow Value) → Bool
same_rows rows = rows_same (map (λ r. record { key = same_value r.key; value = same_value r.value }) rows)

abbrev pub same_fields : List (Field Value) → List (Field Value) → Bool
same_fields fields = fields_same (map (λ f. record { name = f.name; value = same_value f.value }) fields)
