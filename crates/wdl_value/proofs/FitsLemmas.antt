-- What it says of a value that a type takes it.
use Rattle.std.proofs.Common.{◌⊎◌, inl, inr, ◌≡◌, Bool, true, false, ◌&&◌, ◌||◌, List, [], ◌∷◌, ap, refl}
use Rattle.std.proofs.lemmas.Bool.{false≢true, and_parts}
use Rattle.wdl_value.specs.declared.value.Value.{Value, Value-F, out-Value, map-Value, fold_out-Value}
use Rattle.wdl_value.specs.declared.value.Value.TheOpen as layer
use Rattle.wdl_value.specs.declared.value.MapRow.{MapRow}
use Rattle.wdl_value.specs.declared.value.Field.{Field}
use Rattle.wdl_value.specs.declared.ty.Ty.{Ty, out-Ty}
use Rattle.wdl_value.specs.declared.ty.Ty.TheOpen as type
use Rattle.wdl_value.specs.Bare.{bare, is_optional}
use Rattle.wdl_value.specs.Fits.{Structs, Test, takes_at, takes_step, takes, takes_all, takes_list, takes_rows, is_absent, is_int}

-- Absent, or not
pub absent_or : (l : Value-F Value) → (l ≡ layer.Absent) ⊎ (is_absent l ≡ false)
absent_or layer.Absent = inl refl
absent_or (layer.Bool b) = inr refl
absent_or (layer.Int b) = inr refl
absent_or (layer.Str b) = inr refl
absent_or (layer.File b) = inr refl
absent_or (layer.List b) = inr refl
absent_or (layer.Pair a b) = inr refl
absent_or (layer.Map b) = inr refl
absent_or (layer.Struct a b) = inr refl

module _ (structs : Structs) where
  -- a layer of the value, with its tests
  abbrev pub tests : Value-F Value → Value-F Test
  tests = map-Value Value Test (takes structs)

  pub takes_out : (x : Value) (t : Ty) → takes structs x t ≡ takes_step structs (tests (out-Value x)) t
  takes_out x t = ap (λ (f : Test). f t) (fold_out-Value Test (takes_step structs) x)

  -- the layer of what a type without question marks takes
  pub bool_layer : (l : Value-F Value) → takes_at structs (tests l) type.Bool ≡ true → (b : Bool) × (l ≡ layer.Bool b)
  bool_layer (layer.Bool b) h = (b, refl)
  bool_layer l h = absurd (false≢true h)

  pub int_layer : (l : Value-F Value) → takes_at structs (tests l) type.Int ≡ true → (n : _) × (l ≡ layer.Int n) × (is_int n ≡ true)
  int_layer (layer.Int n) h = (n, refl, h)
  int_layer l h = absurd (false≢true h)

  pub str_layer : (l : Value-F Value) → takes_at structs (tests l) type.Str ≡ true → (s : _) × (l ≡ layer.Str s)
  str_layer (layer.Str s) h = (s, refl)
  str_layer l h = absurd (false≢true h)

  pub file_layer : (l : Value-F Value) → takes_at structs (tests l) type.File ≡ true → (s : _) × (l ≡ layer.File s)
  file_layer (layer.File s) h = (s, refl)
  file_layer l h = absurd (false≢true h)

  pub list_items : (xs : List Value) (t : Ty) (some : Bool) → takes_list structs xs t some ≡ true → takes_all structs xs t ≡ true
  list_items [] t some h = refl
  list_items (x ∷ xs) t some h = h

  pub list_layer : (l : Value-F Value) (t : Ty) (some : Bool) → takes_at structs (tests l) (type.Array t some) ≡ true → (xs : List Value) × (l ≡ layer.List xs) × (takes_all structs xs t ≡ true)
  list_layer (layer.List xs) t some h = (xs, refl, list_items xs t some h)
  list_layer l t some h = absurd (false≢true h)

  pub pair_layer : (l : Value-F Value) (t u : Ty) → takes_at structs (tests l) (type.Pair t u) ≡ true → (x : Value) × (y : Value) × (l ≡ layer.Pair x y) × (takes structs x t ≡ true) × (takes structs y u ≡ true)
  pair_layer (layer.Pair x y) t u h = let p = and_parts (takes structs x t) (takes structs y u) h in (x, y, refl, p.0, p.1)
  pair_layer l t u h = absurd (false≢true h)

  pub map_layer : (l : Value-F Value) (t u : Ty) → takes_at structs (tests l) (type.Map t u) ≡ true → (rows : List (MapRow Value)) × (l ≡ layer.Map rows) × (takes_rows structs rows t u ≡ true)
  map_layer (layer.Map rows) t u h = (rows, refl, h)
  map_layer l t u h = absurd (false≢true h)

  pub struct_layer : (l : Value-F Value) (n : _) → takes_at structs (tests l) (type.Struct n) ≡ true → (m : _) × (fields : List (Field Value)) × (l ≡ layer.Struct m fields)
  struct_layer (layer.Struct m fields) n h = (m, fields, refl)
  struct_layer l n h = absurd (false≢true h)

  pub absent_layer : (l : Value-F Value) → takes_at structs (tests l) type.Absent ≡ true → l ≡ layer.Absent
  absent_layer layer.Absent h = refl
  absent_layer l h = absurd (false≢true h)

  -- what is not Absent is taken by the type without its question marks
  pub takes_plain : (l : Value-F Value) (t : Ty) → is_absent (tests l) ≡ false → takes_step structs (tests l) t ≡ takes_at structs (tests l) (out-Ty (bare t))
  takes_plain l t n = ap (λ b. b && is_optional (out-Ty t) || takes_at structs (tests l) (out-Ty (bare t))) n

  pub tests_absent : (l : Value-F Value) → is_absent l ≡ false → is_absent (tests l) ≡ false
  tests_absent layer.Absent n = n
  tests_absent (layer.Bool b) n = refl
  tests_absent (layer.Int b) n = refl
  tests_absent (layer.Str b) n = refl
  tests_absent (layer.File b) n = refl
  tests_absent (layer.List b) n = refl
  tests_absent (layer.Pair a b) n = refl
  tests_absent (layer.Map b) n = refl
  tests_absent (layer.Struct a b) n = refl
