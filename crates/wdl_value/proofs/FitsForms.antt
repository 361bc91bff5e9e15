-- The values that fit a type, and how values that fit are made: what a proof about expressions goes by.
use Rattle.std.proofs.Common.{◌≡◌, ◌⊎◌, inl, inr, ℤ, Bool, true, false, ◌&&◌, ◌||◌, List, [], ◌∷◌, sym, ap, ◌∙◌, refl}
use Rattle.std.proofs.lemmas.Bool.{and_parts, and_from}
use Rattle.wdl_value.specs.declared.value.Value.{Value, Value-F, out-Value, roll-Value, roll-out-Value, map-Value}
use Rattle.wdl_value.specs.declared.value.Value.TheVariants as v
use Rattle.wdl_value.specs.declared.value.Value.TheOpen as layer
use Rattle.wdl_value.specs.declared.value.MapRow.{MapRow}
use Rattle.wdl_value.specs.declared.ty.Ty.{Ty, Ty-F, out-Ty}
use Rattle.wdl_value.specs.declared.ty.Ty.TheVariants as ty
use Rattle.wdl_value.specs.declared.ty.Ty.TheOpen as type
use Rattle.wdl_value.specs.Bare.{bare, bare-Opt, is_optional}
use Rattle.wdl_value.specs.Fits.{Structs, is_int, takes_at, takes_step, takes, takes_all, takes_list, takes_rows, is_absent, fits}
use Rattle.wdl_value.specs.Keyed.{distinct_keys, rows_of, keyed_step, keyed, keyed_out, keyed_all, keyed_rows}
use Rattle.wdl_value.proofs.FitsLemmas.{absent_or, tests_absent, tests, takes_out, takes_plain, bool_layer, int_layer, str_layer, file_layer, list_layer, pair_layer, map_layer}

-- the value that a layer is of
made : (x : Value) (l : Value-F Value) → out-Value x ≡ l → x ≡ roll-Value l
made x l e = sym (roll-out-Value x) ∙ ap roll-Value e

-- keys of what a layer is of
keyed_at : (x : Value) (l : Value-F Value) → out-Value x ≡ l → keyed x ≡ keyed_step x (map-Value Value Bool keyed l)
keyed_at x l is = keyed_out x ∙ ap (λ m. keyed_step x (map-Value Value Bool keyed m)) is

module _ (structs : Structs) where
  -- each item, and each row, fits
  abbrev pub all_fit : List Value → Ty → Bool
  all_fit [] t = true
  all_fit (x ∷ xs) t = fits structs x t && all_fit xs t

  abbrev pub rows_fit : List (MapRow Value) → Ty → Ty → Bool
  rows_fit [] t u = true
  rows_fit (r ∷ rows) t u = fits structs r.key t && fits structs r.value u && rows_fit rows t u

  fits_parts : (x : Value) (t : Ty) → fits structs x t ≡ true → (takes structs x t ≡ true) × (keyed x ≡ true)
  fits_parts x t = and_parts (takes structs x t) (keyed x)

  fits_from : (x : Value) (t : Ty) → takes structs x t ≡ true → keyed x ≡ true → fits structs x t ≡ true
  fits_from x t = and_from (takes structs x t) (keyed x)

  all_parts : (xs : List Value) (t : Ty) → all_fit xs t ≡ true → (takes_all structs xs t ≡ true) × (keyed_all xs ≡ true)
  all_parts [] t h = (refl, refl)
  all_parts (x ∷ xs) t h =
      let p = and_parts (fits structs x t) (all_fit xs t) h in
      let q = fits_parts x t p.0 in
      let r = all_parts xs t p.1 in
      (and_from _ _ q.0 r.0, and_from _ _ q.1 r.1)

  all_from : (xs : List Value) (t : Ty) → takes_all structs xs t ≡ true → keyed_all xs ≡ true → all_fit xs t ≡ true
  all_from [] t h k = refl
  all_from (x ∷ xs) t h k =
      let p = and_parts (takes structs x t) (takes_all structs xs t) h in
      let q = and_parts (keyed x) (keyed_all xs) k in
      and_from (fits structs x t) (all_fit xs t) (fits_from x t p.0 q.0) (all_from xs t p.1 q.1)

  rows_parts : (rows : List (MapRow Value)) (t u : Ty) → rows_fit rows t u ≡ true → (takes_rows structs rows t u ≡ true) × (keyed_rows rows ≡ true)
  rows_parts [] t u h = (refl, refl)
  rows_parts (x ∷ rows) t u h =
      let p = and_parts (fits structs x.key t && fits structs x.value u) (rows_fit rows t u) h in
      let q = and_parts (fits structs x.key t) (fits structs x.value u) p.0 in
      let k = fits_parts x.key t q.0 in
      let w = fits_parts x.value u q.1 in
      let r = rows_parts rows t u p.1 in
      (and_from _ _ (and_from _ _ k.0 w.0) r.0, and_from _ _ (and_from _ _ k.1 w.1) r.1)

  rows_from : (rows : List (MapRow Value)) (t u : Ty) → takes_rows structs rows t u ≡ true → keyed_rows rows ≡ true → rows_fit rows t u ≡ true
  rows_from [] t u h k = refl
  rows_from (x ∷ rows) t u h k =
      let p = and_parts (takes structs x.key t && takes structs x.value u) (takes_rows structs rows t u) h in
      let q = and_parts (takes structs x.key t) (takes structs x.value u) p.0 in
      let m = and_parts (keyed x.key && keyed x.value) (keyed_rows rows) k in
      let n = and_parts (keyed x.key) (keyed x.value) m.0 in
      and_from (fits structs x.key t && fits structs x.value u) (rows_fit rows t u)
      (and_from (fits structs x.key t) (fits structs x.value u) (fits_from x.key t q.0 n.0) (fits_from x.value u q.1 n.1)) (rows_from rows t u p.1 m.1)

  -- at a type without question marks, by the layers of both
  at_layers : (x : Value) (l : Value-F Value) (t : Ty) (z : Ty-F Ty) → out-Value x ≡ l → is_optional (out-Ty t) ≡ false → out-Ty (bare t) ≡ z → takes structs x t ≡ takes_at structs (tests structs l) z
  at_layers x l t z e n f =
      takes_out structs x t
      ∙ ap (λ (m : Value-F Value). takes_step structs (tests structs m) t) e
      ∙ ap (λ b. is_absent (tests structs l) && b || takes_at structs (tests structs l) (out-Ty (bare t))) n
      ∙ and_false (is_absent (tests structs l)) (takes_at structs (tests structs l) (out-Ty (bare t)))
      ∙ ap (takes_at structs (tests structs l)) f
    where
      and_false : (a b : Bool) → (a && false || b) ≡ b
      and_false true b = refl
      and_false false b = refl

  at-Bool : (x : Value) (l : Value-F Value) → out-Value x ≡ l → takes structs x ty.Bool ≡ takes_at structs (tests structs l) type.Bool
  at-Bool x l e = at_layers x l ty.Bool type.Bool e (ap is_optional ty.outs-Bool) ty.outs-Bool

  at-Int : (x : Value) (l : Value-F Value) → out-Value x ≡ l → takes structs x ty.Int ≡ takes_at structs (tests structs l) type.Int
  at-Int x l e = at_layers x l ty.Int type.Int e (ap is_optional ty.outs-Int) ty.outs-Int

  at-Str : (x : Value) (l : Value-F Value) → out-Value x ≡ l → takes structs x ty.Str ≡ takes_at structs (tests structs l) type.Str
  at-Str x l e = at_layers x l ty.Str type.Str e (ap is_optional ty.outs-Str) ty.outs-Str

  at-File : (x : Value) (l : Value-F Value) → out-Value x ≡ l → takes structs x ty.File ≡ takes_at structs (tests structs l) type.File
  at-File x l e = at_layers x l ty.File type.File e (ap is_optional ty.outs-File) ty.outs-File

  at-Array : (x : Value) (l : Value-F Value) (t : Ty) (some : Bool) → out-Value x ≡ l → takes structs x (ty.Array t some) ≡ takes_at structs (tests structs l) (type.Array t some)
  at-Array x l t some e = at_layers x l (ty.Array t some) (type.Array t some) e (ap is_optional (ty.outs-Array t some)) (ty.outs-Array t some)

  at-Pair : (x : Value) (l : Value-F Value) (t u : Ty) → out-Value x ≡ l → takes structs x (ty.Pair t u) ≡ takes_at structs (tests structs l) (type.Pair t u)
  at-Pair x l t u e = at_layers x l (ty.Pair t u) (type.Pair t u) e (ap is_optional (ty.outs-Pair t u)) (ty.outs-Pair t u)

  at-Map : (x : Value) (l : Value-F Value) (t u : Ty) → out-Value x ≡ l → takes structs x (ty.Map t u) ≡ takes_at structs (tests structs l) (type.Map t u)
  at-Map x l t u e = at_layers x l (ty.Map t u) (type.Map t u) e (ap is_optional (ty.outs-Map t u)) (ty.outs-Map t u)

  -- ---- what fits

  pub a_bool : (x : Value) → fits structs x ty.Bool ≡ true → (b : Bool) × (x ≡ v.Bool b)
  a_bool x h = let p = bool_layer structs (out-Value x) (sym (at-Bool x (out-Value x) refl) ∙ (fits_parts x ty.Bool h).0) in (p.0, made x (layer.Bool p.0) p.1 ∙ v.rolls-Bool p.0)

  pub an_int : (x : Value) → fits structs x ty.Int ≡ true → (n : ℤ) × (x ≡ v.Int n) × (is_int n ≡ true)
  an_int x h = let p = int_layer structs (out-Value x) (sym (at-Int x (out-Value x) refl) ∙ (fits_parts x ty.Int h).0) in (p.0, made x (layer.Int p.0) p.1 ∙ v.rolls-Int p.0, p.2)

  pub a_str : (x : Value) → fits structs x ty.Str ≡ true → (s : _) × (x ≡ v.Str s)
  a_str x h = let p = str_layer structs (out-Value x) (sym (at-Str x (out-Value x) refl) ∙ (fits_parts x ty.Str h).0) in (p.0, made x (layer.Str p.0) p.1 ∙ v.rolls-Str p.0)

  pub a_file : (x : Value) → fits structs x ty.File ≡ true → (s : _) × (x ≡ v.File s)
  a_file x h = let p = file_layer structs (out-Value x) (sym (at-File x (out-Value x) refl) ∙ (fits_parts x ty.File h).0) in (p.0, made x (layer.File p.0) p.1 ∙ v.rolls-File p.0)

  pub a_list : (x : Value) (t : Ty) (some : Bool) → fits structs x (ty.Array t some) ≡ true → (xs : List Value) × (x ≡ v.List xs) × (out-Value x ≡ layer.List xs) × (all_fit xs t ≡ true)
  a_list x t some h =
      let f = fits_parts x (ty.Array t some) h in
      let p = list_layer structs (out-Value x) t some (sym (at-Array x (out-Value x) t some refl) ∙ f.0) in
      (p.0, made x (layer.List p.0) p.1 ∙ v.rolls-List p.0, p.1, all_from p.0 t p.2 (sym (keyed_at x (layer.List p.0) p.1) ∙ f.1))

  pub a_pair : (x : Value) (t u : Ty) → fits structs x (ty.Pair t u) ≡ true → (y : Value) × (z : Value) × (x ≡ v.Pair y z) × (out-Value x ≡ layer.Pair y z) × (fits structs y t ≡ true) × (fits structs z u ≡ true)
  a_pair x t u h =
      let f = fits_parts x (ty.Pair t u) h in
      let p = pair_layer structs (out-Value x) t u (sym (at-Pair x (out-Value x) t u refl) ∙ f.0) in
      let k = and_parts (keyed p.0) (keyed p.1) (sym (keyed_at x (layer.Pair p.0 p.1) p.2) ∙ f.1) in
      (p.0, p.1, made x (layer.Pair p.0 p.1) p.2 ∙ v.rolls-Pair p.0 p.1, p.2, fits_from p.0 t p.3 k.0, fits_from p.1 u p.4 k.1)

  pub a_map : (x : Value) (t u : Ty) → fits structs x (ty.Map t u) ≡ true → (rows : List (MapRow Value)) × (x ≡ v.Map rows) × (out-Value x ≡ layer.Map rows) × (rows_fit rows t u ≡ true) × (distinct_keys rows ≡ true)
  a_map x t u h =
      let f = fits_parts x (ty.Map t u) h in
      let p = map_layer structs (out-Value x) t u (sym (at-Map x (out-Value x) t u refl) ∙ f.0) in
      let k = and_parts (distinct_keys (rows_of (out-Value x))) (keyed_rows p.0) (sym (keyed_at x (layer.Map p.0) p.1) ∙ f.1) in
      (p.0, made x (layer.Map p.0) p.1 ∙ v.rolls-Map p.0, p.1, rows_from p.0 t u p.2 k.1, sym (ap (λ m. distinct_keys (rows_of m)) p.1) ∙ k.0)

  -- ---- what is made to fit

  pub bool_fits : (b : Bool) → fits structs (v.Bool b) ty.Bool ≡ true
  bool_fits b = fits_from (v.Bool b) ty.Bool (at-Bool (v.Bool b) (layer.Bool b) (v.outs-Bool b)) (keyed_at (v.Bool b) (layer.Bool b) (v.outs-Bool b))

  pub int_fits : (n : ℤ) → is_int n ≡ true → fits structs (v.Int n) ty.Int ≡ true
  int_fits n h = fits_from (v.Int n) ty.Int (at-Int (v.Int n) (layer.Int n) (v.outs-Int n) ∙ h) (keyed_at (v.Int n) (layer.Int n) (v.outs-Int n))

  pub str_fits : (s : _) → fits structs (v.Str s) ty.Str ≡ true
  str_fits s = fits_from (v.Str s) ty.Str (at-Str (v.Str s) (layer.Str s) (v.outs-Str s)) (keyed_at (v.Str s) (layer.Str s) (v.outs-Str s))

  pub file_fits : (s : _) → fits structs (v.File s) ty.File ≡ true
  file_fits s = fits_from (v.File s) ty.File (at-File (v.File s) (layer.File s) (v.outs-File s)) (keyed_at (v.File s) (layer.File s) (v.outs-File s))

  pub pair_fits : (x y : Value) (t u : Ty) → fits structs x t ≡ true → fits structs y u ≡ true → fits structs (v.Pair x y) (ty.Pair t u) ≡ true
  pair_fits x y t u h k =
      let p = fits_parts x t h in
      let q = fits_parts y u k in
      fits_from (v.Pair x y) (ty.Pair t u)
      (at-Pair (v.Pair x y) (layer.Pair x y) t u (v.outs-Pair x y) ∙ and_from (takes structs x t) (takes structs y u) p.0 q.0)
      (keyed_at (v.Pair x y) (layer.Pair x y) (v.outs-Pair x y) ∙ and_from (keyed x) (keyed y) p.1 q.1)

  -- an array, and one of an item or more
  pub list_fits : (xs : List Value) (t : Ty) → all_fit xs t ≡ true → fits structs (v.List xs) (ty.Array t false) ≡ true
  list_fits xs t h =
      let p = all_parts xs t h in
      fits_from (v.List xs) (ty.Array t false)
      (at-Array (v.List xs) (layer.List xs) t false (v.outs-List xs) ∙ any xs p.0)
      (keyed_at (v.List xs) (layer.List xs) (v.outs-List xs) ∙ p.1)
    where
      any : (xs : List Value) → takes_all structs xs t ≡ true → takes_list structs xs t false ≡ true
      any [] h = refl
      any (x ∷ xs) h = h

  pub some_fit : (x : Value) (xs : List Value) (t : Ty) (some : Bool) → all_fit (x ∷ xs) t ≡ true → fits structs (v.List (x ∷ xs)) (ty.Array t some) ≡ true
  some_fit x xs t some h =
      let p = all_parts (x ∷ xs) t h in
      fits_from (v.List (x ∷ xs)) (ty.Array t some)
      (at-Array (v.List (x ∷ xs)) (layer.List (x ∷ xs)) t some (v.outs-List (x ∷ xs)) ∙ p.0)
      (keyed_at (v.List (x ∷ xs)) (layer.List (x ∷ xs)) (v.outs-List (x ∷ xs)) ∙ p.1)

  pub map_fits : (rows : List (MapRow Value)) (t u : Ty) → rows_fit rows t u ≡ true → distinct_keys rows ≡ true → fits structs (v.Map rows) (ty.Map t u) ≡ true
  map_fits rows t u h d =
      let p = rows_parts rows t u h in
      let e = v.outs-Map rows in
      fits_from (v.Map rows) (ty.Map t u)
      (at-Map (v.Map rows) (layer.Map rows) t u e ∙ p.0)
      (keyed_at (v.Map rows) (layer.Map rows) e ∙ and_from (distinct_keys (rows_of (out-Value (v.Map rows)))) (keyed_rows rows) (ap (λ m. distinct_keys (rows_of m)) e ∙ d) p.1)

  -- ---- optional types

  opt_bare : (l : Value-F Value) (t : Ty) → is_absent l ≡ false → takes_step structs (tests structs l) (ty.Opt t) ≡ takes_step structs (tests structs l) t
  opt_bare l t n =
      takes_plain structs l (ty.Opt t) (tests_absent structs l n)
      ∙ ap (λ (u : Ty). takes_at structs (tests structs l) (out-Ty u)) (bare-Opt t)
      ∙ sym (takes_plain structs l t (tests_absent structs l n))

  takes_absent : (x : Value) (t : Ty) → out-Value x ≡ layer.Absent → takes structs x (ty.Opt t) ≡ true
  takes_absent x t e =
      takes_out structs x (ty.Opt t)
      ∙ ap (λ (m : Value-F Value). takes_step structs (tests structs m) (ty.Opt t)) e
      ∙ ap (λ (z : Ty-F Ty). is_optional z || takes_at structs (tests structs layer.Absent) (out-Ty (bare (ty.Opt t)))) (ty.outs-Opt t)

  pub absent_fits : (t : Ty) → fits structs v.Absent (ty.Opt t) ≡ true
  absent_fits t = fits_from v.Absent (ty.Opt t) (takes_absent v.Absent t v.outs-Absent) (keyed_at v.Absent layer.Absent v.outs-Absent)

  pub opt_fits : (x : Value) (t : Ty) → fits structs x t ≡ true → fits structs x (ty.Opt t) ≡ true
  opt_fits x t h = let p = fits_parts x t h in fits_from x (ty.Opt t) (by_absence (absent_or (out-Value x)) p.0) p.1
    where
      by_absence : (out-Value x ≡ layer.Absent) ⊎ (is_absent (out-Value x) ≡ false) → takes structs x t ≡ true → takes structs x (ty.Opt t) ≡ true
      by_absence (inl e) h = takes_absent x t e
      by_absence (inr n) h = takes_out structs x (ty.Opt t) ∙ opt_bare (out-Value x) t n ∙ sym (takes_out structs x t) ∙ h

  -- what fits an optional type is Absent, or fits the inner type
  pub an_opt : (x : Value) (t : Ty) → fits structs x (ty.Opt t) ≡ true → (x ≡ v.Absent) ⊎ (fits structs x t ≡ true)
  an_opt x t h = let p = fits_parts x (ty.Opt t) h in by_absence (absent_or (out-Value x)) p.0 p.1
    where
      by_absence : (out-Value x ≡ layer.Absent) ⊎ (is_absent (out-Value x) ≡ false) → takes structs x (ty.Opt t) ≡ true → keyed x ≡ true → (x ≡ v.Absent) ⊎ (fits structs x t ≡ true)
      by_absence (inl e) h k = inl (made x layer.Absent e ∙ v.rolls-Absent)
      by_absence (inr n) h k = inr (fits_from x t (takes_out structs x t ∙ sym (opt_bare (out-Value x) t n) ∙ sym (takes_out structs x (ty.Opt t)) ∙ h) k)
