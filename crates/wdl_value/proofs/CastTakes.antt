-- What a type that coerces to another one takes is cast to what that one takes: an induction by one layer of the value.
use Rattle.std.proofs.Common.{◌≡◌, Bool, true, false, ◌&&◌, ◌||◌, List, [], ◌∷◌, map, Ok, Err, sym, ap, ◌∙◌, subst, refl}
use Rattle.std.proofs.lemmas.Bool.{false≢true, and_parts, and_from}
use Rattle.std.proofs.lemmas.Slice.Eq.{bytes_eq-Decides}
use denote.Hole.Carrier.{out, hidden}
use Rattle.wdl_value.specs.declared.casting.CastFault.TheVariants.{EmptyArray, NoMemory as OutOfMemory}
use Rattle.wdl_value.specs.declared.value.Value.{Value, Value-F, out-Value, roll-Value, out-roll-Value, map-Value, ind-Value}
use Rattle.wdl_value.specs.declared.value.Value.TheVariants as v
use Rattle.wdl_value.specs.declared.value.Value.TheOpen as layer
use Rattle.wdl_value.specs.declared.value.MapRow.{MapRow}
use Rattle.wdl_value.specs.declared.ty.Ty.{Ty, Ty-F, out-Ty, roll-Ty, roll-out-Ty, map-Ty, fold_out-Ty, more_of-Ty, end_of-Ty}
use Rattle.wdl_value.specs.declared.ty.Ty.TheVariants as ty
use Rattle.wdl_value.specs.declared.ty.Ty.TheOpen as type
use Rattle.wdl_value.specs.declared.ty.Ty.TheBlock.{shape-the_row-Ty-0, hidden-the_row-Ty-0}
use Rattle.wdl_value.specs.Bare.{bare, is_optional, bare-Opt}
use Rattle.wdl_value.specs.SameType.{TypeTest}
use Rattle.wdl_value.specs.Coerces.{opt_coerces, takes_absent, plain_coerces, coerces_step, coerces}
use Rattle.wdl_value.specs.Fits.{Structs, takes_at, takes_step, takes, takes_all, takes_rows, is_absent}
use Rattle.wdl_value.specs.Cast.{Checked, and_then, Caster, each, each_row, list_cast, cast_at, cast}
use Rattle.wdl_value.specs.CastOut.{cast_out}
use Rattle.wdl_value.proofs.FitsLemmas.{tests, takes_out, takes_plain, list_items}
use Rattle.wdl_value.proofs.ValueLayers.{Known, plain, firsts, first_rows}

-- ---- types

abbrev coercions : Ty-F Ty → Ty-F TypeTest
coercions = map-Ty Ty TypeTest coerces

coerces_out : (t u : Ty) → coerces t u ≡ coerces_step (coercions (out-Ty t)) u
coerces_out t u = ap (λ (f : TypeTest). f u) (fold_out-Ty TypeTest coerces_step t)

absent_coerces : (z : Ty-F Ty) (u : Ty) → takes_absent z ≡ true → coerces_step (coercions z) u ≡ true → takes_absent (out-Ty u) ≡ true
absent_coerces (type.Opt t) u h k = to_optional (out-Ty u) k
  where
    to_optional : (w : Ty-F Ty) → opt_coerces (coerces t) w ≡ true → takes_absent w ≡ true
    to_optional (type.Opt s) k = refl
    to_optional w k = absurd (false≢true k)
absent_coerces type.Absent u h k = k
absent_coerces z u h k = absurd (false≢true h)

-- of two types without question marks
abbrev BareCoerce : Ty-F Ty → Ty-F Ty → Type 0
BareCoerce type.Absent w = Unit {0}
BareCoerce type.Empty w = Unit {0}
BareCoerce (type.Opt t) w = Unit {0}
BareCoerce z w = plain_coerces (coercions z) w ≡ true

plain_case : (z : Ty-F Ty) (u : Ty) → is_optional z ≡ false → coerces_step (coercions z) u ≡ true → BareCoerce z (out-Ty (bare u))
plain_case (type.Opt t) u n h = tt
plain_case type.Absent u n h = tt
plain_case type.Empty u n h = tt
plain_case type.Bool u n h = h
plain_case type.Int u n h = h
plain_case type.Str u n h = h
plain_case type.File u n h = h
plain_case (type.Array t some) u n h = h
plain_case (type.Map t s) u n h = h
plain_case (type.Pair t s) u n h = h
plain_case (type.Struct name) u n h = h

-- the inner type of an optional one
optional : (f : TypeTest) (u : Ty) → opt_coerces f (out-Ty u) ≡ true → (w : Ty) × (u ≡ ty.Opt w) × (f w ≡ true)
optional f u h = by_layer (out-Ty u) refl h
  where
    by_layer : (z : Ty-F Ty) → out-Ty u ≡ z → opt_coerces f z ≡ true → (w : Ty) × (u ≡ ty.Opt w) × (f w ≡ true)
    by_layer (type.Opt w) is h = (w, sym (roll-out-Ty u) ∙ ap roll-Ty is ∙ ty.rolls-Opt w, h)
    by_layer z is h = absurd (false≢true h)

coerces-bare : (t u : Ty) → coerces t u ≡ true → BareCoerce (out-Ty (bare t)) (out-Ty (bare u))
unfolding shape-the_row-Ty-0 hidden-the_row-Ty-0 hidden
coerces-bare (ty.Opt' s (more_of-Ty t end_of-Ty)) u h =
    let k : opt_coerces (coerces t) (out-Ty u) ≡ true = sym (coerces_out (ty.Opt t) u ∙ ap (λ (z : Ty-F Ty). coerces_step (coercions z) u) (ty.outs-Opt t)) ∙ h in
    let p = optional (coerces t) u k in
    subst (λ (w : Ty). BareCoerce (out-Ty (bare t)) (out-Ty w)) (sym (ap bare p.1 ∙ bare-Opt p.0)) (coerces-bare t p.0 p.2)
coerces-bare ty.Bool u h = plain_case _ u (ap is_optional ty.outs-Bool) (sym (coerces_out ty.Bool u) ∙ h)
coerces-bare ty.Int u h = plain_case _ u (ap is_optional ty.outs-Int) (sym (coerces_out ty.Int u) ∙ h)
coerces-bare ty.Str u h = plain_case _ u (ap is_optional ty.outs-Str) (sym (coerces_out ty.Str u) ∙ h)
coerces-bare ty.File u h = plain_case _ u (ap is_optional ty.outs-File) (sym (coerces_out ty.File u) ∙ h)
coerces-bare (ty.Array' s t some) u h = plain_case _ u (ap is_optional (ty.outs-Array' s t some)) (sym (coerces_out (ty.Array' s t some) u) ∙ h)
coerces-bare (ty.Map' s t z w) u h = plain_case _ u (ap is_optional (ty.outs-Map' s t z w)) (sym (coerces_out (ty.Map' s t z w) u) ∙ h)
coerces-bare (ty.Pair' s t z w) u h = plain_case _ u (ap is_optional (ty.outs-Pair' s t z w)) (sym (coerces_out (ty.Pair' s t z w) u) ∙ h)
coerces-bare (ty.Struct n) u h = plain_case _ u (ap is_optional (ty.outs-Struct n)) (sym (coerces_out (ty.Struct n) u) ∙ h)
coerces-bare ty.Absent u h = plain_case _ u (ap is_optional ty.outs-Absent) (sym (coerces_out ty.Absent u) ∙ h)
coerces-bare ty.Empty u h = plain_case _ u (ap is_optional ty.outs-Empty) (sym (coerces_out ty.Empty u) ∙ h)

-- ---- values

module _ (structs : Structs) where
  absent_fits : (t : Ty) → takes_step structs layer.Absent t ≡ takes_absent (out-Ty t)
  unfolding out-Ty out
  absent_fits (ty.Opt' s t) = refl
  absent_fits ty.Bool = refl
  absent_fits ty.Int = refl
  absent_fits ty.Str = refl
  absent_fits ty.File = refl
  absent_fits (ty.Array' s t some) = refl
  absent_fits (ty.Map' s t z u) = refl
  absent_fits (ty.Pair' s t z u) = refl
  absent_fits (ty.Struct n) = refl
  absent_fits ty.Absent = refl
  absent_fits ty.Empty = refl

  -- an outcome that fits, by the layer of the type without its question marks
  Lands : Ty-F Ty → Checked Value → Type 0
  Lands w (Ok x) = takes_at structs (tests structs (out-Value x)) w ≡ true
  Lands w (Err EmptyArray) = Unit {0}
  Lands w (Err OutOfMemory) = ⊥

  -- an outcome that the type takes
  abbrev pub IsTaken : Ty → Checked Value → Type 0
  IsTaken t (Ok x) = takes structs x t ≡ true
  IsTaken t (Err EmptyArray) = Unit {0}
  IsTaken t (Err OutOfMemory) = ⊥

  abbrev Holds : Value → Type 0
  Holds x = (t u : Ty) → takes structs x t ≡ true → coerces t u ≡ true → IsTaken u (cast x u)

  lands_fits : (u : Ty) (r : Checked Value) → Lands (out-Ty (bare u)) r → IsTaken u r
  unfolding Lands
  lands_fits u (Ok x) h = takes_out structs x u ∙ or_right _ _ h
    where
      or_right : (a b : Bool) → b ≡ true → (a || b) ≡ true
      or_right true b h = refl
      or_right false b h = h
  lands_fits u (Err EmptyArray) h = h
  lands_fits u (Err OutOfMemory) h = h

  -- ---- lists

  EachFits : Ty → Checked (List Value) → Type 0
  EachFits u (Ok xs) = takes_all structs xs u ≡ true
  EachFits u (Err EmptyArray) = Unit {0}
  EachFits u (Err OutOfMemory) = ⊥

  cons_fits : (r : Checked Value) (rs : Checked (List Value)) (u : Ty) → IsTaken u r → EachFits u rs → EachFits u (and_then r (λ x. and_then rs (λ xs. Ok (x ∷ xs))))
  unfolding EachFits
  cons_fits (Ok x) (Ok xs) u h k = and_from (takes structs x u) (takes_all structs xs u) h k
  cons_fits (Ok x) (Err EmptyArray) u h k = tt
  cons_fits (Ok x) (Err OutOfMemory) u h k = k
  cons_fits (Err EmptyArray) rs u h k = tt
  cons_fits (Err OutOfMemory) rs u h k = h

  each_fits : (ks : List (Known Holds)) (t u : Ty) → takes_all structs (firsts Holds ks) t ≡ true → coerces t u ≡ true → EachFits u (each (map cast (firsts Holds ks)) u)
  unfolding EachFits
  each_fits [] t u h c = refl
  each_fits (k ∷ ks) t u h c =
      let p = and_parts (takes structs k.0 t) (takes_all structs (firsts Holds ks) t) h in
      cons_fits (cast k.0 u) (each (map cast (firsts Holds ks)) u) u (k.1 t u p.0 c) (each_fits ks t u p.1 c)

  made_list : (r : Checked Value) (rs : Checked (List Value)) (u : Ty) (some : Bool) → IsTaken u r → EachFits u rs → Lands (type.Array u some) (and_then (and_then r (λ x. and_then rs (λ xs. Ok (x ∷ xs)))) (λ xs. Ok (v.List xs)))
  unfolding EachFits Lands
  made_list (Ok x) (Ok xs) u some h k =
      ap (λ (l : Value-F Value). takes_at structs (tests structs l) (type.Array u some)) (v.outs-List (x ∷ xs))
      ∙ and_from (takes structs x u) (takes_all structs xs u) h k
  made_list (Ok x) (Err EmptyArray) u some h k = tt
  made_list (Ok x) (Err OutOfMemory) u some h k = k
  made_list (Err EmptyArray) rs u some h k = tt
  made_list (Err OutOfMemory) rs u some h k = h

  list_lands : (ks : List (Known Holds)) (t u : Ty) (some : Bool) → takes_all structs (firsts Holds ks) t ≡ true → coerces t u ≡ true → Lands (type.Array u some) (list_cast (map cast (firsts Holds ks)) u some)
  unfolding Lands
  list_lands [] t u true h c = tt
  list_lands [] t u false h c = ap (λ (l : Value-F Value). takes_at structs (tests structs l) (type.Array u false)) (v.outs-List [])
  list_lands (k ∷ ks) t u some h c =
      let p = and_parts (takes structs k.0 t) (takes_all structs (firsts Holds ks) t) h in
      made_list (cast k.0 u) (each (map cast (firsts Holds ks)) u) u some (k.1 t u p.0 c) (each_fits ks t u p.1 c)

  made_pair : (r q : Checked Value) (t u : Ty) → IsTaken t r → IsTaken u q → Lands (type.Pair t u) (and_then r (λ a. and_then q (λ b. Ok (v.Pair a b))))
  unfolding Lands
  made_pair (Ok x) (Ok y) t u h k = ap (λ (l : Value-F Value). takes_at structs (tests structs l) (type.Pair t u)) (v.outs-Pair x y) ∙ and_from (takes structs x t) (takes structs y u) h k
  made_pair (Ok x) (Err EmptyArray) t u h k = tt
  made_pair (Ok x) (Err OutOfMemory) t u h k = k
  made_pair (Err EmptyArray) q t u h k = tt
  made_pair (Err OutOfMemory) q t u h k = h

  -- ---- rows

  abbrev row_casts : List (MapRow Value) → List (MapRow Caster)
  row_casts = map (λ (r : MapRow Value). record { key = cast r.key; value = cast r.value })

  RowsFit : Ty → Ty → Checked (List (MapRow Value)) → Type 0
  RowsFit t u (Ok xs) = takes_rows structs xs t u ≡ true
  RowsFit t u (Err EmptyArray) = Unit {0}
  RowsFit t u (Err OutOfMemory) = ⊥

  cons_row : (r q : Checked Value) (rs : Checked (List (MapRow Value))) (t u : Ty) → IsTaken t r → IsTaken u q → RowsFit t u rs → RowsFit t u (and_then r (λ k. and_then q (λ x. and_then rs (λ xs. Ok (record { key = k; value = x } ∷ xs)))))
  unfolding RowsFit
  cons_row (Ok k) (Ok x) (Ok xs) t u h i j = and_from (takes structs k t && takes structs x u) (takes_rows structs xs t u) (and_from (takes structs k t) (takes structs x u) h i) j
  cons_row (Ok k) (Ok x) (Err EmptyArray) t u h i j = tt
  cons_row (Ok k) (Ok x) (Err OutOfMemory) t u h i j = j
  cons_row (Ok k) (Err EmptyArray) rs t u h i j = tt
  cons_row (Ok k) (Err OutOfMemory) rs t u h i j = i
  cons_row (Err EmptyArray) q rs t u h i j = tt
  cons_row (Err OutOfMemory) q rs t u h i j = h

  rows_land : (ks : List (MapRow (Known Holds))) (t s u w : Ty) → takes_rows structs (first_rows Holds ks) t s ≡ true → coerces t u ≡ true → coerces s w ≡ true → RowsFit u w (each_row (row_casts (first_rows Holds ks)) u w)
  unfolding RowsFit
  rows_land [] t s u w h c d = refl
  rows_land (k ∷ ks) t s u w h c d =
      let p = and_parts (takes structs k.key.0 t && takes structs k.value.0 s) (takes_rows structs (first_rows Holds ks) t s) h in
      let q = and_parts (takes structs k.key.0 t) (takes structs k.value.0 s) p.0 in
      cons_row (cast k.key.0 u) (cast k.value.0 w) (each_row (row_casts (first_rows Holds ks)) u w) u w (k.key.1 t u q.0 c) (k.value.1 s w q.1 d) (rows_land ks t s u w p.1 c d)

  made_map : (t u : Ty) (rs : Checked (List (MapRow Value))) → RowsFit t u rs → Lands (type.Map t u) (and_then rs (λ xs. Ok (v.Map xs)))
  unfolding RowsFit Lands
  made_map t u (Ok xs) h = ap (λ (l : Value-F Value). takes_at structs (tests structs l) (type.Map t u)) (v.outs-Map xs) ∙ h
  made_map t u (Err EmptyArray) h = h
  made_map t u (Err OutOfMemory) h = h

  -- ---- one layer that is not Absent

  abbrev casters : Value-F Value → Value-F Caster
  casters = map-Value Value Caster cast

  same_lands : (x : Value) (l : Value-F Value) (w : Ty-F Ty) → out-Value x ≡ l → takes_at structs (tests structs l) w ≡ true → Lands w (Ok x)
  unfolding Lands
  same_lands x l w is h = ap (λ (m : Value-F Value). takes_at structs (tests structs m) w) is ∙ h

  str_lands : (s : _) → Lands type.Str (Ok (v.Str s))
  unfolding Lands
  str_lands s = ap (λ (m : Value-F Value). takes_at structs (tests structs m) type.Str) (v.outs-Str s)

  file_lands : (s : _) → Lands type.File (Ok (v.File s))
  unfolding Lands
  file_lands s = ap (λ (m : Value-F Value). takes_at structs (tests structs m) type.File) (v.outs-File s)

  layer_lands : (x : Value) (y : Value-F (Known Holds)) (z w : Ty-F Ty) → out-Value x ≡ plain Holds y → is_absent (plain Holds y) ≡ false → takes_at structs (tests structs (plain Holds y)) z ≡ true → BareCoerce z w → Lands w (cast_at x (casters (plain Holds y)) w)
  layer_lands x (layer.Bool b) type.Bool type.Bool is n h c = same_lands x _ type.Bool is refl
  layer_lands x (layer.Bool b) type.Bool type.Str is n h c = str_lands _
  layer_lands x (layer.Bool b) type.Bool w is n h c = absurd (false≢true c)
  layer_lands x (layer.Int b) type.Int type.Int is n h c = same_lands x _ type.Int is h
  layer_lands x (layer.Int b) type.Int type.Str is n h c = str_lands _
  layer_lands x (layer.Int b) type.Int w is n h c = absurd (false≢true c)
  layer_lands x (layer.Str b) type.Str type.Str is n h c = same_lands x _ type.Str is refl
  layer_lands x (layer.Str b) type.Str type.File is n h c = file_lands _
  layer_lands x (layer.Str b) type.Str w is n h c = absurd (false≢true c)
  layer_lands x (layer.File b) type.File type.File is n h c = same_lands x _ type.File is refl
  layer_lands x (layer.File b) type.File type.Str is n h c = str_lands _
  layer_lands x (layer.File b) type.File w is n h c = absurd (false≢true c)
  layer_lands x (layer.List ks) (type.Array t some) (type.Array u also) is n h c = list_lands ks t u also (list_items structs (firsts Holds ks) t some h) c
  layer_lands x (layer.List ks) (type.Array t some) w is n h c = absurd (false≢true c)
  layer_lands x (layer.Pair k l) (type.Pair t s) (type.Pair u w) is n h c =
      let p = and_parts (takes structs k.0 t) (takes structs l.0 s) h in
      let q = and_parts (coerces t u) (coerces s w) c in
      made_pair (cast k.0 u) (cast l.0 w) u w (k.1 t u p.0 q.0) (l.1 s w p.1 q.1)
  layer_lands x (layer.Pair k l) (type.Pair t s) w is n h c = absurd (false≢true c)
  layer_lands x (layer.Map ks) (type.Map t s) (type.Map u w) is n h c =
      let q = and_parts (coerces t u) (coerces s w) c in
      made_map u w _ (rows_land ks t s u w h q.0 q.1)
  layer_lands x (layer.Map ks) (type.Map t s) w is n h c = absurd (false≢true c)
  layer_lands x (layer.Struct name ks) (type.Struct m) (type.Struct o) is n h c =
      let e : m ≡ o = (bytes_eq-Decides m o).0 c in
      same_lands x (plain Holds (layer.Struct name ks)) (type.Struct o) is (subst (λ a. takes_at structs (tests structs (plain Holds (layer.Struct name ks))) (type.Struct a) ≡ true) e h)
  layer_lands x (layer.Struct name ks) (type.Struct m) w is n h c = absurd (false≢true c)
  layer_lands x layer.Absent z w is n h c = absurd (false≢true (sym n))
  layer_lands x y z w is n h c = absurd (false≢true h)

  -- ---- the induction

  absent_layer : (x : Value) → out-Value x ≡ layer.Absent → Holds x
  absent_layer x is t u h c =
      let fits_absent : (s : Ty) → takes structs x s ≡ takes_absent (out-Ty s) = λ s. takes_out structs x s ∙ ap (λ (l : Value-F Value). takes_step structs (tests structs l) s) is ∙ absent_fits s in
      let takes : takes_absent (out-Ty u) ≡ true = absent_coerces (out-Ty t) u (sym (fits_absent t) ∙ h) (sym (coerces_out t u) ∙ c) in
      let stays : cast x u ≡ Ok x = cast_out x u ∙ ap (λ (l : Value-F Value). cast_at x (casters l) (out-Ty (bare u))) is in
      subst (λ (r : Checked Value). IsTaken u r) (sym stays) (fits_absent u ∙ takes)

  other_layer : (x : Value) (y : Value-F (Known Holds)) → out-Value x ≡ plain Holds y → is_absent (plain Holds y) ≡ false → is_absent (tests structs (plain Holds y)) ≡ false → Holds x
  other_layer x y is n m t u h c =
      let at : takes_at structs (tests structs (plain Holds y)) (out-Ty (bare t)) ≡ true =
      sym (takes_out structs x t ∙ ap (λ (l : Value-F Value). takes_step structs (tests structs l) t) is ∙ takes_plain structs (plain Holds y) t m) ∙ h in
      let goes : cast x u ≡ cast_at x (casters (plain Holds y)) (out-Ty (bare u)) = cast_out x u ∙ ap (λ (l : Value-F Value). cast_at x (casters l) (out-Ty (bare u))) is in
      subst (λ (r : Checked Value). IsTaken u r) (sym goes)
      (lands_fits u _ (layer_lands x y (out-Ty (bare t)) (out-Ty (bare u)) is n at (coerces-bare t u c)))

  any_layer : (x : Value) (y : Value-F (Known Holds)) → out-Value x ≡ plain Holds y → Holds x
  any_layer x layer.Absent is = absent_layer x is
  any_layer x (layer.Bool b) is = other_layer x (layer.Bool b) is refl refl
  any_layer x (layer.Int b) is = other_layer x (layer.Int b) is refl refl
  any_layer x (layer.Str b) is = other_layer x (layer.Str b) is refl refl
  any_layer x (layer.File b) is = other_layer x (layer.File b) is refl refl
  any_layer x (layer.List b) is = other_layer x (layer.List b) is refl refl
  any_layer x (layer.Pair a b) is = other_layer x (layer.Pair a b) is refl refl
  any_layer x (layer.Map b) is = other_layer x (layer.Map b) is refl refl
  any_layer x (layer.Struct a b) is = other_layer x (layer.Struct a b) is refl refl

  pub cast_takes : (x : Value) → Holds x
  cast_takes = ind-Value Holds (λ l y is. any_layer (roll-Value l) y (out-roll-Value l ∙ sym is))
