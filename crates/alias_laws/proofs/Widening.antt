-- A cast that widens keeps a value that fits the type that it is from.
use Rattle.std.proofs.Common.{◌≡◌, ◌⊎◌, inl, inr, Bool, true, false, not, ◌&&◌, ◌||◌, List, [], ◌∷◌, map, Ok, sym, ap, ◌∙◌, subst, refl}
use Rattle.std.proofs.lemmas.Bool.{false≢true, and_from, and_parts}
use Rattle.wdl_value.specs.declared.ty.Ty.{Ty, Ty-F, ind-Ty, map-Ty, out-Ty, out-roll-Ty, roll-Ty, roll-out-Ty}
use Rattle.wdl_value.specs.declared.ty.Ty.TheOpen as type
use Rattle.wdl_value.specs.declared.ty.Ty.TheVariants as ty
use Rattle.wdl_value.specs.declared.value.MapRow.{MapRow}
use Rattle.wdl_value.specs.declared.value.Value.{Value, Value-F, map-Value, out-Value}
use Rattle.wdl_value.specs.declared.value.Value.TheOpen as value
use Rattle.wdl_value.specs.declared.value.Value.TheVariants as v
use Rattle.wdl_value.specs.Bare.{bare, bare-Opt}
use Rattle.wdl_value.specs.Cast.{Caster, and_then, cast, cast_at, each, each_row}
use Rattle.wdl_value.specs.CastOut.{cast_out}
use Rattle.wdl_value.specs.Coerces.{opt_coerces}
use Rattle.wdl_value.specs.Fits.{Structs, fits, takes, takes_at, takes_step}
use Rattle.wdl_value.specs.Keyed.{keyed}
use Rattle.wdl_value.specs.RecurType.{recur_type_out}
use Rattle.wdl_value.specs.SameType.{TypeTest, same_type}
use Rattle.wdl_value.proofs.FitsForms.{a_file, a_list, a_map, a_pair, a_str, absent_fits, all_fit, an_opt, list_fits, opt_fits, rows_fit, some_fit}
use Rattle.wdl_value.proofs.FitsLemmas.{takes_out, tests}
use Rattle.wdl_value.proofs.SameTypeLemmas.{same_type-true}
use Rattle.cwl_image.specs.Expressions.{array_widens, widens, widens_step}

abbrev parts_of : Value-F Value → Value-F Caster
parts_of = map-Value Value Caster cast

cast_by : (x : Value) (t : Ty) (l : Value-F Value) (z : Ty-F Ty) → out-Value x ≡ l → out-Ty (bare t) ≡ z → cast x t ≡ cast_at x (parts_of l) z
cast_by x t l z e f = cast_out x t ∙ ap (λ (m : Value-F Value). cast_at x (parts_of m) (out-Ty (bare t))) e ∙ ap (cast_at x (parts_of l)) f

absent_kept : (u : Ty) → cast v.Absent u ≡ Ok v.Absent
absent_kept u = cast_out v.Absent u ∙ ap (λ (m : Value-F Value). cast_at v.Absent (parts_of m) (out-Ty (bare u))) v.outs-Absent

opt_cast : (x : Value) (w : Ty) → cast x (ty.Opt w) ≡ cast x w
opt_cast x w = cast_out x (ty.Opt w) ∙ ap (λ (t : Ty). cast_at x (parts_of (out-Value x)) (out-Ty t)) (bare-Opt w) ∙ sym (cast_out x w)

-- ---- types that no cast changes a value to

abbrev is_steady : Ty-F Ty → Bool
is_steady type.Bool = true
is_steady type.Int = true
is_steady (type.Struct n) = true
is_steady type.Absent = true
is_steady type.Empty = true
is_steady z = false

steady_at : (x : Value) (l : Value-F Caster) (z : Ty-F Ty) → is_steady z ≡ true → cast_at x l z ≡ Ok x
steady_at x value.Absent z h = refl
steady_at x (value.Struct n fields) z h = refl
steady_at x (value.Bool b) type.Str h = absurd (false≢true h)
steady_at x (value.Bool b) z h = refl
steady_at x (value.Int n) type.Str h = absurd (false≢true h)
steady_at x (value.Int n) z h = refl
steady_at x (value.File s) type.Str h = absurd (false≢true h)
steady_at x (value.File s) z h = refl
steady_at x (value.Str s) type.File h = absurd (false≢true h)
steady_at x (value.Str s) z h = refl
steady_at x (value.List fs) (type.Array t some) h = absurd (false≢true h)
steady_at x (value.List fs) z h = refl
steady_at x (value.Pair f g) (type.Pair t u) h = absurd (false≢true h)
steady_at x (value.Pair f g) z h = refl
steady_at x (value.Map rows) (type.Map t u) h = absurd (false≢true h)
steady_at x (value.Map rows) z h = refl

steady : (x : Value) (t : Ty) (z : Ty-F Ty) → out-Ty (bare t) ≡ z → is_steady z ≡ true → cast x t ≡ Ok x
steady x t z e h = cast_by x t (out-Value x) z refl e ∙ steady_at x (parts_of (out-Value x)) z h

-- ---- a cast to the own type

module _ (structs : Structs) where
  abbrev Self : Ty → Type 0
  Self t = (x : Value) → fits structs x t ≡ true → cast x t ≡ Ok x

  abbrev Known : Type 0
  Known = (t : Ty) × Self t

  abbrev plain : Ty-F Known → Ty-F Ty
  plain = map-Ty Known Ty (λ (k : Known). k.0)

  each_self : (k : Known) (xs : List Value) → all_fit structs xs k.0 ≡ true → each (map cast xs) k.0 ≡ Ok xs
  each_self k [] h = refl
  each_self k (x ∷ xs) h =
      let p = and_parts (fits structs x k.0) (all_fit structs xs k.0) h in
      ap (λ o. and_then o (λ y. and_then (each (map cast xs) k.0) (λ ys. Ok (y ∷ ys)))) (k.1 x p.0)
      ∙ ap (λ o. and_then o (λ ys. Ok (x ∷ ys))) (each_self k xs p.1)

  abbrev row_parts : List (MapRow Value) → List (MapRow Caster)
  row_parts = map (λ (r : MapRow Value). record { key = cast r.key; value = cast r.value })

  rows_self : (k l : Known) (rows : List (MapRow Value)) → rows_fit structs rows k.0 l.0 ≡ true → each_row (row_parts rows) k.0 l.0 ≡ Ok rows
  rows_self k l [] h = refl
  rows_self k l (r ∷ rows) h =
      let p = and_parts (fits structs r.key k.0 && fits structs r.value l.0) (rows_fit structs rows k.0 l.0) h in
      let q = and_parts (fits structs r.key k.0) (fits structs r.value l.0) p.0 in
      ap (λ o. and_then o (λ a. and_then (cast r.value l.0) (λ b. and_then (each_row (row_parts rows) k.0 l.0) (λ xs. Ok (record { key = a; value = b } ∷ xs))))) (k.1 r.key q.0)
      ∙ ap (λ o. and_then o (λ b. and_then (each_row (row_parts rows) k.0 l.0) (λ xs. Ok (record { key = r.key; value = b } ∷ xs)))) (l.1 r.value q.1)
      ∙ ap (λ o. and_then o (λ xs. Ok (r ∷ xs))) (rows_self k l rows p.1)

  -- an array with `+` has an item
  not_empty : (t : Ty) → fits structs (v.List []) (ty.Array t true) ≡ true → ⊥
  not_empty t h =
      false≢true (
      sym (takes_out structs (v.List []) (ty.Array t true)
      ∙ ap (λ (m : Value-F Value). takes_step structs (tests structs m) (ty.Array t true)) (v.outs-List [])
      ∙ ap (takes_at structs (tests structs (value.List []))) (ty.outs-Array t true))
      ∙ (and_parts (takes structs (v.List []) (ty.Array t true)) (keyed (v.List [])) h).0
      )

  -- a list whose items are kept
  list_kept : (xs : List Value) (t : Ty) (some : Bool) → each (map cast xs) t ≡ Ok xs → fits structs (v.List xs) (ty.Array t some) ≡ true → cast (v.List xs) (ty.Array t some) ≡ Ok (v.List xs)
  list_kept [] t true e h = absurd (not_empty t h)
  list_kept [] t false e h = cast_by (v.List []) (ty.Array t false) (value.List []) (type.Array t false) (v.outs-List []) (ty.outs-Array t false)
  list_kept (x ∷ xs) t some e h =
      cast_by (v.List (x ∷ xs)) (ty.Array t some) (value.List (x ∷ xs)) (type.Array t some) (v.outs-List (x ∷ xs)) (ty.outs-Array t some)
      ∙ ap (λ o. and_then o (λ ys. Ok (v.List ys))) e

  array_self : (k : Known) (some : Bool) → Self (ty.Array k.0 some)
  array_self k some x h =
      let l = a_list structs x k.0 some h in
      subst (λ (y : Value). fits structs y (ty.Array k.0 some) ≡ true → cast y (ty.Array k.0 some) ≡ Ok y) (sym l.1) (list_kept l.0 k.0 some (each_self k l.0 l.3)) h

  map_self : (k l : Known) → Self (ty.Map k.0 l.0)
  map_self k l x h =
      let m = a_map structs x k.0 l.0 h in
      cast_by x (ty.Map k.0 l.0) (value.Map m.0) (type.Map k.0 l.0) m.2 (ty.outs-Map k.0 l.0)
      ∙ ap (λ o. and_then o (λ rows. Ok (v.Map rows))) (rows_self k l m.0 m.3) ∙ ap (λ (y : Value). Ok y) (sym m.1)

  pair_self : (k l : Known) → Self (ty.Pair k.0 l.0)
  pair_self k l x h =
      let p = a_pair structs x k.0 l.0 h in
      cast_by x (ty.Pair k.0 l.0) (value.Pair p.0 p.1) (type.Pair k.0 l.0) p.3 (ty.outs-Pair k.0 l.0)
      ∙ ap (λ o. and_then o (λ a. and_then (cast p.1 l.0) (λ b. Ok (v.Pair a b)))) (k.1 p.0 p.4)
      ∙ ap (λ o. and_then o (λ b. Ok (v.Pair p.0 b))) (l.1 p.1 p.5) ∙ ap (λ (y : Value). Ok y) (sym p.2)

  str_self : Self ty.Str
  str_self x h = let s = a_str structs x h in cast_by x ty.Str (value.Str s.0) type.Str (ap out-Value s.1 ∙ v.outs-Str s.0) ty.outs-Str

  file_self : Self ty.File
  file_self x h = let s = a_file structs x h in cast_by x ty.File (value.File s.0) type.File (ap out-Value s.1 ∙ v.outs-File s.0) ty.outs-File

  opt_self : (k : Known) → Self (ty.Opt k.0)
  opt_self k x h = by_value (an_opt structs x k.0 h)
    where
      by_value : (x ≡ v.Absent) ⊎ (fits structs x k.0 ≡ true) → cast x (ty.Opt k.0) ≡ Ok x
      by_value (inl e) = ap (λ (y : Value). cast y (ty.Opt k.0)) e ∙ absent_kept (ty.Opt k.0) ∙ ap (λ (y : Value). Ok y) (sym e)
      by_value (inr f) = opt_cast x k.0 ∙ k.1 x f

  layer_self : (y : Ty-F Known) → Self (roll-Ty (plain y))
  layer_self type.Bool = subst Self (sym ty.rolls-Bool) (λ x h. steady x ty.Bool type.Bool ty.outs-Bool refl)
  layer_self type.Int = subst Self (sym ty.rolls-Int) (λ x h. steady x ty.Int type.Int ty.outs-Int refl)
  layer_self type.Str = subst Self (sym ty.rolls-Str) str_self
  layer_self type.File = subst Self (sym ty.rolls-File) file_self
  layer_self (type.Array k some) = subst Self (sym (ty.rolls-Array k.0 some)) (array_self k some)
  layer_self (type.Map k l) = subst Self (sym (ty.rolls-Map k.0 l.0)) (map_self k l)
  layer_self (type.Pair k l) = subst Self (sym (ty.rolls-Pair k.0 l.0)) (pair_self k l)
  layer_self (type.Struct n) = subst Self (sym (ty.rolls-Struct n)) (λ x h. steady x (ty.Struct n) (type.Struct n) (ty.outs-Struct n) refl)
  layer_self (type.Opt k) = subst Self (sym (ty.rolls-Opt k.0)) (opt_self k)
  layer_self type.Absent = subst Self (sym ty.rolls-Absent) (λ x h. steady x ty.Absent type.Absent ty.outs-Absent refl)
  layer_self type.Empty = subst Self (sym ty.rolls-Empty) (λ x h. steady x ty.Empty type.Empty ty.outs-Empty refl)

  -- A cast to the type that a value fits keeps it.
  pub self_kept : (t : Ty) → Self t
  self_kept = ind-Ty Self (λ a y is. subst (λ (z : Ty-F Ty). Self (roll-Ty z)) is (layer_self y))

  -- ---- question marks

  -- A value is kept by a cast to a type that it then fits.
  abbrev pub Kept : Ty → Value → Type 0
  Kept u x = (cast x u ≡ Ok x) × (fits structs x u ≡ true)

  abbrev Marked : Ty → Type 0
  Marked u = (x : Value) → Kept (bare u) x → Kept u x

  abbrev KnownMarked : Type 0
  KnownMarked = (t : Ty) × Marked t

  abbrev marked_plain : Ty-F KnownMarked → Ty-F Ty
  marked_plain = map-Ty KnownMarked Ty (λ (k : KnownMarked). k.0)

  layer_marked : (y : Ty-F KnownMarked) → Marked (roll-Ty (marked_plain y))
  layer_marked type.Bool = subst Marked (sym ty.rolls-Bool) (λ x h. h)
  layer_marked type.Int = subst Marked (sym ty.rolls-Int) (λ x h. h)
  layer_marked type.Str = subst Marked (sym ty.rolls-Str) (λ x h. h)
  layer_marked type.File = subst Marked (sym ty.rolls-File) (λ x h. h)
  layer_marked (type.Array k some) = subst Marked (sym (ty.rolls-Array k.0 some)) (λ x h. h)
  layer_marked (type.Map k l) = subst Marked (sym (ty.rolls-Map k.0 l.0)) (λ x h. h)
  layer_marked (type.Pair k l) = subst Marked (sym (ty.rolls-Pair k.0 l.0)) (λ x h. h)
  layer_marked (type.Struct n) = subst Marked (sym (ty.rolls-Struct n)) (λ x h. h)
  layer_marked type.Absent = subst Marked (sym ty.rolls-Absent) (λ x h. h)
  layer_marked type.Empty = subst Marked (sym ty.rolls-Empty) (λ x h. h)
  layer_marked (type.Opt k) =
      subst Marked (sym (ty.rolls-Opt k.0)) (λ x h.
      let p = k.1 x (subst (λ (u : Ty). Kept u x) (bare-Opt k.0) h) in
      (opt_cast x k.0 ∙ p.0, opt_fits structs x k.0 p.1))

  marked : (u : Ty) → Marked u
  marked = ind-Ty Marked (λ a y is. subst (λ (z : Ty-F Ty). Marked (roll-Ty z)) is (layer_marked y))

  -- ---- casts that widen

  widens_out : (t u : Ty) → widens t u ≡ widens_step t (map-Ty Ty TypeTest widens (out-Ty t)) u
  unfolding widens
  widens_out t u = ap (λ (f : TypeTest). f u) (recur_type_out TypeTest widens_step t)

  abbrev Keeps : Ty → Type 0
  Keeps t = (u : Ty) (x : Value) → widens t u ≡ true → fits structs x t ≡ true → Kept u x

  abbrev KnownKept : Type 0
  KnownKept = (t : Ty) × Keeps t

  abbrev kept_plain : Ty-F KnownKept → Ty-F Ty
  kept_plain = map-Ty KnownKept Ty (λ (k : KnownKept). k.0)

  items_kept : (k : KnownKept) (w : Ty) → widens k.0 w ≡ true → (xs : List Value) → all_fit structs xs k.0 ≡ true → (each (map cast xs) w ≡ Ok xs) × (all_fit structs xs w ≡ true)
  items_kept k w h [] f = (refl, refl)
  items_kept k w h (x ∷ xs) f =
      let p = and_parts (fits structs x k.0) (all_fit structs xs k.0) f in
      let a = k.1 w x h p.0 in
      let r = items_kept k w h xs p.1 in (
        ap (λ o. and_then o (λ y. and_then (each (map cast xs) w) (λ ys. Ok (y ∷ ys)))) a.0 ∙ ap (λ o. and_then o (λ ys. Ok (x ∷ ys))) r.0,
        and_from (fits structs x w) (all_fit structs xs w) a.1 r.1,
      )

  array_fits : (xs : List Value) (t w : Ty) (some also : Bool) → (some || not also) ≡ true → fits structs (v.List xs) (ty.Array t some) ≡ true → all_fit structs xs w ≡ true → fits structs (v.List xs) (ty.Array w also) ≡ true
  array_fits (x ∷ xs) t w some also m h f = some_fit structs x xs w also f
  array_fits [] t w some false m h f = list_fits structs [] w f
  array_fits [] t w true true m h f = absurd (not_empty t h)
  array_fits [] t w false true m h f = absurd (false≢true m)

  array_kept : (k : KnownKept) (some : Bool) (w : Ty) (also : Bool) (x : Value) → widens k.0 w ≡ true → (some || not also) ≡ true → fits structs x (ty.Array k.0 some) ≡ true → Kept (ty.Array w also) x
  array_kept k some w also x h m f =
      let l = a_list structs x k.0 some f in
      let r = items_kept k w h l.0 l.3 in
      let g = array_fits l.0 k.0 w some also m (ap (λ (y : Value). fits structs y (ty.Array k.0 some)) (sym l.1) ∙ f) r.1 in
      subst (Kept (ty.Array w also)) (sym l.1) (list_kept l.0 w also r.0 g, g)

  same_kept : (t u : Ty) (x : Value) → same_type t (bare u) ≡ true → fits structs x t ≡ true → Kept u x
  same_kept t u x h f = marked u x (subst (λ (w : Ty). Kept w x) (same_type-true t (bare u) h) (self_kept t x f, f))

  layer_kept : (y : Ty-F KnownKept) (u : Ty) (x : Value) → widens_step (roll-Ty (kept_plain y)) (map-Ty Ty TypeTest widens (kept_plain y)) u ≡ true → fits structs x (roll-Ty (kept_plain y)) ≡ true → Kept u x
  layer_kept (type.Opt k) u x w f = by_layer (out-Ty u) refl w
    where
      by_value : (t : Ty) → widens k.0 t ≡ true → (x ≡ v.Absent) ⊎ (fits structs x k.0 ≡ true) → Kept (ty.Opt t) x
      by_value t h (inl e) = subst (Kept (ty.Opt t)) (sym e) (absent_kept (ty.Opt t), absent_fits structs t)
      by_value t h (inr g) = let p = k.1 t x h g in (opt_cast x t ∙ p.0, opt_fits structs x t p.1)

      by_layer : (z : Ty-F Ty) → out-Ty u ≡ z → opt_coerces (widens k.0) z ≡ true → Kept u x
      by_layer (type.Opt t) e h =
          let is : u ≡ ty.Opt t = sym (roll-out-Ty u) ∙ ap roll-Ty e ∙ ty.rolls-Opt t in
          subst (λ (w : Ty). Kept w x) (sym is) (by_value t h (an_opt structs x k.0 (ap (fits structs x) (sym (ty.rolls-Opt k.0)) ∙ f)))
      by_layer z e h = absurd (false≢true h)
  layer_kept (type.Array k some) u x w f = by_layer (out-Ty (bare u)) refl w
    where
      by_layer : (z : Ty-F Ty) → out-Ty (bare u) ≡ z → array_widens (widens k.0) some z ≡ true → Kept u x
      by_layer (type.Array t also) e h =
          let is : bare u ≡ ty.Array t also = sym (roll-out-Ty (bare u)) ∙ ap roll-Ty e ∙ ty.rolls-Array t also in
          let p = and_parts (widens k.0 t) (some || not also) h in
          marked u x (subst (λ (w : Ty). Kept w x) (sym is) (array_kept k some t also x p.0 p.1 (ap (fits structs x) (sym (ty.rolls-Array k.0 some)) ∙ f)))
      by_layer z e h = absurd (false≢true h)
  layer_kept type.Bool u x w f = same_kept (roll-Ty type.Bool) u x w f
  layer_kept type.Int u x w f = same_kept (roll-Ty type.Int) u x w f
  layer_kept type.Str u x w f = same_kept (roll-Ty type.Str) u x w f
  layer_kept type.File u x w f = same_kept (roll-Ty type.File) u x w f
  layer_kept (type.Map k l) u x w f = same_kept (roll-Ty (type.Map k.0 l.0)) u x w f
  layer_kept (type.Pair k l) u x w f = same_kept (roll-Ty (type.Pair k.0 l.0)) u x w f
  layer_kept (type.Struct n) u x w f = same_kept (roll-Ty (type.Struct n)) u x w f
  layer_kept type.Absent u x w f = same_kept (roll-Ty type.Absent) u x w f
  layer_kept type.Empty u x w f = same_kept (roll-Ty type.Empty) u x w f

  -- A cast that widens keeps a value that fits, which then fits the type of the cast.
  pub widening_keeps : (t : Ty) → Keeps t
  widening_keeps = ind-Ty Keeps (λ a y is. subst (λ (z : Ty-F Ty). Keeps (roll-Ty z)) is (λ u x w f.
      layer_kept y u x (sym (widens_out (roll-Ty (kept_plain y)) u ∙ ap (λ (z : Ty-F Ty). widens_step (roll-Ty (kept_plain y)) (map-Ty Ty TypeTest widens z) u) (out-roll-Ty (kept_plain y))) ∙ w) f))
