-- Casts of the subset keep a value, and what fits a type of the subset is of its CWL type.
use Rattle.std.proofs.Common.{◌≡◌, ◌⊎◌, inl, inr, Bool, true, false, not, ◌||◌, List, [], ◌∷◌, map, Ok, sym, ap, ◌∙◌, subst, refl}
use Rattle.std.specs.List.{list_all}
use Rattle.std.proofs.lemmas.Bool.{false≢true, and_from, and_parts}
use Rattle.wdl_value.specs.declared.ty.Ty.{Ty, Ty-F, fold-roll-Ty, ind-Ty, map-Ty, out-Ty, out-roll-Ty, roll-Ty, roll-out-Ty}
use Rattle.wdl_value.specs.declared.ty.Ty.TheOpen as type
use Rattle.wdl_value.specs.declared.ty.Ty.TheVariants as ty
use Rattle.wdl_value.specs.declared.value.Value.{Value, Value-F, map-Value, out-Value}
use Rattle.wdl_value.specs.declared.value.Value.TheOpen as value
use Rattle.wdl_value.specs.declared.value.Value.TheVariants as v
use Rattle.wdl_value.specs.Bare.{bare, bare-Opt}
use Rattle.wdl_value.specs.Cast.{Caster, and_then, cast, cast_at, each}
use Rattle.wdl_value.specs.CastOut.{cast_out}
use Rattle.wdl_value.specs.Coerces.{opt_coerces}
use Rattle.wdl_value.specs.Fits.{Structs, fits, is_absent, takes, takes_at, takes_step}
use Rattle.wdl_value.specs.Keyed.{keyed}
use Rattle.wdl_value.specs.RecurType.{recur_type_out}
use Rattle.wdl_value.specs.SameType.{TypeTest, same_type}
use Rattle.wdl_value.proofs.FitsForms.{a_bool, a_file, a_list, a_str, absent_fits, all_fit, an_int, an_opt, opt_fits, some_fit}
use Rattle.wdl_value.proofs.FitsLemmas.{takes_out, takes_plain, tests, tests_absent}
use Rattle.wdl_value.proofs.SameTypeLemmas.{same_type-true}
use Rattle.cwl_model.specs.declared.ty.CwlTy.{CwlTy, CwlTy-F, fold-roll-CwlTy, map-CwlTy, roll-CwlTy}
use Rattle.cwl_model.specs.declared.ty.CwlTy.TheOpen as cwl_layer
use Rattle.cwl_model.specs.declared.ty.CwlTy.TheVariants as cwl
use Rattle.cwl_model.specs.Means.{Test, has_type, typed_at}
use Rattle.cwl_image.specs.Expressions.{array_widens, is_simple, simple_step, widens, widens_step}
use Rattle.cwl_image.specs.Image.{type_of, type_step}
use Rattle.cwl_laws.proofs.Conditions.{absent_at, bool_is, null_takes}
use Rattle.cwl_laws.proofs.Scatters.{list_typed}

-- ---- types

abbrev type_at : CwlTy-F CwlTy → CwlTy-F Test
type_at = map-CwlTy CwlTy Test has_type

at_layer : (z : CwlTy-F CwlTy) (x : Value) → has_type (roll-CwlTy z) x ≡ typed_at (type_at z) x (out-Value x)
at_layer z x = ap (λ (p : Test). p x) (fold-roll-CwlTy Test (λ t x. typed_at t x (out-Value x)) z)

module _ (structs : Structs) where
  abbrev Typed : Ty → Type 0
  Typed t = is_simple t ≡ true → (x : Value) → fits structs x t ≡ true → has_type (type_of t) x ≡ true

  abbrev KnownTyped : Type 0
  KnownTyped = (t : Ty) × Typed t

  abbrev typed_plain : Ty-F KnownTyped → Ty-F Ty
  typed_plain = map-Ty KnownTyped Ty (λ (k : KnownTyped). k.0)

  each_typed : (k : KnownTyped) → is_simple k.0 ≡ true → (xs : List Value) → all_fit structs xs k.0 ≡ true → list_all (has_type (type_of k.0)) xs ≡ true
  each_typed k s [] h = refl
  each_typed k s (x ∷ xs) h =
      let p = and_parts (fits structs x k.0) (all_fit structs xs k.0) h in
      and_from (has_type (type_of k.0) x) (list_all (has_type (type_of k.0)) xs) (k.1 s x p.0) (each_typed k s xs p.1)

  layer_typed : (y : Ty-F KnownTyped) → simple_step (map-Ty Ty Bool is_simple (typed_plain y)) ≡ true → (x : Value) → fits structs x (roll-Ty (typed_plain y)) ≡ true
      → has_type (type_step (map-Ty Ty CwlTy type_of (typed_plain y))) x ≡ true
  layer_typed type.Bool s x h =
      let p = a_bool structs x (subst (λ t. fits structs x t ≡ true) ty.rolls-Bool h) in
      ap (has_type cwl.Bool) p.1 ∙ bool_is (v.Bool p.0) ∙ ap (typed_at cwl_layer.Bool (v.Bool p.0)) (v.outs-Bool p.0)
  layer_typed type.Int s x h =
      let p = an_int structs x (subst (λ t. fits structs x t ≡ true) ty.rolls-Int h) in
      ap (λ t. has_type t x) (sym cwl.rolls-Long) ∙ at_layer cwl_layer.Long x ∙ ap (λ y. typed_at cwl_layer.Long y (out-Value y)) p.1
      ∙ ap (typed_at cwl_layer.Long (v.Int p.0)) (v.outs-Int p.0) ∙ p.2
  layer_typed type.Str s x h =
      let p = a_str structs x (subst (λ t. fits structs x t ≡ true) ty.rolls-Str h) in
      ap (λ t. has_type t x) (sym cwl.rolls-Str) ∙ at_layer cwl_layer.Str x ∙ ap (λ y. typed_at cwl_layer.Str y (out-Value y)) p.1
      ∙ ap (typed_at cwl_layer.Str (v.Str p.0)) (v.outs-Str p.0)
  layer_typed type.File s x h =
      let p = a_file structs x (subst (λ t. fits structs x t ≡ true) ty.rolls-File h) in
      ap (λ t. has_type t x) (sym cwl.rolls-File) ∙ at_layer cwl_layer.File x ∙ ap (λ y. typed_at cwl_layer.File y (out-Value y)) p.1
      ∙ ap (typed_at cwl_layer.File (v.File p.0)) (v.outs-File p.0)
  layer_typed (type.Array k some) s x h =
      let p = a_list structs x k.0 some (subst (λ t. fits structs x t ≡ true) (ty.rolls-Array k.0 some) h) in
      ap (has_type (cwl.List (type_of k.0))) p.1 ∙ list_typed (type_of k.0) p.0 (each_typed k s p.0 p.3)
  layer_typed (type.Opt k) s x h = by_value (an_opt structs x k.0 (subst (λ t. fits structs x t ≡ true) (ty.rolls-Opt k.0) h))
    where
      by_value : (x ≡ v.Absent) ⊎ (fits structs x k.0 ≡ true) → has_type (cwl.Null (type_of k.0)) x ≡ true
      by_value (inl e) = ap (has_type (cwl.Null (type_of k.0))) e ∙ absent_at (type_of k.0)
      by_value (inr f) = null_takes (type_of k.0) x (k.1 s x f)
  layer_typed y s x h = absurd (false≢true s)

  -- What fits a type of the subset is of its CWL type.
  pub fits_typed : (t : Ty) → is_simple t ≡ true → (x : Value) → fits structs x t ≡ true → has_type (type_of t) x ≡ true
  fits_typed = ind-Ty Typed (λ a y is. subst (λ (z : Ty-F Ty). Typed (roll-Ty z)) is (λ s x h.
      ap (λ u. has_type u x) (fold-roll-Ty CwlTy type_step (typed_plain y))
      ∙ layer_typed y (sym (fold-roll-Ty Bool simple_step (typed_plain y)) ∙ s) x h))

-- ---- question marks

abbrev BareSimple : Ty → Type 0
BareSimple t = is_simple (bare t) ≡ is_simple t

abbrev KnownBare : Type 0
KnownBare = (t : Ty) × BareSimple t

abbrev bare_plain : Ty-F KnownBare → Ty-F Ty
bare_plain = map-Ty KnownBare Ty (λ (k : KnownBare). k.0)

layer_bare : (y : Ty-F KnownBare) → BareSimple (roll-Ty (bare_plain y))
layer_bare type.Bool = ap (λ t. is_simple (bare t)) ty.rolls-Bool ∙ ap is_simple (sym ty.rolls-Bool)
layer_bare type.Int = ap (λ t. is_simple (bare t)) ty.rolls-Int ∙ ap is_simple (sym ty.rolls-Int)
layer_bare type.Str = ap (λ t. is_simple (bare t)) ty.rolls-Str ∙ ap is_simple (sym ty.rolls-Str)
layer_bare type.File = ap (λ t. is_simple (bare t)) ty.rolls-File ∙ ap is_simple (sym ty.rolls-File)
layer_bare type.Absent = ap (λ t. is_simple (bare t)) ty.rolls-Absent ∙ ap is_simple (sym ty.rolls-Absent)
layer_bare type.Empty = ap (λ t. is_simple (bare t)) ty.rolls-Empty ∙ ap is_simple (sym ty.rolls-Empty)
layer_bare (type.Array k some) = ap (λ t. is_simple (bare t)) (ty.rolls-Array k.0 some) ∙ ap is_simple (sym (ty.rolls-Array k.0 some))
layer_bare (type.Map k l) = ap (λ t. is_simple (bare t)) (ty.rolls-Map k.0 l.0) ∙ ap is_simple (sym (ty.rolls-Map k.0 l.0))
layer_bare (type.Pair k l) = ap (λ t. is_simple (bare t)) (ty.rolls-Pair k.0 l.0) ∙ ap is_simple (sym (ty.rolls-Pair k.0 l.0))
layer_bare (type.Struct n) = ap (λ t. is_simple (bare t)) (ty.rolls-Struct n) ∙ ap is_simple (sym (ty.rolls-Struct n))
layer_bare (type.Opt k) =
    ap (λ t. is_simple (bare t)) (ty.rolls-Opt k.0) ∙ ap is_simple (bare-Opt k.0) ∙ k.1 ∙ sym (fold-roll-Ty Bool simple_step (type.Opt k.0))

bare_simple : (t : Ty) → is_simple (bare t) ≡ is_simple t
bare_simple = ind-Ty BareSimple (λ a y is. subst (λ (z : Ty-F Ty). BareSimple (roll-Ty z)) is (layer_bare y))

-- ---- casts

widens_out : (t u : Ty) → widens t u ≡ widens_step t (map-Ty Ty TypeTest widens (out-Ty t)) u
unfolding widens
widens_out t u = ap (λ (f : TypeTest). f u) (recur_type_out TypeTest widens_step t)

abbrev SimpleTo : Ty → Type 0
SimpleTo t = (u : Ty) → is_simple t ≡ true → widens t u ≡ true → is_simple u ≡ true

abbrev KnownTo : Type 0
KnownTo = (t : Ty) × SimpleTo t

abbrev to_plain : Ty-F KnownTo → Ty-F Ty
to_plain = map-Ty KnownTo Ty (λ (k : KnownTo). k.0)

-- a type without question marks that is the same
same_bare : (t u : Ty) → same_type t (bare u) ≡ true → is_simple t ≡ true → is_simple u ≡ true
same_bare t u w s = sym (bare_simple u) ∙ ap is_simple (sym (same_type-true t (bare u) w)) ∙ s

layer_to : (y : Ty-F KnownTo) (u : Ty) → simple_step (map-Ty Ty Bool is_simple (to_plain y)) ≡ true → widens_step (roll-Ty (to_plain y)) (map-Ty Ty TypeTest widens (to_plain y)) u ≡ true → is_simple u ≡ true
layer_to type.Bool u s w = same_bare (roll-Ty type.Bool) u w (fold-roll-Ty Bool simple_step type.Bool)
layer_to type.Int u s w = same_bare (roll-Ty type.Int) u w (fold-roll-Ty Bool simple_step type.Int)
layer_to type.Str u s w = same_bare (roll-Ty type.Str) u w (fold-roll-Ty Bool simple_step type.Str)
layer_to type.File u s w = same_bare (roll-Ty type.File) u w (fold-roll-Ty Bool simple_step type.File)
layer_to (type.Array k some) u s w = by_layer (out-Ty (bare u)) refl w
  where
    by_layer : (z : Ty-F Ty) → out-Ty (bare u) ≡ z → array_widens (widens k.0) some z ≡ true → is_simple u ≡ true
    by_layer (type.Array t also) e c =
        sym (bare_simple u) ∙ ap is_simple (sym (roll-out-Ty (bare u)) ∙ ap roll-Ty e) ∙ fold-roll-Ty Bool simple_step (type.Array t also)
        ∙ k.1 t s (and_parts (widens k.0 t) (some || not also) c).0
    by_layer z e c = absurd (false≢true c)
layer_to (type.Opt k) u s w = by_layer (out-Ty u) refl w
  where
    by_layer : (z : Ty-F Ty) → out-Ty u ≡ z → opt_coerces (widens k.0) z ≡ true → is_simple u ≡ true
    by_layer (type.Opt t) e c = ap is_simple (sym (roll-out-Ty u) ∙ ap roll-Ty e) ∙ fold-roll-Ty Bool simple_step (type.Opt t) ∙ k.1 t s c
    by_layer z e c = absurd (false≢true c)
layer_to y u s w = absurd (false≢true s)

-- A cast of the subset is to a type of the subset.
pub simple_widens : (t u : Ty) → is_simple t ≡ true → widens t u ≡ true → is_simple u ≡ true
simple_widens = ind-Ty SimpleTo (λ a y is. subst (λ (z : Ty-F Ty). SimpleTo (roll-Ty z)) is (λ u s w.
    layer_to y u (sym (fold-roll-Ty Bool simple_step (to_plain y)) ∙ s)
    (sym (widens_out (roll-Ty (to_plain y)) u ∙ ap (λ z. widens_step (roll-Ty (to_plain y)) (map-Ty Ty TypeTest widens z) u) (out-roll-Ty (to_plain y))) ∙ w)))

abbrev SimpleFrom : Ty → Type 0
SimpleFrom t = (u : Ty) → is_simple u ≡ true → widens t u ≡ true → is_simple t ≡ true

abbrev KnownFrom : Type 0
KnownFrom = (t : Ty) × SimpleFrom t

abbrev from_plain : Ty-F KnownFrom → Ty-F Ty
from_plain = map-Ty KnownFrom Ty (λ (k : KnownFrom). k.0)

from_bare : (t u : Ty) → same_type t (bare u) ≡ true → is_simple u ≡ true → is_simple t ≡ true
from_bare t u w s = ap is_simple (same_type-true t (bare u) w) ∙ bare_simple u ∙ s

from_array : (k : KnownFrom) (some : Bool) (u : Ty) → array_widens (widens k.0) some (out-Ty (bare u)) ≡ true → is_simple u ≡ true → is_simple k.0 ≡ true
from_array k some u w s = by_layer (out-Ty (bare u)) refl w
  where
    by_layer : (z : Ty-F Ty) → out-Ty (bare u) ≡ z → array_widens (widens k.0) some z ≡ true → is_simple k.0 ≡ true
    by_layer (type.Array t also) e c =
        k.1 t (sym (sym (bare_simple u) ∙ ap is_simple (sym (roll-out-Ty (bare u)) ∙ ap roll-Ty e) ∙ fold-roll-Ty Bool simple_step (type.Array t also)) ∙ s)
        (and_parts (widens k.0 t) (some || not also) c).0
    by_layer z e c = absurd (false≢true c)

from_opt : (k : KnownFrom) (u : Ty) → opt_coerces (widens k.0) (out-Ty u) ≡ true → is_simple u ≡ true → is_simple k.0 ≡ true
from_opt k u w s = by_layer (out-Ty u) refl w
  where
    by_layer : (z : Ty-F Ty) → out-Ty u ≡ z → opt_coerces (widens k.0) z ≡ true → is_simple k.0 ≡ true
    by_layer (type.Opt t) e c = k.1 t (sym (ap is_simple (sym (roll-out-Ty u) ∙ ap roll-Ty e) ∙ fold-roll-Ty Bool simple_step (type.Opt t)) ∙ s) c
    by_layer z e c = absurd (false≢true c)

layer_from : (y : Ty-F KnownFrom) (u : Ty) → widens_step (roll-Ty (from_plain y)) (map-Ty Ty TypeTest widens (from_plain y)) u ≡ true → is_simple u ≡ true → is_simple (roll-Ty (from_plain y)) ≡ true
layer_from (type.Array k some) u w s = fold-roll-Ty Bool simple_step (type.Array k.0 some) ∙ from_array k some u w s
layer_from (type.Opt k) u w s = fold-roll-Ty Bool simple_step (type.Opt k.0) ∙ from_opt k u w s
layer_from type.Bool u w s = from_bare (roll-Ty type.Bool) u w s
layer_from type.Int u w s = from_bare (roll-Ty type.Int) u w s
layer_from type.Str u w s = from_bare (roll-Ty type.Str) u w s
layer_from type.File u w s = from_bare (roll-Ty type.File) u w s
layer_from type.Absent u w s = from_bare (roll-Ty type.Absent) u w s
layer_from type.Empty u w s = from_bare (roll-Ty type.Empty) u w s
layer_from (type.Map k l) u w s = from_bare (roll-Ty (type.Map k.0 l.0)) u w s
layer_from (type.Pair k l) u w s = from_bare (roll-Ty (type.Pair k.0 l.0)) u w s
layer_from (type.Struct n) u w s = from_bare (roll-Ty (type.Struct n)) u w s

-- What a cast of the subset makes a type of the subset was one.
pub simple_from : (t u : Ty) → is_simple u ≡ true → widens t u ≡ true → is_simple t ≡ true
simple_from = ind-Ty SimpleFrom (λ a y is. subst (λ (z : Ty-F Ty). SimpleFrom (roll-Ty z)) is (λ u s w.
    layer_from y u (sym (widens_out (roll-Ty (from_plain y)) u ∙ ap (λ z. widens_step (roll-Ty (from_plain y)) (map-Ty Ty TypeTest widens z) u) (out-roll-Ty (from_plain y))) ∙ w) s))

module _ (structs : Structs) where
  -- A value is kept by a cast to a type that it then fits.
  abbrev pub Kept : Ty → Value → Type 0
  Kept u x = (cast x u ≡ Ok x) × (fits structs x u ≡ true)

  abbrev Keeps : Ty → Type 0
  Keeps t = is_simple t ≡ true → (u : Ty) (x : Value) → widens t u ≡ true → fits structs x t ≡ true → Kept u x

  abbrev KnownKept : Type 0
  KnownKept = (t : Ty) × Keeps t

  abbrev kept_plain : Ty-F KnownKept → Ty-F Ty
  kept_plain = map-Ty KnownKept Ty (λ (k : KnownKept). k.0)

  is_keyed : (x : Value) (t : Ty) → fits structs x t ≡ true → keyed x ≡ true
  is_keyed x t h = (and_parts (takes structs x t) (keyed x) h).1

  -- by the layers of both
  kept_at : (x : Value) (u : Ty) (l : Value-F Value) (z : Ty-F Ty) → out-Value x ≡ l → out-Ty (bare u) ≡ z → is_absent l ≡ false → cast_at x (map-Value Value Caster cast l) z ≡ Ok x
      → takes_at structs (tests structs l) z ≡ true → keyed x ≡ true → (cast x u ≡ Ok x) × (fits structs x u ≡ true)
  kept_at x u l z e f n c h k = (
    cast_out x u ∙ ap (λ m. cast_at x (map-Value Value Caster cast m) (out-Ty (bare u))) e ∙ ap (cast_at x (map-Value Value Caster cast l)) f ∙ c,
    and_from (takes structs x u) (keyed x)
        (takes_out structs x u ∙ ap (λ m. takes_step structs (tests structs m) u) e ∙ takes_plain structs l u (tests_absent structs l n) ∙ ap (takes_at structs (tests structs l)) f ∙ h) k,
  )

  bare_out : (t u : Ty) (z : Ty-F Ty) → same_type t (bare u) ≡ true → out-Ty t ≡ z → out-Ty (bare u) ≡ z
  bare_out t u z w e = ap out-Ty (sym (same_type-true t (bare u) w)) ∙ e

  items_kept : (k : KnownKept) → is_simple k.0 ≡ true → (u : Ty) → widens k.0 u ≡ true → (xs : List Value) → all_fit structs xs k.0 ≡ true → (each (map cast xs) u ≡ Ok xs) × (all_fit structs xs u ≡ true)
  items_kept k s u w [] h = (refl, refl)
  items_kept k s u w (x ∷ xs) h =
      let p = and_parts (fits structs x k.0) (all_fit structs xs k.0) h in
      let a = k.1 s u x w p.0 in
      let r = items_kept k s u w xs p.1 in (
        ap (λ o. and_then o (λ y. and_then (each (map cast xs) u) (λ ys. Ok (y ∷ ys)))) a.0
            ∙ ap (λ o. and_then o (λ ys. Ok (x ∷ ys))) r.0,
        and_from (fits structs x u) (all_fit structs xs u) a.1 r.1,
      )

  -- a value whose layer is a list, at an array
  list_taken : (xs : List Value) (u : Ty) (also : Bool) → fits structs (v.List xs) (ty.Array u also) ≡ true → takes_at structs (tests structs (value.List xs)) (type.Array u also) ≡ true
  list_taken xs u also h =
      sym (takes_out structs (v.List xs) (ty.Array u also)
      ∙ ap (λ m. takes_step structs (tests structs m) (ty.Array u also)) (v.outs-List xs)
      ∙ takes_plain structs (value.List xs) (ty.Array u also) refl
      ∙ ap (takes_at structs (tests structs (value.List xs))) (ty.outs-Array u also))
      ∙ (and_parts (takes structs (v.List xs) (ty.Array u also)) (keyed (v.List xs)) h).0

  lists_kept : (k : KnownKept) → is_simple k.0 ≡ true → (some : Bool) (u : Ty) (w : Ty) (also : Bool) (x : Value) (xs : List Value) → x ≡ v.List xs → out-Value x ≡ value.List xs → out-Ty (bare u) ≡ type.Array w also
      → widens k.0 w ≡ true → (some || not also) ≡ true → fits structs x (ty.Array k.0 some) ≡ true → all_fit structs xs k.0 ≡ true → (cast x u ≡ Ok x) × (fits structs x u ≡ true)
  lists_kept k s some u w also x [] e o z c m f h = by_mark also some z m f
    where
      is_list : (some : Bool) → fits structs x (ty.Array k.0 some) ≡ true → takes_at structs (tests structs (value.List [])) (type.Array k.0 some) ≡ true
      is_list some f = list_taken [] k.0 some (ap (λ y. fits structs y (ty.Array k.0 some)) (sym e) ∙ f)

      by_mark : (also some : Bool) → out-Ty (bare u) ≡ type.Array w also → (some || not also) ≡ true → fits structs x (ty.Array k.0 some) ≡ true → (cast x u ≡ Ok x) × (fits structs x u ≡ true)
      by_mark true true z m f = absurd (false≢true (is_list true f))
      by_mark true false z m f = absurd (false≢true m)
      by_mark false some z m f = kept_at x u (value.List []) (type.Array w false) o z refl (ap Ok (sym e)) refl (is_keyed x (ty.Array k.0 some) f)
  lists_kept k s some u w also x (y ∷ ys) e o z c m f h =
      let r = items_kept k s w c (y ∷ ys) h in
      kept_at x u (value.List (y ∷ ys)) (type.Array w also) o z refl
      (ap (λ q. and_then q (λ zs. Ok (v.List zs))) r.0 ∙ ap Ok (sym e))
      (list_taken (y ∷ ys) w also (some_fit structs y ys w also r.1))
      (is_keyed x (ty.Array k.0 some) f)

  absent_kept : (u : Ty) → cast v.Absent u ≡ Ok v.Absent
  absent_kept u = cast_out v.Absent u ∙ ap (λ m. cast_at v.Absent (map-Value Value Caster cast m) (out-Ty (bare u))) v.outs-Absent

  opt_cast : (x : Value) (w : Ty) → cast x (ty.Opt w) ≡ cast x w
  opt_cast x w = cast_out x (ty.Opt w) ∙ ap (λ t. cast_at x (map-Value Value Caster cast (out-Value x)) (out-Ty t)) (bare-Opt w) ∙ sym (cast_out x w)

  layer_kept : (y : Ty-F KnownKept) → simple_step (map-Ty Ty Bool is_simple (kept_plain y)) ≡ true → (u : Ty) (x : Value)
      → widens_step (roll-Ty (kept_plain y)) (map-Ty Ty TypeTest widens (kept_plain y)) u ≡ true → fits structs x (roll-Ty (kept_plain y)) ≡ true → Kept u x
  layer_kept type.Bool s u x w h =
      let p = a_bool structs x (subst (λ t. fits structs x t ≡ true) ty.rolls-Bool h) in
      kept_at x u (value.Bool p.0) type.Bool (ap out-Value p.1 ∙ v.outs-Bool p.0) (bare_out (roll-Ty type.Bool) u type.Bool w (out-roll-Ty type.Bool)) refl refl refl (is_keyed x (roll-Ty type.Bool) h)
  layer_kept type.Int s u x w h =
      let p = an_int structs x (subst (λ t. fits structs x t ≡ true) ty.rolls-Int h) in
      kept_at x u (value.Int p.0) type.Int (ap out-Value p.1 ∙ v.outs-Int p.0) (bare_out (roll-Ty type.Int) u type.Int w (out-roll-Ty type.Int)) refl refl p.2 (is_keyed x (roll-Ty type.Int) h)
  layer_kept type.Str s u x w h =
      let p = a_str structs x (subst (λ t. fits structs x t ≡ true) ty.rolls-Str h) in
      kept_at x u (value.Str p.0) type.Str (ap out-Value p.1 ∙ v.outs-Str p.0) (bare_out (roll-Ty type.Str) u type.Str w (out-roll-Ty type.Str)) refl refl refl (is_keyed x (roll-Ty type.Str) h)
  layer_kept type.File s u x w h =
      let p = a_file structs x (subst (λ t. fits structs x t ≡ true) ty.rolls-File h) in
      kept_at x u (value.File p.0) type.File (ap out-Value p.1 ∙ v.outs-File p.0) (bare_out (roll-Ty type.File) u type.File w (out-roll-Ty type.File)) refl refl refl (is_keyed x (roll-Ty type.File) h)
  layer_kept (type.Array k some) s u x w h =
      let f = subst (λ t. fits structs x t ≡ true) (ty.rolls-Array k.0 some) h in
      let p = a_list structs x k.0 some f in
      by_layer f p.0 p.1 p.2 p.3 (out-Ty (bare u)) refl w
    where
      by_layer : fits structs x (ty.Array k.0 some) ≡ true → (xs : List Value) → x ≡ v.List xs → out-Value x ≡ value.List xs → all_fit structs xs k.0 ≡ true → (z : Ty-F Ty) → out-Ty (bare u) ≡ z
          → array_widens (widens k.0) some z ≡ true → Kept u x
      by_layer f xs e o a (type.Array t also) z c =
          let q = and_parts (widens k.0 t) (some || not also) c in
          lists_kept k s some u t also x xs e o z q.0 q.1 f a
      by_layer f xs e o a z q c = absurd (false≢true c)
  layer_kept (type.Opt k) s u x w h = by_layer (out-Ty u) refl w
    where
      by_layer : (z : Ty-F Ty) → out-Ty u ≡ z → opt_coerces (widens k.0) z ≡ true → Kept u x
      by_layer (type.Opt t) e c = subst (λ (q : Ty). Kept q x) (sym (sym (roll-out-Ty u) ∙ ap roll-Ty e ∙ ty.rolls-Opt t)) (by_value (an_opt structs x k.0 (subst (λ t. fits structs x t ≡ true) (ty.rolls-Opt k.0) h)))
        where
          by_value : (x ≡ v.Absent) ⊎ (fits structs x k.0 ≡ true) → Kept (ty.Opt t) x
          by_value (inl a) =
              subst (λ (y : Value). Kept (ty.Opt t) y) (sym a) (absent_kept (ty.Opt t), absent_fits structs t)
          by_value (inr f) = let r = k.1 s t x c f in (opt_cast x t ∙ r.0, opt_fits structs x t r.1)
      by_layer z e c = absurd (false≢true c)
  layer_kept y s u x w h = absurd (false≢true s)

  -- A cast of the subset keeps what fits the type that it is from.
  pub casts_keep : (t : Ty) → is_simple t ≡ true → (u : Ty) (x : Value) → widens t u ≡ true → fits structs x t ≡ true → Kept u x
  casts_keep = ind-Ty Keeps (λ a y is. subst (λ (z : Ty-F Ty). Keeps (roll-Ty z)) is (λ s u x w h.
      layer_kept y (sym (fold-roll-Ty Bool simple_step (kept_plain y)) ∙ s) u x
      (sym (widens_out (roll-Ty (kept_plain y)) u ∙ ap (λ z. widens_step (roll-Ty (kept_plain y)) (map-Ty Ty TypeTest widens z) u) (out-roll-Ty (kept_plain y))) ∙ w) h))
