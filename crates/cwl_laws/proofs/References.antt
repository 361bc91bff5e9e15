-- References under the casts of the subset.
use Rattle.std.proofs.Common.{◌≡◌, Bool, true, false, cond, ◌&&◌, List, [], ◌∷◌, Option, Some, None, option_and_then, Ok, Err, sym, ap, ◌∙◌, subst, refl}
use Rattle.std.specs.List.{list_all}
use Rattle.std.proofs.lemmas.Bool.{and_parts}
use Rattle.std.proofs.lemmas.Option.{none-some, same_Some}
use Rattle.wdl_base.specs.declared.fault.EvalCode.TheVariants.{TooLarge}
use Rattle.wdl_base.specs.declared.name.Key.{Key}
use Rattle.wdl_value.specs.declared.ty.Ty.{Ty}
use Rattle.wdl_value.specs.declared.value.Value.{Value}
use Rattle.wdl_value.specs.Cast.{cast}
use Rattle.wdl_value.specs.Coerces.{coerces}
use Rattle.wdl_value.specs.Fits.{Structs, fits}
use Rattle.wdl_value.specs.Limits.{is_within, limited}
use Rattle.wdl_value.specs.Outcome.{Outcome}
use Rattle.wdl_typed.specs.declared.expr.TExpr.{TExpr, TExpr-F, fold-TExpr, fold-roll-TExpr, ind-TExpr, map-TExpr, para-roll-TExpr, roll-TExpr}
use Rattle.wdl_typed.specs.declared.expr.TExpr.TheOpen as layer
use Rattle.wdl_typed.specs.declared.expr.TExpr.TheVariants as e
use Rattle.wdl_typed.specs.declared.scope.Bound.{Bound}
use Rattle.wdl_typed.specs.Declarations.{Placed, context, in_body, or_type, output_context, placed_step, type_in_place}
use Rattle.wdl_typed.specs.Evaluation.{Met, Setting, found, from_cast, met, settled, then_, value_met, value_of, value_step}
use Rattle.wdl_typed.specs.Flow.{is_known}
use Rattle.wdl_typed.specs.KnownTypes.{is_some}
use Rattle.wdl_typed.specs.Requests.{before}
use Rattle.wdl_typed.specs.Scope.{lookup, names_of, names_step, type_in}
use Rattle.wdl_typed.specs.Typing.{Context, Typing, type_of as type_by, type_step, when}
use Rattle.cwl_image.specs.Expressions.{Placing, are_allowed, casts_step, casts_widen, is_simple, some_widens}
use Rattle.cwl_image.specs.Image.{reference, reference_step}
use Rattle.cwl_laws.specs.Laws.{FitsAt}
use Rattle.cwl_laws.specs.Premises.{Reads}
use Rattle.cwl_laws.proofs.Casts.{casts_keep, fits_typed, simple_widens}

-- ---- the form

-- a name under casts, the outermost first
abbrev pub under : Key → List Ty → TExpr
under key [] = e.Get key
under key (t ∷ ts) = e.Cast (under key ts) t

abbrev Refers : TExpr → Type 0
Refers x = (key : Key) → reference x ≡ Some key → (ts : List Ty) × (x ≡ under key ts)

abbrev KnownRefers : Type 0
KnownRefers = (x : TExpr) × Refers x

abbrev plain : TExpr-F KnownRefers → TExpr-F TExpr
plain = map-TExpr KnownRefers TExpr (λ (k : KnownRefers). k.0)

layer_refers : (y : TExpr-F KnownRefers) (key : Key) → reference_step (map-TExpr TExpr (Option Key) reference (plain y)) ≡ Some key → (ts : List Ty) × (roll-TExpr (plain y) ≡ under key ts)
layer_refers (layer.Get k) key h = ([], e.rolls-Get k ∙ ap e.Get (same_Some _ _ h))
layer_refers (layer.Cast k t) key h = let r = k.1 key h in (t ∷ r.0, e.rolls-Cast k.0 t ∙ ap (λ a. e.Cast a t) r.1)
layer_refers y key h = absurd (none-some _ h)

-- A reference is a name under casts.
pub refers_under : (x : TExpr) (key : Key) → reference x ≡ Some key → (ts : List Ty) × (x ≡ under key ts)
refers_under = ind-TExpr Refers (λ a y is. subst (λ (z : TExpr-F TExpr). Refers (roll-TExpr z)) is (λ key h.
    layer_refers y key (sym (fold-roll-TExpr (Option Key) reference_step (plain y)) ∙ h)))

-- ---- its type

abbrev pub cast_type : Option Ty → Ty → Option Ty
cast_type o t = option_and_then (λ u. when (coerces u t) t) o

abbrev pub under_type : Key → List Ty → List Bound → Option Ty
under_type key [] names = type_in names key
under_type key (t ∷ ts) names = cast_type (under_type key ts names) t

abbrev pub under_allowed : Key → List Ty → List Bound → Bool
under_allowed key [] names = true
under_allowed key (t ∷ ts) names = some_widens (under_type key ts names) t && under_allowed key ts names

pub type_is : (c : Context) (p : Bool) (key : Key) (ts : List Ty) → type_by c (under key ts) p ≡ under_type key ts c.names
type_is c p key [] = ap (λ x. type_by c x p) (sym (e.rolls-Get key)) ∙ ap (λ (f : Typing). f p) (fold-roll-TExpr Typing (type_step c) (layer.Get key))
type_is c p key (t ∷ ts) =
    ap (λ x. type_by c x p) (sym (e.rolls-Cast (under key ts) t))
    ∙ ap (λ (f : Typing). f p) (fold-roll-TExpr Typing (type_step c) (layer.Cast (under key ts) t))
    ∙ ap (λ o. cast_type o t) (type_is c p key ts)

-- It writes no file.
placed_is : (c : Context) (p : Bool) (key : Key) (ts : List Ty) → ((fold-TExpr Placed (placed_step c) (under key ts)).plain p ≡ under_type key ts c.names) × ((fold-TExpr Placed (placed_step c) (under key ts)).write p ≡ None)
placed_is c p key [] =
    let q = ap (fold-TExpr Placed (placed_step c)) (sym (e.rolls-Get key)) ∙ fold-roll-TExpr Placed (placed_step c) (layer.Get key) in
    (ap (λ (z : Placed). z.plain p) q, ap (λ (z : Placed). z.write p) q)
placed_is c p key (t ∷ ts) =
    let q = ap (fold-TExpr Placed (placed_step c)) (sym (e.rolls-Cast (under key ts) t)) ∙ fold-roll-TExpr Placed (placed_step c) (layer.Cast (under key ts) t) in
    let r = placed_is c p key ts in (
      ap (λ (z : Placed). z.plain p) q ∙ ap (λ o. cast_type o t) r.0,
      ap (λ (z : Placed). z.write p) q ∙ ap (λ o. cast_type o t) r.1,
    )

pub place_is : (c : Context) (p : Bool) (key : Key) (ts : List Ty) → type_in_place c (under key ts) p ≡ under_type key ts c.names
place_is c p key ts =
    let r = placed_is c p key ts in
    ap (λ o. or_type o ((fold-TExpr Placed (placed_step c) (under key ts)).write p)) r.0 ∙ ap (or_type (under_type key ts c.names)) r.1 ∙ or_none (under_type key ts c.names)
  where
    or_none : (o : Option Ty) → or_type o None ≡ o
    or_none None = refl
    or_none (Some t) = refl

pub allowed_is : (c : Context) (p : Bool) (key : Key) (ts : List Ty) → casts_widen c (under key ts) p ≡ under_allowed key ts c.names
unfolding casts_widen
allowed_is c p key [] = ap (λ x. casts_widen c x p) (sym (e.rolls-Get key)) ∙ ap (λ (f : Placing). f p) (para-roll-TExpr Placing (casts_step c) (layer.Get key))
allowed_is c p key (t ∷ ts) =
    ap (λ x. casts_widen c x p) (sym (e.rolls-Cast (under key ts) t))
    ∙ ap (λ (f : Placing). f p) (para-roll-TExpr Placing (casts_step c) (layer.Cast (under key ts) t))
    ∙ ap (λ o. some_widens o t && casts_widen c (under key ts) p) (place_is c p key ts)
    ∙ ap (λ b. some_widens (under_type key ts c.names) t && b) (allowed_is c p key ts)

-- ---- its names and its value

pub names_are : (key : Key) (ts : List Ty) → names_of (under key ts) ≡ key ∷ []
names_are key [] = ap names_of (sym (e.rolls-Get key)) ∙ fold-roll-TExpr (List Key) names_step (layer.Get key)
names_are key (t ∷ ts) = ap names_of (sym (e.rolls-Cast (under key ts) t)) ∙ fold-roll-TExpr (List Key) names_step (layer.Cast (under key ts) t) ∙ names_are key ts

-- a value within the limits, cast to a type that it fits
pub cast_met : (x : Value) (t : Ty) → cast x t ≡ Ok x → then_ (then_ (met (limited x)) (λ y. from_cast (cast y t))) (λ y. met (limited y)) ≡ met (limited x)
cast_met x t h = by_limit (is_within x) refl
  where
    by_limit : (b : Bool) → is_within x ≡ b → then_ (then_ (met (cond b (Ok x) (Err TooLarge))) (λ y. from_cast (cast y t))) (λ y. met (limited y)) ≡ met (cond b (Ok x) (Err TooLarge))
    by_limit true w = ap (λ r. then_ (from_cast r) (λ y. met (limited y))) h ∙ ap (λ b. met (cond b (Ok x) (Err TooLarge))) w
    by_limit false w = refl

module _ (structs : Structs) (seen : List Bound) (key : Key) (x : Value) (fit : FitsAt structs seen key x) (own_simple : is_simple fit.0 ≡ true) where
  -- what is known of the value, by the casts
  pub record Cast (ts : List Ty) (t : Ty) : Type 0 where
    pub simple : is_simple t ≡ true
    pub ok : fits structs x t ≡ true
    pub met : (s : Setting) → lookup s.env key ≡ Some x → value_met s (under key ts) ≡ met (limited x)

  pub under_casts : (ts : List Ty) (t : Ty) → under_type key ts seen ≡ Some t → under_allowed key ts seen ≡ true → Cast ts t
  under_casts [] t h a =
      let same : fit.0 ≡ t = same_Some _ _ (sym fit.1 ∙ h) in
      record {
        simple = subst (λ (u : Ty). is_simple u ≡ true) same own_simple;
        ok = subst (λ (u : Ty). fits structs x u ≡ true) same fit.2;
        met = λ s l.
            ap (value_met s) (sym (e.rolls-Get key))
            ∙ fold-roll-TExpr (Met Value) (value_step s) (layer.Get key)
            ∙ ap (λ o. then_ (found o) (λ y. met (limited y))) l;
      }
  under_casts (u ∷ ts) t h a =
      let p = and_parts (some_widens (under_type key ts seen) u) (under_allowed key ts seen) a in
      by_type (under_type key ts seen) refl h p.0 (λ w q. under_casts ts w q p.1)
    where
      by_type : (o : Option Ty) → under_type key ts seen ≡ o → cast_type o u ≡ Some t → some_widens o u ≡ true → ((w : Ty) → under_type key ts seen ≡ Some w → Cast ts w) → Cast (u ∷ ts) t
      by_type None q h w rest = absurd (none-some _ h)
      by_type (Some v) q h w rest =
          let r = rest v q in
          let same : u ≡ t = made (coerces v u) h in
          let kept = casts_keep structs v r.simple u x w r.ok in
          subst (Cast (u ∷ ts)) same
          (record {
            simple = simple_widens v u r.simple w;
            ok = kept.1;
            met = λ s l.
                ap (value_met s) (sym (e.rolls-Cast (under key ts) u))
                ∙ fold-roll-TExpr (Met Value) (value_step s) (layer.Cast (under key ts) u)
                ∙ ap (λ m. then_ (then_ m (λ y. from_cast (cast y u))) (λ y. met (limited y))) (r.met s l)
                ∙ cast_met x u kept.0;
          })
        where
          made : (b : Bool) → when b u ≡ Some t → u ≡ t
          made true h = same_Some _ _ h
          made false h = absurd (none-some _ h)

pub settled_met : (o : Outcome Value) → settled (met o) ≡ o
settled_met (Ok x) = refl
settled_met (Err c) = refl

-- ---- the same type among other names

pub type_same : (key : Key) (ts : List Ty) (names more : List Bound) → type_in names key ≡ type_in more key → under_type key ts names ≡ under_type key ts more
type_same key [] names more e = e
type_same key (t ∷ ts) names more e = ap (λ o. cast_type o t) (type_same key ts names more e)

pub allowed_same : (key : Key) (ts : List Ty) (names more : List Bound) → type_in names key ≡ type_in more key → under_allowed key ts names ≡ under_allowed key ts more
allowed_same key [] names more e = refl
allowed_same key (t ∷ ts) names more e =
    ap (λ o. some_widens o t && under_allowed key ts names) (type_same key ts names more e) ∙ ap (λ b. some_widens (under_type key ts more) t && b) (allowed_same key ts names more e)

-- A reference under casts of the subset reads what it refers to. It may be typed, and its casts be allowed, where more names are
-- seen than its own.
pub reads_among : (structs : Structs) (seen names more : List Bound) (x : TExpr) (key : Key) (t : Ty) → reference x ≡ Some key → in_body structs names x ≡ Some t → are_allowed structs more x false ≡ true
    → type_in names key ≡ type_in seen key → type_in more key ≡ type_in seen key → ((u : Ty) → type_in seen key ≡ Some u → is_simple u ≡ true) → Reads structs seen x key t
reads_among structs seen names more x key t refers typed allowed same also simple = let r = refers_under x key refers in by_form r.0 r.1
  where
    by_form : (ts : List Ty) → x ≡ under key ts → Reads structs seen x key t
    by_form ts form =
        record {
          refers = refers;
          known = λ names y h. ap (λ z. list_all (is_known names) (names_of z)) form ∙ ap (list_all (is_known names)) (names_are key ts) ∙ ap (λ o. is_some o && true) h;
          value = λ env y fit h. ap (value_of (before env)) form ∙ ap settled ((casts y fit).met (before env) h) ∙ settled_met (limited y);
          fit = λ y fit. (casts y fit).ok;
          typed = λ y fit. fits_typed structs t (casts y fit).simple y (casts y fit).ok;
        }
      where
        casts : (y : Value) (fit : FitsAt structs seen key y) → Cast structs seen key y fit (simple fit.0 fit.1) ts t
        casts y fit =
            under_casts structs seen key y fit (simple fit.0 fit.1) ts t
            (sym (type_same key ts names seen same) ∙ sym (type_is (context structs names) false key ts) ∙ ap (λ z. in_body structs names z) (sym form) ∙ typed)
            (sym (allowed_same key ts more seen also) ∙ sym (allowed_is (output_context structs more) false key ts) ∙ ap (λ z. are_allowed structs more z false) (sym form) ∙ allowed)

pub reads_by : (structs : Structs) (seen : List Bound) (x : TExpr) (key : Key) (t : Ty) → reference x ≡ Some key → in_body structs seen x ≡ Some t → are_allowed structs seen x false ≡ true
    → ((u : Ty) → type_in seen key ≡ Some u → is_simple u ≡ true) → Reads structs seen x key t
reads_by structs seen x key t refers typed allowed simple = reads_among structs seen seen seen x key t refers typed allowed refl refl simple
