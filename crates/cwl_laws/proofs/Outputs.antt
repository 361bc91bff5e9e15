-- The outputs of a task and of its tool.
use Rattle.std.proofs.Common.{◌≡◌, ℕ, ◌==◌, ◌⊎◌, inl, inr, Bool, true, false, cond, not, ◌&&◌, ◌||◌, List, [], ◌∷◌, ◌++◌, map, Option, Some, None, option_and_then, Ok, Err, codes, sym, ap, ◌∙◌, subst, refl}
use Rattle.std.specs.Char.{is_ascii_alphanumeric}
use Rattle.std.specs.List.{list_all, list_any}
use Rattle.std.specs.Str.{bytes_eq}
use Rattle.std.proofs.lemmas.Bool.{false≢true, and_parts, or_parts}
use Rattle.std.proofs.lemmas.Slice.Eq.{bytes_eq-Decides}
use Rattle.std.proofs.lemmas.Option.{none-some, same_Some}
use Rattle.wdl_base.specs.declared.fault.EvalCode.TheVariants.{TooLarge}
use Rattle.wdl_base.specs.declared.place.Segment.{Segment}
use Rattle.wdl_value.specs.declared.operator.Func.{Func}
use Rattle.wdl_value.specs.declared.operator.Func.TheVariants as func
use Rattle.wdl_value.specs.declared.ty.Ty.{Ty, Ty-F, fold-roll-Ty, out-Ty, roll-Ty, roll-out-Ty}
use Rattle.wdl_value.specs.declared.ty.Ty.TheOpen as type
use Rattle.wdl_value.specs.declared.ty.Ty.TheVariants as ty
use Rattle.wdl_value.specs.declared.value.Value.{Value, Value-F, out-Value, roll-Value, roll-out-Value}
use Rattle.wdl_value.specs.declared.value.Value.TheOpen as value
use Rattle.wdl_value.specs.declared.value.Value.TheVariants as v
use Rattle.wdl_value.specs.Cast.{cast}
use Rattle.wdl_value.specs.Coerces.{coerces}
use Rattle.wdl_value.specs.Fits.{Structs, fits}
use Rattle.wdl_value.specs.FunctionTypes.{function_type}
use Rattle.wdl_value.specs.Kinds.{file_at as is_file_layer}
use Rattle.wdl_value.specs.Limits.{is_within, limited}
use Rattle.wdl_value.specs.Outcome.{Outcome, and_then}
use Rattle.wdl_value.proofs.FitsForms.{a_file, file_fits, str_fits}
use Rattle.wdl_typed.specs.declared.expr.TExpr.{TExpr, TExpr-F, fold-TExpr, fold-roll-TExpr, ind-TExpr, map-TExpr, out-TExpr, para-roll-TExpr, roll-TExpr}
use Rattle.wdl_typed.specs.declared.expr.TExpr.TheOpen as layer
use Rattle.wdl_typed.specs.declared.expr.TExpr.TheVariants as e
use Rattle.wdl_typed.specs.declared.scope.Bound.{Bound}
use Rattle.wdl_typed.specs.declared.task.TDecl.{TDecl}
use Rattle.wdl_typed.specs.Declarations.{Placed, in_output, or_type, output_context, placed_step, type_in_place}
use Rattle.wdl_typed.specs.Evaluation.{Met, Setting, from_cast, met, settled, then_, value_met, value_of, value_step}
use Rattle.wdl_typed.specs.Flow.{Run}
use Rattle.wdl_typed.specs.Requests.{after, job_dir, landed, output_met}
use Rattle.wdl_typed.specs.Typing.{Context, Typing, all_types, apply_type, exact_args, is_type, items_in, literal_at, type_of as type_by, type_step, when}
use Rattle.cwl_model.specs.declared.tool.Origin.{Origin}
use Rattle.cwl_model.specs.declared.tool.Origin.TheVariants as origin
use Rattle.cwl_model.specs.declared.ty.CwlTy.{CwlTy}
use Rattle.cwl_model.specs.declared.ty.CwlTy.TheVariants as cwl
use Rattle.cwl_model.specs.Means.{file_at, has_file, job_path}
use Rattle.cwl_image.specs.Expressions.{Placing, are_allowed, casts_step, casts_widen, file_step, is_file, is_file_char, is_file_literal, is_file_name, is_file_type, is_simple, is_stdout, is_taken, is_text_layer, names_file_at, output_allowed, simple_step, some_widens}
use Rattle.cwl_image.specs.Image.{origin_by, origin_step, str_in, tool_out, type_of, type_step as cwl_step}
use Rattle.cwl_laws.specs.Tools.{IsFile, SameOutput, SameValue, ground_of}
use Rattle.cwl_laws.proofs.Casts.{casts_keep, simple_widens}
use Rattle.cwl_laws.proofs.Files.{IsFileName, glob_met, has_slash, number_same, stdout_met}
use Rattle.cwl_laws.proofs.References.{cast_met, cast_type}
use Rattle.flow_soundness.proofs.Fitting.{is_type-some as typed_as}

-- ---- an expression under casts

-- the outermost first
abbrev over : TExpr → List Ty → TExpr
over a [] = a
over a (t ∷ ts) = e.Cast (over a ts) t

abbrev over_type : Option Ty → List Ty → Option Ty
over_type o [] = o
over_type o (t ∷ ts) = cast_type (over_type o ts) t

over_typed : (c : Context) (p : Bool) (a : TExpr) (ts : List Ty) → type_by c (over a ts) p ≡ over_type (type_by c a p) ts
over_typed c p a [] = refl
over_typed c p a (t ∷ ts) =
    ap (λ x. type_by c x p) (sym (e.rolls-Cast (over a ts) t))
    ∙ ap (λ (f : Typing). f p) (fold-roll-TExpr Typing (type_step c) (layer.Cast (over a ts) t))
    ∙ ap (λ o. cast_type o t) (over_typed c p a ts)

-- the base writes no file
abbrev IsPlain : Context → Bool → TExpr → Type 0
IsPlain c p a = ((fold-TExpr Placed (placed_step c) a).plain p ≡ type_by c a p) × ((fold-TExpr Placed (placed_step c) a).write p ≡ None)

over_plain : (c : Context) (p : Bool) (a : TExpr) → IsPlain c p a → (ts : List Ty) → IsPlain c p (over a ts)
over_plain c p a h [] = h
over_plain c p a h (t ∷ ts) =
    let q = ap (fold-TExpr Placed (placed_step c)) (sym (e.rolls-Cast (over a ts) t)) ∙ fold-roll-TExpr Placed (placed_step c) (layer.Cast (over a ts) t) in
    let r = over_plain c p a h ts in (
      ap (λ (z : Placed). z.plain p) q ∙ ap (λ o. cast_type o t) r.0
          ∙ sym (ap (λ x. type_by c x p) (sym (e.rolls-Cast (over a ts) t)) ∙ ap (λ (f : Typing). f p) (fold-roll-TExpr Typing (type_step c) (layer.Cast (over a ts) t))),
      ap (λ (z : Placed). z.write p) q ∙ ap (λ o. cast_type o t) r.1,
    )

plain_place : (c : Context) (p : Bool) (a : TExpr) → IsPlain c p a → type_in_place c a p ≡ type_by c a p
plain_place c p a h = ap (λ o. or_type o ((fold-TExpr Placed (placed_step c) a).write p)) h.0 ∙ ap (or_type (type_by c a p)) h.1 ∙ or_none (type_by c a p)
  where
    or_none : (o : Option Ty) → or_type o None ≡ o
    or_none None = refl
    or_none (Some t) = refl

over_allowed : (c : Context) (p : Bool) (a : TExpr) → IsPlain c p a → (t : Ty) (ts : List Ty) → casts_widen c (over a (t ∷ ts)) p ≡ true
    → (some_widens (type_by c (over a ts) p) t ≡ true) × (casts_widen c (over a ts) p ≡ true)
unfolding casts_widen
over_allowed c p a h t ts w =
    and_parts (some_widens (type_by c (over a ts) p) t) (casts_widen c (over a ts) p)
    (ap (λ o. some_widens o t && casts_widen c (over a ts) p) (sym (plain_place c p (over a ts) (over_plain c p a h ts)))
    ∙ sym (ap (λ x. casts_widen c x p) (sym (e.rolls-Cast (over a ts) t)) ∙ ap (λ (f : Placing). f p) (para-roll-TExpr Placing (casts_step c) (layer.Cast (over a ts) t)))
    ∙ w)

module _ (structs : Structs) (c : Context) (p : Bool) (a : TExpr) (x : Value) (t0 : Ty) (simple0 : is_simple t0 ≡ true) (ok0 : fits structs x t0 ≡ true) (typed0 : type_by c a p ≡ Some t0) (plain0 : IsPlain c p a) where
  -- what is known of the value under casts
  pub record Kept (ts : List Ty) (t : Ty) : Type 0 where
    pub simple : is_simple t ≡ true
    pub ok : fits structs x t ≡ true
    pub met : (s : Setting) → value_met s a ≡ met (limited x) → value_met s (over a ts) ≡ met (limited x)

  over_kept : (ts : List Ty) (t : Ty) → type_by c (over a ts) p ≡ Some t → casts_widen c (over a ts) p ≡ true → Kept ts t
  over_kept [] t h w =
      let same : t0 ≡ t = same_Some _ _ (sym typed0 ∙ h) in
      record { simple = subst (λ (u : Ty). is_simple u ≡ true) same simple0; ok = subst (λ (u : Ty). fits structs x u ≡ true) same ok0; met = λ s m. m }
  over_kept (u ∷ ts) t h w =
      let q = over_allowed c p a plain0 u ts w in
      by_type (type_by c (over a ts) p) refl (ap (λ o. cast_type o u) (over_typed c p a ts) ∙ sym (over_typed c p a (u ∷ ts)) ∙ h) q.0 (λ d k. over_kept ts d k q.1)
    where
      by_type : (o : Option Ty) → type_by c (over a ts) p ≡ o → cast_type (type_by c (over a ts) p) u ≡ Some t → some_widens o u ≡ true → ((d : Ty) → type_by c (over a ts) p ≡ Some d → Kept ts d) → Kept (u ∷ ts) t
      by_type None e h w rest = absurd (false≢true w)
      by_type (Some d) q h w rest =
          let r = rest d q in
          let same : u ≡ t = made (coerces d u) (sym (ap (λ o. cast_type o u) q) ∙ h) in
          let kept = casts_keep structs d r.simple u x w r.ok in
          subst (Kept (u ∷ ts)) same
          (record {
            simple = simple_widens d u r.simple w;
            ok = kept.1;
            met = λ s m.
                ap (value_met s) (sym (e.rolls-Cast (over a ts) u))
                ∙ fold-roll-TExpr (Met Value) (value_step s) (layer.Cast (over a ts) u)
                ∙ ap (λ z. then_ (then_ z (λ y. from_cast (cast y u))) (λ y. met (limited y))) (r.met s m)
                ∙ cast_met x u kept.0;
          })
        where
          made : (b : Bool) → when b u ≡ Some t → u ≡ t
          made true h = same_Some _ _ h
          made false h = absurd (none-some _ h)

-- ---- the form of an output

-- a text that names a file, or the standard output, under casts
abbrev FileForm : TExpr → Type 0
FileForm x =
    ((ts : List Ty) × (name : List ℕ) × (x ≡ over (e.Lit (v.Str name)) ts) × (is_file_name name ≡ true))
    ⊎ ((ts : List Ty) × (f : Func) × (es : List TExpr) × (x ≡ over (e.Apply f es) ts) × (is_stdout f ≡ true))

abbrev Forms : TExpr → Type 0
Forms x = is_file x ≡ true → FileForm x

abbrev KnownForms : Type 0
KnownForms = (x : TExpr) × Forms x

abbrev plain : TExpr-F KnownForms → TExpr-F TExpr
plain = map-TExpr KnownForms TExpr (λ (k : KnownForms). k.0)

layer_form : (y : TExpr-F KnownForms) → file_step (map-TExpr TExpr Bool is_file (plain y)) ≡ true → FileForm (roll-TExpr (plain y))
layer_form (layer.Lit x) h = by_layer (out-Value x) refl h
  where
    by_layer : (z : Value-F Value) → out-Value x ≡ z → names_file_at z ≡ true → FileForm (roll-TExpr (layer.Lit x))
    by_layer (value.Str name) q h = inl ([], name, e.rolls-Lit x ∙ ap e.Lit (sym (roll-out-Value x) ∙ ap roll-Value q ∙ v.rolls-Str name), h)
    by_layer z q h = absurd (false≢true h)
layer_form (layer.Apply f ks) h = inr ([], f, map (λ (k : KnownForms). k.0) ks, e.rolls-Apply f (map (λ (k : KnownForms). k.0) ks), h)
layer_form (layer.Cast k t) h = by_form (k.1 h)
  where
    by_form : FileForm k.0 → FileForm (roll-TExpr (layer.Cast k.0 t))
    by_form (inl r) = inl (t ∷ r.0, r.1, e.rolls-Cast k.0 t ∙ ap (λ a. e.Cast a t) r.2, r.3)
    by_form (inr r) = inr (t ∷ r.0, r.1, r.2, e.rolls-Cast k.0 t ∙ ap (λ a. e.Cast a t) r.3, r.4)
layer_form y h = absurd (false≢true h)

file_form : (x : TExpr) → is_file x ≡ true → FileForm x
file_form = ind-TExpr Forms (λ a y is. subst (λ (z : TExpr-F TExpr). Forms (roll-TExpr z)) is (λ h.
    layer_form y (sym (fold-roll-TExpr Bool file_step (plain y)) ∙ h)))

-- ---- types

file_type : (t : Ty) → is_file_type t ≡ true → t ≡ ty.File
file_type t h = by_layer (out-Ty t) refl h
  where
    by_layer : (z : Ty-F Ty) → out-Ty t ≡ z → is_file_layer z ≡ true → t ≡ ty.File
    by_layer type.File q h = sym (roll-out-Ty t) ∙ ap roll-Ty q ∙ ty.rolls-File
    by_layer z q h = absurd (false≢true h)

simple_file : is_simple ty.File ≡ true
simple_file = ap is_simple (sym ty.rolls-File) ∙ fold-roll-Ty Bool simple_step type.File

simple_str : is_simple ty.Str ≡ true
simple_str = ap is_simple (sym ty.rolls-Str) ∙ fold-roll-Ty Bool simple_step type.Str

-- ---- the standard output

is_stdout_func : (f : Func) → is_stdout f ≡ true → f ≡ func.Stdout
is_stdout_func func.Stdout h = refl
is_stdout_func f h = absurd (false≢true h)

-- a well typed call of it has no arguments, and is a File
stdout_typed : (c : Context) (p : Bool) (es : List TExpr) (t : Ty) → c.outputs ≡ true → type_by c (e.Apply func.Stdout es) p ≡ Some t → (es ≡ []) × (t ≡ ty.File)
stdout_typed c p es t outputs h =
    by_types es (all_types (items_in (map (type_by c) es) p)) refl
    (ap (λ b. option_and_then (apply_type b func.Stdout) (all_types (items_in (map (type_by c) es) p))) (sym outputs)
    ∙ sym (ap (λ x. type_by c x p) (sym (e.rolls-Apply func.Stdout es)) ∙ ap (λ (f : Typing). f p) (fold-roll-TExpr Typing (type_step c) (layer.Apply func.Stdout es))) ∙ h)
  where
    by_some : (es : List TExpr) (us : List Ty) → option_and_then (exact_args us) (function_type func.Stdout us) ≡ Some t → (us ≡ []) × (t ≡ ty.File)
    by_some es [] h = (refl, sym (same_Some _ _ h))
    by_some es (u ∷ []) h = absurd (none-some _ h)
    by_some es (u ∷ (w ∷ [])) h = absurd (none-some _ h)
    by_some es (u ∷ (w ∷ (z ∷ us))) h = absurd (none-some _ h)

    none_left : (es : List TExpr) → all_types (items_in (map (type_by c) es) p) ≡ Some [] → es ≡ []
    none_left [] h = refl
    none_left (x ∷ es) h = by_type (type_by c x p) (all_types (items_in (map (type_by c) es) p)) h
      where
        by_type : (o : Option Ty) (q : Option (List Ty)) → option_and_then (λ a. option_and_then (λ as_. Some (a ∷ as_)) q) o ≡ Some [] → x ∷ es ≡ []
        by_type None q h = absurd (none-some _ h)
        by_type (Some a) None h = absurd (none-some _ h)
        by_type (Some a) (Some as_) h = cc

    by_types : (es : List TExpr) (o : Option (List Ty)) → all_types (items_in (map (type_by c) es) p) ≡ o → option_and_then (apply_type true func.Stdout) o ≡ Some t → (es ≡ []) × (t ≡ ty.File)
    by_types es None q h = absurd (none-some _ h)
    by_types es (Some us) q h = let r = by_some es us h in (none_left es (q ∙ ap Some r.0), r.1)

stdout_plain : (c : Context) (p : Bool) → IsPlain c p (e.Apply func.Stdout [])
stdout_plain c p =
    let q = ap (fold-TExpr Placed (placed_step c)) (sym (e.rolls-Apply func.Stdout [])) ∙ fold-roll-TExpr Placed (placed_step c) (layer.Apply func.Stdout []) in (
      ap (λ (z : Placed). z.plain p) q ∙ sym (ap (λ x. type_by c x p) (sym (e.rolls-Apply func.Stdout [])) ∙ ap (λ (f : Typing). f p) (fold-roll-TExpr Typing (type_step c) (layer.Apply func.Stdout []))),
      ap (λ (z : Placed). z.write p) q,
    )

stdout_value_met : (s : Setting) → value_met s (e.Apply func.Stdout []) ≡ met (limited (v.File (s.dir ++ 47 ∷ codes "_stdout")))
stdout_value_met s =
    ap (value_met s) (sym (e.rolls-Apply func.Stdout []))
    ∙ fold-roll-TExpr (Met Value) (value_step s) (layer.Apply func.Stdout [])
    ∙ twice (v.File (s.dir ++ 47 ∷ codes "_stdout")) (is_within (v.File (s.dir ++ 47 ∷ codes "_stdout"))) refl
  where
    twice : (x : Value) (b : Bool) → is_within x ≡ b → then_ (met (cond b (Ok x) (Err TooLarge))) (λ y. met (limited y)) ≡ met (cond b (Ok x) (Err TooLarge))
    twice x true h = ap (λ b. met (cond b (Ok x) (Err TooLarge))) h
    twice x false h = refl

-- ---- file names

no_slash : (s : List ℕ) → list_all is_file_char s ≡ true → has_slash s ≡ false
no_slash [] h = refl
no_slash (c ∷ s) h =
    let p = and_parts (is_file_char c) (list_all is_file_char s) h in
    ap (λ b. b || has_slash s) (not_slash (c == 47) refl p.0) ∙ no_slash s p.1
  where
    not_slash : (b : Bool) → (c == 47) ≡ b → is_file_char c ≡ true → b ≡ false
    not_slash false e k = refl
    not_slash true e k = absurd (false≢true (ap is_file_char (sym (number_same c 47 e)) ∙ k))

-- A text with a letter or a digit is no text without one.
other_text : (s w : List ℕ) → list_any is_ascii_alphanumeric s ≡ true → list_any is_ascii_alphanumeric w ≡ false → bytes_eq s w ≡ false
other_text s w some none = by_test (bytes_eq s w) refl
  where
    by_test : (b : Bool) → bytes_eq s w ≡ b → b ≡ false
    by_test false e = refl
    by_test true e = absurd (false≢true (sym none ∙ sym (ap (list_any is_ascii_alphanumeric) ((bytes_eq-Decides s w).0 e)) ∙ some))

file_name : (s : List ℕ) → is_file_name s ≡ true → IsFileName s
file_name s h =
    let p = and_parts (list_all is_file_char s && list_any is_ascii_alphanumeric s) (not (is_taken s)) h in
    let q = and_parts (list_all is_file_char s) (list_any is_ascii_alphanumeric s) p.0 in
    let r = or_parts (bytes_eq s (codes "cwl.output.json") || bytes_eq s (codes "_stdout")) (bytes_eq s (codes "_stderr")) (not_true (is_taken s) p.1) in
    record {
      flat = no_slash s q.0;
      here = ap (λ b. b || bytes_eq s (codes ".")) (other_text s [] q.1 refl) ∙ other_text s (codes ".") q.1 refl;
      up = other_text s (codes "..") q.1 refl;
      out = (or_parts (bytes_eq s (codes "cwl.output.json")) (bytes_eq s (codes "_stdout")) r.0).1;
      err = r.1;
    }
  where
    not_true : (b : Bool) → not b ≡ true → b ≡ false
    not_true true h = absurd (false≢true h)
    not_true false h = refl

-- ---- origins

abbrev named_by : TExpr → Option (List ℕ)
named_by = fold-TExpr (Option (List ℕ)) origin_step

named_over : (a : TExpr) (ts : List Ty) → named_by (over a ts) ≡ named_by a
named_over a [] = refl
named_over a (t ∷ ts) = ap named_by (sym (e.rolls-Cast (over a ts) t)) ∙ fold-roll-TExpr (Option (List ℕ)) origin_step (layer.Cast (over a ts) t) ∙ named_over a ts

stdout_origin : (ts : List Ty) (es : List TExpr) → origin_by (named_by (over (e.Apply func.Stdout es) ts)) ≡ origin.Stdout
stdout_origin ts es =
    ap origin_by (named_over (e.Apply func.Stdout es) ts ∙ ap named_by (sym (e.rolls-Apply func.Stdout es)) ∙ fold-roll-TExpr (Option (List ℕ)) origin_step (layer.Apply func.Stdout es))

glob_origin : (ts : List Ty) (name : List ℕ) → origin_by (named_by (over (e.Lit (v.Str name)) ts)) ≡ origin.Glob name
glob_origin ts name =
    ap origin_by (named_over (e.Lit (v.Str name)) ts ∙ ap named_by (sym (e.rolls-Lit (v.Str name))) ∙ fold-roll-TExpr (Option (List ℕ)) origin_step (layer.Lit (v.Str name)))
    ∙ ap (λ y. origin_by (str_in y)) (v.outs-Str name)

-- ---- literals under casts

lit_typed : (c : Context) (p : Bool) (name : List ℕ) → type_by c (e.Lit (v.Str name)) p ≡ Some ty.Str
lit_typed c p name =
    ap (λ x. type_by c x p) (sym (e.rolls-Lit (v.Str name))) ∙ ap (λ (f : Typing). f p) (fold-roll-TExpr Typing (type_step c) (layer.Lit (v.Str name))) ∙ ap literal_at (v.outs-Str name)

lit_plain : (c : Context) (p : Bool) (name : List ℕ) → IsPlain c p (e.Lit (v.Str name))
lit_plain c p name =
    let q = ap (fold-TExpr Placed (placed_step c)) (sym (e.rolls-Lit (v.Str name))) ∙ fold-roll-TExpr Placed (placed_step c) (layer.Lit (v.Str name)) in (
      ap (λ (z : Placed). z.plain p) q ∙ sym (ap (λ x. type_by c x p) (sym (e.rolls-Lit (v.Str name))) ∙ ap (λ (f : Typing). f p) (fold-roll-TExpr Typing (type_step c) (layer.Lit (v.Str name)))),
      ap (λ (z : Placed). z.write p) q,
    )

-- A text is no file.
not_file : (structs : Structs) (name : List ℕ) → fits structs (v.Str name) ty.File ≡ true → ⊥
not_file structs name h = by_path (a_file structs (v.Str name) h)
  where
    is_str : Value-F Value → Bool
    is_str (value.Str s) = true
    is_str y = false

    by_path : (path : List ℕ) × (v.Str name ≡ v.File path) → ⊥
    by_path p = false≢true (sym (ap is_str (v.outs-File p.0)) ∙ sym (ap (λ y. is_str (out-Value y)) p.1) ∙ ap is_str (v.outs-Str name))

-- A file's name stands under its one cast to File.
one_cast : (name : List ℕ) (ts : List Ty) → is_file_literal (out-TExpr (over (e.Lit (v.Str name)) ts)) ≡ true → over (e.Lit (v.Str name)) ts ≡ e.Cast (e.Lit (v.Str name)) ty.File
one_cast name [] h = absurd (false≢true (sym (ap is_file_literal (e.outs-Lit (v.Str name))) ∙ h))
one_cast name (t ∷ []) h =
    let p = and_parts (is_text_layer (out-TExpr (e.Lit (v.Str name)))) (is_file_type t) (sym (ap is_file_literal (e.outs-Cast (e.Lit (v.Str name)) t)) ∙ h) in
    ap (e.Cast (e.Lit (v.Str name))) (file_type t p.1)
one_cast name (t ∷ (u ∷ ts)) h =
    let p = and_parts (is_text_layer (out-TExpr (e.Cast (over (e.Lit (v.Str name)) ts) u))) (is_file_type t) (sym (ap is_file_literal (e.outs-Cast (e.Cast (over (e.Lit (v.Str name)) ts) u) t)) ∙ h) in
    absurd (false≢true (sym (ap is_text_layer (e.outs-Cast (over (e.Lit (v.Str name)) ts) u)) ∙ p.0))

no_literal : (es : List TExpr) (f : Func) (ts : List Ty) → is_file_literal (out-TExpr (over (e.Apply f es) ts)) ≡ false
no_literal es f [] = ap is_file_literal (e.outs-Apply f es)
no_literal es f (t ∷ []) = ap is_file_literal (e.outs-Cast (e.Apply f es) t) ∙ ap (λ y. is_text_layer y && is_file_type t) (e.outs-Apply f es)
no_literal es f (t ∷ (u ∷ ts)) =
    ap is_file_literal (e.outs-Cast (e.Cast (over (e.Apply f es) ts) u) t) ∙ ap (λ y. is_text_layer y && is_file_type t) (e.outs-Cast (over (e.Apply f es) ts) u)

-- Casts of what has no type have none.
none_over : (ts : List Ty) (t : Ty) → over_type None ts ≡ Some t → ⊥
none_over [] t h = absurd (none-some _ h)
none_over (u ∷ ts) t h = by_rest (λ w q. none_over ts w q) (over_type None ts) refl h
  where
    by_rest : ((w : Ty) → over_type None ts ≡ Some w → ⊥) → (o : Option Ty) → over_type None ts ≡ o → cast_type o u ≡ Some t → ⊥
    by_rest rest None q h = absurd (none-some _ h)
    by_rest rest (Some w) q h = rest w q

-- ---- one output

module _ (r : Run) (place : List Segment) (names more : List Bound) where
  abbrev structs : Structs
  structs = r.library.structs

  abbrev Typed : Context
  Typed = output_context structs names

  abbrev Allowed : Context
  Allowed = output_context structs more

  pub output_agrees : (d : TDecl) → is_type (in_output r.library.structs names d.value) d.ty ≡ true → output_allowed r.library.structs more d.value ≡ true → is_file_type d.ty ≡ true → is_file d.value ≡ true
      → SameOutput r place d (tool_out d)
  output_agrees d typed allowed file form =
      by_form (file_form d.value form)
    where
      at_file : d.ty ≡ ty.File
      at_file = file_type d.ty file

      cwl_file : type_of d.ty ≡ cwl.File
      cwl_file = ap type_of (at_file ∙ sym ty.rolls-File) ∙ fold-roll-Ty CwlTy cwl_step type.File

      value_typed : type_by Typed d.value false ≡ Some ty.File
      value_typed = typed_as (in_output r.library.structs names d.value) d.ty typed ∙ ap (λ t. Some t) at_file

      within_file : (b : Bool) (path : List ℕ) (x : Value) → cond b (Some (v.File path)) None ≡ Some x → IsFile x
      within_file true path x h = (path, sym (same_Some _ _ h))
      within_file false path x h = absurd (none-some _ h)

      by_name : (ts : List Ty) (name : List ℕ) → d.value ≡ over (e.Lit (v.Str name)) ts → is_file_name name ≡ true → (b : Bool) → is_file_literal (out-TExpr d.value) ≡ b → (b || are_allowed r.library.structs more d.value false) ≡ true
          → SameOutput r place d (tool_out d)
      by_name ts name is h false q w =
          absurd (not_file structs name
          (over_kept structs Allowed false (e.Lit (v.Str name)) (v.Str name) ty.Str simple_str (str_fits structs name) (lit_typed Allowed false name) (lit_plain Allowed false name) ts ty.File
          (over_typed Allowed false (e.Lit (v.Str name)) ts ∙ ap (λ o. over_type o ts) (lit_typed Allowed false name ∙ sym (lit_typed Typed false name)) ∙ sym (over_typed Typed false (e.Lit (v.Str name)) ts)
          ∙ ap (λ x. type_by Typed x false) (sym is) ∙ value_typed)
          (ap (λ x. are_allowed structs more x false) (sym is) ∙ w)).ok)
      by_name ts name is h true q w =
          let one : d.value ≡ e.Cast (e.Lit (v.Str name)) ty.File = is ∙ one_cast name ts (sym (ap (λ x. is_file_literal (out-TExpr x)) is) ∙ q) in
          let at : (tool_out d).origin ≡ origin.Glob name = ap (λ x. origin_by (named_by x)) is ∙ glob_origin ts name in
          record {
            name = refl;
            ty = cwl_file;
            file = λ answer x f. within_file (is_within (v.Str name) && has_file answer.files name) (job_path (ground_of r) place name) x (sym (ap (file_at (ground_of r) place answer) at) ∙ f);
            met = λ answer env.
                subst (λ (o : Origin). SameValue (output_met r.library.structs (job_dir r.site place 0) answer env d) (file_at (ground_of r) place answer o)) (sym at)
                (subst (λ (o : Outcome Value). SameValue o (file_at (ground_of r) place answer (origin.Glob name)))
                (sym (ap (λ x. and_then (value_of (after env (job_dir r.site place 0) answer) x) (λ y. landed r.library.structs (job_dir r.site place 0) answer y d.ty)) one
                ∙ ap (λ t. and_then (value_of (after env (job_dir r.site place 0) answer) (e.Cast (e.Lit (v.Str name)) ty.File)) (λ y. landed r.library.structs (job_dir r.site place 0) answer y t)) at_file))
                (glob_met r.library.structs (ground_of r) place answer env name (file_name name h)));
          }

      by_stdout : (ts : List Ty) (es : List TExpr) → d.value ≡ over (e.Apply func.Stdout es) ts → SameOutput r place d (tool_out d)
      by_stdout ts es is = with_base (type_by Typed (e.Apply func.Stdout es) false) refl
        where
          with_base : (o : Option Ty) → type_by Typed (e.Apply func.Stdout es) false ≡ o → SameOutput r place d (tool_out d)
          with_base None q =
              absurd (none_over ts ty.File (sym (over_typed Typed false (e.Apply func.Stdout es) ts ∙ ap (λ o. over_type o ts) q) ∙ ap (λ x. type_by Typed x false) (sym is) ∙ value_typed))
          with_base (Some t) q = by_empty (stdout_typed Typed false es t refl q)
            where
              stdout : TExpr
              stdout = e.Apply func.Stdout []

              by_empty : (es ≡ []) × (t ≡ ty.File) → SameOutput r place d (tool_out d)
              by_empty n =
                  record {
                    name = refl;
                    ty = cwl_file;
                    file = λ answer x f.
                        within_file (is_within (v.File (job_path (ground_of r) place (codes "_stdout")))) (job_path (ground_of r) place (codes "_stdout")) x (sym (ap (file_at (ground_of r) place answer) at) ∙ f);
                    met = λ answer env.
                        subst (λ (o : Origin). SameValue (output_met r.library.structs (job_dir r.site place 0) answer env d) (file_at (ground_of r) place answer o)) (sym at)
                        (subst (λ (o : Outcome Value). SameValue o (file_at (ground_of r) place answer origin.Stdout))
                        (sym (ap (λ o. and_then o (λ y. landed r.library.structs (job_dir r.site place 0) answer y d.ty)) (value (after env (job_dir r.site place 0) answer))
                        ∙ ap (λ t. and_then (value_of (after env (job_dir r.site place 0) answer) stdout) (λ y. landed r.library.structs (job_dir r.site place 0) answer y t)) at_file))
                        (stdout_met r.library.structs (ground_of r) place answer env));
                  }
                where
                  form_is : d.value ≡ over stdout ts
                  form_is = is ∙ ap (λ zs. over (e.Apply func.Stdout zs) ts) n.0

                  base_typed : type_by Typed stdout false ≡ Some ty.File
                  base_typed = ap (λ zs. type_by Typed (e.Apply func.Stdout zs) false) (sym n.0) ∙ q ∙ ap (λ t. Some t) n.1

                  same_base : type_by Allowed stdout false ≡ Some ty.File
                  same_base =
                      ap (λ x. type_by Allowed x false) (sym (e.rolls-Apply func.Stdout [])) ∙ ap (λ (f : Typing). f false) (fold-roll-TExpr Typing (type_step Allowed) (layer.Apply func.Stdout []))
                      ∙ sym (ap (λ x. type_by Typed x false) (sym (e.rolls-Apply func.Stdout [])) ∙ ap (λ (f : Typing). f false) (fold-roll-TExpr Typing (type_step Typed) (layer.Apply func.Stdout []))) ∙ base_typed

                  at : (tool_out d).origin ≡ origin.Stdout
                  at = ap (λ x. origin_by (named_by x)) form_is ∙ stdout_origin ts []

                  widens : casts_widen Allowed (over stdout ts) false ≡ true
                  widens = right (is_file_literal (out-TExpr (over stdout ts))) (casts_widen Allowed (over stdout ts) false) (no_literal [] func.Stdout ts) (ap (output_allowed structs more) (sym form_is) ∙ allowed)
                    where
                      right : (a b : Bool) → a ≡ false → (a || b) ≡ true → b ≡ true
                      right true b e h = absurd (false≢true (sym e))
                      right false b e h = h

                  value : (s : Setting) → value_of s d.value ≡ value_of s stdout
                  value s =
                      ap (value_of s) form_is
                      ∙ ap settled
                      ((over_kept structs Allowed false stdout (v.File (s.dir ++ 47 ∷ codes "_stdout")) ty.File simple_file (file_fits structs (s.dir ++ 47 ∷ codes "_stdout")) same_base (stdout_plain Allowed false) ts ty.File
                      (over_typed Allowed false stdout ts ∙ ap (λ o. over_type o ts) (same_base ∙ sym base_typed) ∙ sym (over_typed Typed false stdout ts) ∙ ap (λ x. type_by Typed x false) (sym form_is) ∙ value_typed)
                      widens).met s (stdout_value_met s) ∙ sym (stdout_value_met s))

      by_form : FileForm d.value → SameOutput r place d (tool_out d)
      by_form (inl f) = by_name f.0 f.1 f.2 f.3 (is_file_literal (out-TExpr d.value)) refl allowed
      by_form (inr f) = by_stdout f.0 f.2 (f.3 ∙ ap (λ g. over (e.Apply g f.2) f.0) (is_stdout_func f.1 f.4))
