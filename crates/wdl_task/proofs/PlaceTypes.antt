-- The type of an expression that may be, as a whole, a call of a function that writes a file, and what it gives.
use Rattle.std.proofs.Common.{◌≡◌, ℕ, Bool, true, false, cond, not, ◌&&◌, ◌||◌, List, [], ◌∷◌, map, Option, Some, None, option_and_then, Ok, sym, ap, ◌∙◌, subst, refl}
use Rattle.std.proofs.lemmas.Bool.{false≢true}
use Rattle.std.proofs.lemmas.Option.{same_Some}
use Rattle.wdl_value.specs.declared.env.Bind.{Bind}
use Rattle.wdl_value.specs.declared.operator.Func.{Func}
use Rattle.wdl_value.specs.declared.operator.Func.TheVariants as func
use Rattle.wdl_value.specs.declared.ty.Ty.{Ty}
use Rattle.wdl_value.specs.declared.ty.Ty.TheVariants as ty
use Rattle.wdl_value.specs.declared.typing.FuncTyping.{FuncTyping}
use Rattle.wdl_value.specs.declared.value.Value.{Value}
use Rattle.wdl_value.specs.declared.value.Value.TheVariants as v
use Rattle.wdl_value.specs.Coerces.{coerces}
use Rattle.wdl_value.specs.Fits.{fits}
use Rattle.wdl_value.specs.FunctionTypes.{binary_type, function_type, nullary_type, reads, taking, unary, unary_type, writes}
use Rattle.wdl_value.proofs.FitsForms.{file_fits}
use Rattle.wdl_typed.specs.declared.expr.TExpr.{TExpr, TExpr-F, map-TExpr, roll-TExpr, ind-TExpr, fold-TExpr, fold-roll-TExpr}
use Rattle.wdl_typed.specs.declared.expr.TExpr.TheOpen as layer
use Rattle.wdl_typed.specs.Declarations.{Placed, placed_step, plain_of, write_step}
use Rattle.wdl_typed.specs.Evaluation.{Met, met}
use Rattle.wdl_typed.specs.Requests.{Placing, cast_last, first_of, placing, writing_step}
use Rattle.wdl_typed.specs.Requests.{plain_of as plain_met}
use Rattle.wdl_typed.specs.Typing.{Context, Typing, all_types, apply_type, are_same, exact_args, items_in, type_of, type_step, when}
use Rattle.wdl_eval.specs.Laws.{IsSound}
use Rattle.wdl_eval.proofs.Operators.{cast_fine}
use Rattle.wdl_eval.proofs.Steps.{Fine, when_in}
use Rattle.wdl_task.specs.Calls.{Call, Naming, call_of, call_step, cast_name, first_call, name_step}
use Rattle.wdl_task.proofs.CallOut.{call_roll, with_call}
use Rattle.wdl_task.proofs.Fuse.{fused}
use Rattle.wdl_task.proofs.Fuse as fuse
use Rattle.wdl_task.proofs.Placing.{met_cast, name_roll, write_roll}
use Rattle.wdl_base.proofs.Options.{then_parts}

-- ---- the table of functions that write files

nullary_none : (f : Func) → writes f ≡ true → nullary_type f ≡ None
nullary_none func.Stdout h = absurd (false≢true h)
nullary_none func.Stderr h = absurd (false≢true h)
nullary_none f h = refl

taken : (t p r : Ty) (row : FuncTyping) → taking t p r ≡ Some row → row.result ≡ r
taken t p r row e = by_test (coerces t p) e
  where
    by_test : (b : Bool) → cond b (unary p r) None ≡ Some row → row.result ≡ r
    by_test true e = sym (ap (λ (w : FuncTyping). w.result) (same_Some _ _ e))
    by_test false e = cc

unary_file : (f : Func) (t : Ty) (row : FuncTyping) → writes f ≡ true → unary_type f t ≡ Some row → row.result ≡ ty.File
unary_file func.WriteLines t row h e = taken t _ ty.File row e
unary_file func.WriteTsv t row h e = taken t _ ty.File row e
unary_file func.WriteMap t row h e = taken t _ ty.File row e
unary_file f t row h e = absurd (false≢true h)

binary_none : (f : Func) (t u : Ty) → writes f ≡ true → binary_type f t u ≡ None
binary_none func.WriteLines t u h = refl
binary_none func.WriteTsv t u h = refl
binary_none func.WriteMap t u h = refl
binary_none f t u h = absurd (false≢true h)

-- A call has an argument, and gives a file.
abbrev HasOne : List Ty → Type 0
HasOne [] = ⊥
HasOne (t ∷ ts) = Unit {0}

file_row : (f : Func) (ts : List Ty) (row : FuncTyping) → writes f ≡ true → function_type f ts ≡ Some row → HasOne ts × (row.result ≡ ty.File)
file_row f [] row h e = let none = nullary_none f h in absurd (cc)
file_row f (t ∷ []) row h e = (tt, unary_file f t row h e)
file_row f (t ∷ (u ∷ [])) row h e = let none = binary_none f t u h in absurd (cc)
file_row f (t ∷ (u ∷ (w ∷ ts))) row h e = absurd (cc)

unwritten : (outputs : Bool) (f : Func) (ts : List Ty) (t : Ty) → apply_type outputs f ts ≡ Some t → writes f ≡ false
unwritten outputs f ts t h = by_test (writes f) refl h
  where
    by_test : (w : Bool) → writes f ≡ w → cond (w || reads f && not outputs) None (option_and_then (exact_args ts) (function_type f ts)) ≡ Some t → writes f ≡ false
    by_test true e h = absurd (cc)
    by_test false e h = e

module _ (c : Context) where
  abbrev pub placed_of : TExpr → Placed
  placed_of = fold-TExpr Placed (placed_step c)

  -- ---- types of plain expressions

  abbrev Same : TExpr → Type 0
  Same e = plain_of (placed_of e) ≡ type_of c e

  pub plain_is_type : (e : TExpr) → (placed_of e).plain ≡ type_of c e
  plain_is_type = ind-TExpr Same (λ x y is. subst (λ (z : TExpr-F TExpr). Same (roll-TExpr z)) is (
      ap plain_of (fold-roll-TExpr Placed (placed_step c) (fuse.plain placed_of plain_of (type_of c) y))
      ∙ ap (type_step c) (fused placed_of plain_of (type_of c) y)
      ∙ sym (fold-roll-TExpr Typing (type_step c) (fuse.plain placed_of plain_of (type_of c) y))))

  write_type_roll : (y : TExpr-F TExpr) → (placed_of (roll-TExpr y)).write ≡ write_step (map-TExpr TExpr Placed placed_of y)
  write_type_roll y = ap (λ (p : Placed). p.write) (fold-roll-TExpr Placed (placed_step c) y)

  -- ---- A well-typed expression is no such call.

  module _ (env : List Bind) where
    abbrev IsPlain : TExpr → Type 0
    IsPlain e = (b : Bool) (t : Ty) → type_of c e b ≡ Some t → (call_of e ≡ None) × ((placing env e).write ≡ None)

    abbrev PlainKnown : Type 0
    PlainKnown = (e : TExpr) × IsPlain e

    abbrev plain_first : PlainKnown → TExpr
    plain_first k = k.0

    abbrev plains : TExpr-F PlainKnown → TExpr-F TExpr
    plains = map-TExpr PlainKnown TExpr (λ (k : PlainKnown). k.0)

    layer_plain : (y : TExpr-F PlainKnown) (b : Bool) (t : Ty) → type_step c (map-TExpr TExpr Typing (type_of c) (plains y)) b ≡ Some t
        → (call_step (map-TExpr TExpr (TExpr × Option Call) with_call (plains y)) ≡ None) × (writing_step (map-TExpr TExpr Placing (placing env) (plains y)) ≡ None)
    layer_plain (layer.Apply f ks) b t h =
        let p = then_parts (apply_type c.outputs f) (all_types (items_in (map (type_of c) (map plain_first ks)) b)) t h in
        let n = unwritten c.outputs f p.0 t p.2 in (
          ap (λ w. cond w (first_call f (map with_call (map plain_first ks))) None) n,
          ap (λ w. cond w (Some (record { func = f; argument = first_of (map plain_met (map (placing env) (map plain_first ks))); casts = [] })) None) n,
        )
    layer_plain (layer.Cast k u) b t h =
        let p = then_parts (λ (w : Ty). when (coerces w u) u) (type_of c k.0 b) t h in
        let q = k.1 b p.0 p.1 in
        (q.0, ap (cast_last u) q.1)
    layer_plain y b t h = (refl, refl)

    pub is_plain : (e : TExpr) → IsPlain e
    is_plain = ind-TExpr IsPlain (λ x y is. subst (λ (z : TExpr-F TExpr). IsPlain (roll-TExpr z)) is (λ b t h.
        let p = layer_plain y b t (sym (ap (λ (f : Typing). f b) (fold-roll-TExpr Typing (type_step c) (plains y))) ∙ h) in
        (call_roll (plains y) ∙ p.0, write_roll env (plains y) ∙ p.1)))

  -- ---- What is typed as such a call is one, of an argument that is well typed.

  abbrev pub IsTypedCall : Bool → Option Call → Type 0
  IsTypedCall b None = ⊥
  IsTypedCall b (Some k) = (u : Ty) × (type_of c k.argument b ≡ Some u)

  abbrev IsWritten : TExpr → Type 0
  IsWritten e = (b : Bool) (t : Ty) → (placed_of e).write b ≡ Some t → IsTypedCall b (call_of e)

  abbrev Known : Type 0
  Known = (e : TExpr) × IsWritten e

  abbrev first : Known → TExpr
  first k = k.0

  abbrev exprs : TExpr-F Known → TExpr-F TExpr
  exprs = map-TExpr Known TExpr (λ (k : Known). k.0)

  abbrev row_of : List Known → Bool → Func → Option Ty
  row_of ks b f = option_and_then (λ ts. option_and_then (exact_args ts) (function_type f ts)) (all_types (items_in (map plain_of (map placed_of (map first ks))) b))

  apply_written : (f : Func) (ks : List Known) (b : Bool) (t : Ty) → writes f ≡ true → row_of ks b f ≡ Some t → IsTypedCall b (first_call f (map with_call (map first ks)))
  apply_written f [] b t w h =
      let p = then_parts (λ (ts : List Ty). option_and_then (exact_args ts) (function_type f ts)) (Some []) t h in
      let q = then_parts (exact_args p.0) (function_type f p.0) t p.2 in
      let none : [] ≡ p.0 = same_Some _ _ p.1 in
      absurd (subst (λ (ts : List Ty). HasOne ts) (sym none) (file_row f p.0 q.0 w q.1).0)
  apply_written f (k ∷ ks) b t w h =
      let rest = all_types (items_in (map plain_of (map placed_of (map first ks))) b) in
      let p = then_parts (λ (ts : List Ty). option_and_then (exact_args ts) (function_type f ts)) (option_and_then (λ u. option_and_then (λ us. Some (u ∷ us)) rest) ((placed_of k.0).plain b)) t h in
      let q = then_parts (λ (u : Ty). option_and_then (λ us. Some (u ∷ us)) rest) ((placed_of k.0).plain b) p.0 p.1 in
      (q.0, sym (ap (λ (f : Typing). f b) (plain_is_type k.0)) ∙ q.1)

  layer_written : (y : TExpr-F Known) (b : Bool) (t : Ty) → write_step (map-TExpr TExpr Placed placed_of (exprs y)) b ≡ Some t
      → IsTypedCall b (call_step (map-TExpr TExpr (TExpr × Option Call) with_call (exprs y)))
  layer_written (layer.Apply f ks) b t h = by_test (writes f) refl h
    where
      by_test : (w : Bool) → writes f ≡ w → cond w (row_of ks b f) None ≡ Some t → IsTypedCall b (cond w (first_call f (map with_call (map first ks))) None)
      by_test true e h = apply_written f ks b t e h
      by_test false e h = absurd (cc)
  layer_written (layer.Cast k u) b t h =
      let p = then_parts (λ (w : Ty). when (coerces w u) u) ((placed_of k.0).write b) t h in
      k.1 b p.0 p.1
  layer_written y b t h = absurd (cc)

  pub is_written : (e : TExpr) → IsWritten e
  is_written = ind-TExpr IsWritten (λ x y is. subst (λ (z : TExpr-F TExpr). IsWritten (roll-TExpr z)) is (λ b t h.
      subst (λ (o : Option Call). IsTypedCall b o) (sym (call_roll (exprs y)))
      (layer_written y b t (sym (ap (λ (f : Typing). f b) (write_type_roll (exprs y))) ∙ h))))

  -- ---- The name of the file fits the type.

  abbrev Names : TExpr → Type 0
  Names e = (b : Bool) (n : List ℕ) → Fine c.structs ((placed_of e).write b) (met (cast_name e n))

  abbrev NameKnown : Type 0
  NameKnown = (e : TExpr) × Names e

  abbrev name_first : NameKnown → TExpr
  name_first k = k.0

  abbrev names : TExpr-F NameKnown → TExpr-F TExpr
  names = map-TExpr NameKnown TExpr (λ (k : NameKnown). k.0)

  file_named : (f : Func) (ts : List Ty) (n : List ℕ) (t : Ty) → writes f ≡ true → option_and_then (exact_args ts) (function_type f ts) ≡ Some t → IsSound c.structs t (Ok (v.File n))
  file_named f ts n t w h =
      let q = then_parts (exact_args ts) (function_type f ts) t h in
      let row : FuncTyping = q.0 in
      let made = when_in (are_same row.args ts) row.result t q.2 in
      subst (λ (u : Ty). fits c.structs (v.File n) u ≡ true) (sym (file_row f ts row w q.1).1 ∙ made.1) (file_fits c.structs n)

  layer_named : (y : TExpr-F NameKnown) (b : Bool) (n : List ℕ) → Fine c.structs (write_step (map-TExpr TExpr Placed placed_of (names y)) b) (met (name_step (map-TExpr TExpr Naming cast_name (names y)) n))
  layer_named (layer.Apply f ks) b n t h = by_test (writes f) refl h
    where
      types : Option (List Ty)
      types = all_types (items_in (map plain_of (map placed_of (map name_first ks))) b)

      by_test : (w : Bool) → writes f ≡ w → cond w (option_and_then (λ ts. option_and_then (exact_args ts) (function_type f ts)) types) None ≡ Some t → IsSound c.structs t (Ok (v.File n))
      by_test true e h = let p = then_parts (λ (ts : List Ty). option_and_then (exact_args ts) (function_type f ts)) types t h in file_named f p.0 n t e p.2
      by_test false e h = absurd (cc)
  layer_named (layer.Cast k u) b n t h =
      subst (λ (r : Met Value). IsSound c.structs t r) (met_cast (cast_name k.0 n) u)
      (cast_fine c.structs u ((placed_of k.0).write b) (met (cast_name k.0 n)) (k.1 b n) t h)
  layer_named y b n t h = absurd (cc)

  pub names_fit : (e : TExpr) → Names e
  names_fit = ind-TExpr Names (λ x y is. subst (λ (z : TExpr-F TExpr). Names (roll-TExpr z)) is (λ b n t h.
      subst (λ (name : Naming). IsSound c.structs t (met (name n))) (sym (name_roll (names y)))
      (layer_named y b n t (sym (ap (λ (f : Typing). f b) (write_type_roll (names y))) ∙ h))))
