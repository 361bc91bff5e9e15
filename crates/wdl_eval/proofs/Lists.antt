-- List and pair literals, and arguments of functions.
use Rattle.std.proofs.Common.{◌≡◌, Bool, true, false, not, cond, ◌&&◌, ◌||◌, List, [], ◌∷◌, map, Option, Some, None, Ok, option_and_then, sym, ap, ◌∙◌, subst, refl}
use Rattle.std.proofs.lemmas.Bool.{false≢true, and_parts, and_from, or_parts}
use Rattle.std.proofs.lemmas.Option.{same_Some}
use Rattle.wdl_base.specs.declared.name.Key.{Key}
use Rattle.wdl_value.specs.declared.operator.Func.{Func}
use Rattle.wdl_value.specs.declared.ty.Ty.{Ty}
use Rattle.wdl_value.specs.declared.ty.Ty.TheVariants as ty
use Rattle.wdl_value.specs.declared.typing.FuncTyping.{FuncTyping}
use Rattle.wdl_value.specs.declared.value.Value.{Value}
use Rattle.wdl_value.specs.declared.value.Value.TheVariants as v
use Rattle.wdl_value.specs.Apply.{apply}
use Rattle.wdl_value.specs.Fits.{Structs, fits}
use Rattle.wdl_value.specs.FunctionTypes.{function_type, reads, writes}
use Rattle.wdl_value.specs.SameType.{same_type}
use Rattle.wdl_value.proofs.FitsForms.{all_fit, list_fits, pair_fits, some_fit}
use Rattle.wdl_value.proofs.SameTypeLemmas.{same_type-true}
use Rattle.wdl_stdlib.specs.Laws.{args_fit}
use Rattle.wdl_stdlib.proofs.FunctionsFit.{functions_fit}
use Rattle.wdl_typed.specs.declared.expr.TExpr.{TExpr}
use Rattle.wdl_typed.specs.Evaluation.{Met, Setting, all_of, met, then_, value_met}
use Rattle.wdl_typed.specs.Scope.{all_names, names_of}
use Rattle.wdl_typed.specs.Typing.{Context, all_same, all_types, apply_type, are_same, both, exact_args, items_in, list_type, type_of}
use Rattle.wdl_eval.specs.Laws.{IsMet, IsSound}
use Rattle.wdl_eval.specs.Ready.{FitsNames}
use Rattle.wdl_eval.proofs.Known.{Known, exprs}
use Rattle.wdl_eval.proofs.Names.{left_names, right_names}
use Rattle.wdl_eval.proofs.Steps.{Fine, Fits, at_type, bind, both_in, met_sound, when_in}
use Rattle.wdl_base.proofs.Options.{then_parts}

module _ (structs : Structs) where
  pub pair_fine : (o p : Option Ty) (r q : Met Value) → Fine structs o r → Fine structs p q → Fine structs (both (λ t u. Some (ty.Pair t u)) o p) (then_ r (λ x. then_ q (λ y. Ok (v.Pair x y))))
  pair_fine o p r q f g w e =
      let b = both_in (λ (t u : Ty). Some (ty.Pair t u)) o p w e in
      bind (Fits structs b.0) (Fits structs w) r (λ x. then_ q (λ y. Ok (v.Pair x y))) (f b.0 b.2) (λ x h.
      bind (Fits structs b.1) (Fits structs w) q (λ y. Ok (v.Pair x y)) (g b.1 b.3) (λ y k.
      at_type structs (Ok (v.Pair x y)) (same_Some _ _ b.4) (pair_fits structs x y b.0 b.1 h k)))

  -- ---- the items of one type

  same_fit : (xs : List Value) (ts : List Ty) (t : Ty) → all_same t ts ≡ true → args_fit structs xs ts ≡ true → all_fit structs xs t ≡ true
  same_fit [] ts t h k = refl
  same_fit (x ∷ xs) [] t h k = absurd (false≢true k)
  same_fit (x ∷ xs) (u ∷ ts) t h k =
      let p = and_parts (same_type u t) (all_same t ts) h in
      let q = and_parts (fits structs x u) (args_fit structs xs ts) k in
      and_from (fits structs x t) (all_fit structs xs t) (subst (λ (w : Ty). Fits structs w x) (same_type-true u t p.0) q.0) (same_fit xs ts t p.1 q.1)

  list_made : (ts : List Ty) (xs : List Value) (w : Ty) → list_type ts ≡ Some w → args_fit structs xs ts ≡ true → Fits structs w (v.List xs)
  list_made [] [] w e h = subst (λ (u : Ty). Fits structs u (v.List [])) (same_Some _ _ e) (list_fits structs [] ty.Empty refl)
  list_made [] (x ∷ xs) w e h = absurd (false≢true h)
  list_made (t ∷ ts) [] w e h = absurd (false≢true h)
  list_made (t ∷ ts) (x ∷ xs) w e h =
      let q = when_in (all_same t ts) (ty.Array t true) w e in
      let p = and_parts (fits structs x t) (args_fit structs xs ts) h in
      subst (λ (u : Ty). Fits structs u (v.List (x ∷ xs))) q.1 (some_fit structs x xs t true (and_from (fits structs x t) (all_fit structs xs t) p.0 (same_fit xs ts t q.0 p.1)))

  -- ---- functions

  same_args : (us ts : List Ty) → are_same us ts ≡ true → us ≡ ts
  same_args [] [] h = refl
  same_args [] (t ∷ ts) h = absurd (false≢true h)
  same_args (u ∷ us) [] h = absurd (false≢true h)
  same_args (u ∷ us) (t ∷ ts) h =
      let p = and_parts (same_type u t) (are_same us ts) h in
      ap (λ z. z ∷ us) (same_type-true u t p.0) ∙ ap (λ zs. t ∷ zs) (same_args us ts p.1)

  apply_made : (s : Setting) (outputs : Bool) (f : Func) (ts : List Ty) (w : Ty) (xs : List Value) → apply_type outputs f ts ≡ Some w → args_fit structs xs ts ≡ true → IsSound structs w (met (apply s.dir s.answer f xs))
  apply_made s outputs f ts w xs e h = by_test (writes f || reads f && not outputs) refl e
    where
      by_test : (b : Bool) → (writes f || reads f && not outputs) ≡ b → cond b None (option_and_then (exact_args ts) (function_type f ts)) ≡ Some w → IsSound structs w (met (apply s.dir s.answer f xs))
      by_test true n e = cc
      by_test false n e =
          let p = then_parts (exact_args ts) (function_type f ts) w e in
          let row : FuncTyping = p.0 in
          let q = when_in (are_same row.args ts) row.result w p.2 in
          let args : args_fit structs xs row.args ≡ true = subst (λ (us : List Ty). args_fit structs xs us ≡ true) (sym (same_args row.args ts q.0)) h in
          at_type structs (met (apply s.dir s.answer f xs)) q.1
          (met_sound structs row.result (apply s.dir s.answer f xs) (functions_fit structs f ts row p.1 (or_parts (writes f) (reads f && not outputs) n).0 xs args s.dir s.answer))

module _ (c : Context) (s : Setting) where
  abbrev names : List TExpr → List Key
  names es = all_names (map names_of es)

  -- each value fits the type of its expression
  all_sound : (ks : List (Known c s)) (placeholder : Bool) (ts : List Ty) → FitsNames c s.env (names (exprs c s ks)) → all_types (items_in (map (type_of c) (exprs c s ks)) placeholder) ≡ Some ts
      → IsMet (λ xs. args_fit c.structs xs ts ≡ true) (all_of (map (value_met s) (exprs c s ks)))
  all_sound [] placeholder ts g e = subst (λ (us : List Ty). args_fit c.structs [] us ≡ true) (same_Some _ _ e) refl
  all_sound (k ∷ ks) placeholder ts g e =
      let rest = all_types (items_in (map (type_of c) (exprs c s ks)) placeholder) in
      let p = then_parts (λ (t : Ty). option_and_then (λ us. Some (t ∷ us)) rest) (type_of c k.0 placeholder) ts e in
      let q = then_parts (λ us. Some (p.0 ∷ us)) rest ts p.2 in
      subst (λ (us : List Ty). IsMet (λ xs. args_fit c.structs xs us ≡ true) (all_of (map (value_met s) (exprs c s (k ∷ ks))))) (same_Some _ _ q.2)
      (bind (Fits c.structs p.0) (λ xs. args_fit c.structs xs (p.0 ∷ q.0) ≡ true) (value_met s k.0) (λ x. then_ (all_of (map (value_met s) (exprs c s ks))) (λ xs. Ok (x ∷ xs)))
      (k.1 placeholder (left_names c s.env (names_of k.0) (names (exprs c s ks)) g) p.0 p.1) (λ x h.
      bind (λ xs. args_fit c.structs xs q.0 ≡ true) (λ xs. args_fit c.structs xs (p.0 ∷ q.0) ≡ true) (all_of (map (value_met s) (exprs c s ks))) (λ xs. Ok (x ∷ xs))
      (all_sound ks placeholder q.0 (right_names c s.env (names_of k.0) (names (exprs c s ks)) g) q.1) (λ xs j.
      and_from (fits c.structs x p.0) (args_fit c.structs xs q.0) h j)))

  pub list_fine : (ks : List (Known c s)) (placeholder : Bool) → FitsNames c s.env (names (exprs c s ks))
      → Fine c.structs (option_and_then list_type (all_types (items_in (map (type_of c) (exprs c s ks)) placeholder))) (then_ (all_of (map (value_met s) (exprs c s ks))) (λ xs. Ok (v.List xs)))
  list_fine ks placeholder g w e =
      let p = then_parts list_type (all_types (items_in (map (type_of c) (exprs c s ks)) placeholder)) w e in
      bind (λ xs. args_fit c.structs xs p.0 ≡ true) (Fits c.structs w) (all_of (map (value_met s) (exprs c s ks))) (λ xs. Ok (v.List xs)) (all_sound ks placeholder p.0 g p.1)
      (λ xs h. list_made c.structs p.0 xs w p.2 h)

  pub apply_fine : (f : Func) (ks : List (Known c s)) (placeholder : Bool) → FitsNames c s.env (names (exprs c s ks))
      → Fine c.structs (option_and_then (apply_type c.outputs f) (all_types (items_in (map (type_of c) (exprs c s ks)) placeholder)))
      (then_ (all_of (map (value_met s) (exprs c s ks))) (λ xs. met (apply s.dir s.answer f xs)))
  apply_fine f ks placeholder g w e =
      let p = then_parts (apply_type c.outputs f) (all_types (items_in (map (type_of c) (exprs c s ks)) placeholder)) w e in
      bind (λ xs. args_fit c.structs xs p.0 ≡ true) (Fits c.structs w) (all_of (map (value_met s) (exprs c s ks))) (λ xs. met (apply s.dir s.answer f xs)) (all_sound ks placeholder p.0 g p.1)
      (λ xs h. apply_made c.structs s c.outputs f p.0 w xs p.2 h)
