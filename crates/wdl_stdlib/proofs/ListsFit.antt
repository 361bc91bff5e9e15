-- Functions of lists fit the results of their rows.
use Rattle.std.proofs.Common.{◌≡◌, ◌⊎◌, inl, inr, ℕ, zero, suc, ◌+◌, ◌<◌, ◌≤◌, ◌==◌, Bool, true, false, cond, not, List, [], ◌∷◌, length, map, get_or, Ok, Err, sym, ap, ◌∙◌, refl, arith}
use Rattle.std.proofs.lemmas.Bool.{false≢true, and_parts, and_from, eqb-true}
use Rattle.std.specs.List.{range_with_len, flat_map, filter}
use Rattle.wdl_value.specs.declared.ty.Ty.{Ty}
use Rattle.wdl_value.specs.declared.ty.Ty.TheVariants as ty
use Rattle.wdl_value.specs.declared.value.Value.{Value, Value-F, out-Value}
use Rattle.wdl_value.specs.declared.value.Value.TheVariants as v
use Rattle.wdl_base.specs.declared.fault.EvalCode.TheVariants.{LengthsDiffer}
use Rattle.wdl_value.specs.Fits.{Structs, fits}
use Rattle.wdl_value.specs.Functions.{width, have_length, column, columns, transpose_of, crossed, zipped, unzip_of, is_defined, first_defined}
use Rattle.wdl_value.specs.Outcome.{Outcome, and_then}
use Rattle.wdl_value.specs.Parts.{items_in, left_in, right_in, is_undefined_at}
use Rattle.wdl_value.proofs.FitsForms.{all_fit, an_opt, pair_fits}
use Rattle.wdl_stdlib.specs.Laws.{IsOfType}
use Rattle.wdl_stdlib.proofs.PartsFit.{AllFit, Fits, all_joined, all_mapped, array, item_fits, items_fit, left_fits, right_fits}

module _ (structs : Structs) where
  -- ---- lists of lists, lists of pairs

  column_fits : (rows : List Value) (n k : ℕ) (t : Ty) → k < n → have_length n rows ≡ true → AllFit structs rows (ty.Array t false) → AllFit structs (column rows k) t
  column_fits [] n k t l e h = refl
  column_fits (row ∷ rows) n k t l e h =
      let p = and_parts (length (items_in row) == n) (have_length n rows) e in
      let q = and_parts (fits structs row (ty.Array t false)) (all_fit structs rows (ty.Array t false)) h in
      let same = eqb-true (length (items_in row)) n p.0 in
      and_from (fits structs (get_or (items_in row) k v.Absent) t) _ (item_fits structs (items_in row) k v.Absent t (omega arith) (items_fit structs row t false q.0)) (column_fits rows n k t l p.1 q.1)

  columns_fit : (rows : List Value) (n a m : ℕ) (t : Ty) → a + m ≤ n → have_length n rows ≡ true → AllFit structs rows (ty.Array t false) → AllFit structs (map (λ k. v.List (column rows k)) (range_with_len a m)) (ty.Array t false)
  columns_fit rows n a zero t l e h = refl
  columns_fit rows n a (suc m) t l e h =
      and_from (fits structs (v.List (column rows a)) (ty.Array t false)) _ (array structs (column rows a) t (column_fits rows n a t (omega arith) e h)) (columns_fit rows n (a + 1) m t (omega arith) e h)

  pub transpose_fits : (x : Value) (t : Ty) → Fits structs x (ty.Array (ty.Array t false) false) → IsOfType structs (ty.Array (ty.Array t false) false) (transpose_of x)
  transpose_fits x t h = by_test (have_length (width (items_in x)) (items_in x)) refl
    where
      by_test : (b : Bool) → have_length (width (items_in x)) (items_in x) ≡ b → IsOfType structs (ty.Array (ty.Array t false) false) (cond b (Ok (v.List (columns (items_in x)))) (Err LengthsDiffer))
      by_test true e = array structs (columns (items_in x)) (ty.Array t false) (columns_fit (items_in x) (width (items_in x)) 0 (width (items_in x)) t (omega arith) e (items_fit structs x (ty.Array t false) false h))
      by_test false e = tt

  pairs_with : (x : Value) (t u : Ty) → Fits structs x t → (ys : List Value) → AllFit structs ys u → AllFit structs (map (λ y. v.Pair x y) ys) (ty.Pair t u)
  pairs_with x t u h = all_mapped structs (λ y. v.Pair x y) u (ty.Pair t u) (λ y k. pair_fits structs x y t u h k)

  pub crossed_fit : (xs ys : List Value) (t u : Ty) → AllFit structs xs t → AllFit structs ys u → AllFit structs (crossed xs ys) (ty.Pair t u)
  crossed_fit [] ys t u h k = refl
  crossed_fit (x ∷ xs) ys t u h k =
      let p = and_parts (fits structs x t) (all_fit structs xs t) h in
      all_joined structs (map (λ y. v.Pair x y) ys) (crossed xs ys) (ty.Pair t u) (pairs_with x t u p.0 ys k) (crossed_fit xs ys t u p.1 k)

  -- each item fits, or there is a code
  unfoldable pub AllOf : Ty → Outcome (List Value) → Type 0
  AllOf t (Ok xs) = AllFit structs xs t
  AllOf t (Err c) = Unit {0}

  pub cons_all : (x : Value) (t : Ty) (r : Outcome (List Value)) → Fits structs x t → AllOf t r → AllOf t (and_then r (λ xs. Ok (x ∷ xs)))
  unfolding AllOf
  cons_all x t (Ok xs) h k = and_from (fits structs x t) (all_fit structs xs t) h k
  cons_all x t (Err c) h k = tt

  pub zipped_fit : (xs ys : List Value) (t u : Ty) → AllFit structs xs t → AllFit structs ys u → AllOf (ty.Pair t u) (zipped xs ys)
  unfolding AllOf
  zipped_fit [] [] t u h k = refl
  zipped_fit [] (y ∷ ys) t u h k = tt
  zipped_fit (x ∷ xs) [] t u h k = tt
  zipped_fit (x ∷ xs) (y ∷ ys) t u h k =
      let p = and_parts (fits structs x t) (all_fit structs xs t) h in
      let q = and_parts (fits structs y u) (all_fit structs ys u) k in
      cons_all (v.Pair x y) (ty.Pair t u) (zipped xs ys) (pair_fits structs x y t u p.0 q.0) (zipped_fit xs ys t u p.1 q.1)

  pub list_of : (t : Ty) (r : Outcome (List Value)) → AllOf t r → IsOfType structs (ty.Array t false) (and_then r (λ xs. Ok (v.List xs)))
  unfolding AllOf
  list_of t (Ok xs) h = array structs xs t h
  list_of t (Err c) h = tt

  pub flat_fit : (xs : List Value) (t : Ty) → AllFit structs xs (ty.Array t false) → AllFit structs (flat_map items_in xs) t
  flat_fit [] t h = refl
  flat_fit (x ∷ xs) t h =
      let p = and_parts (fits structs x (ty.Array t false)) (all_fit structs xs (ty.Array t false)) h in
      all_joined structs (items_in x) (flat_map items_in xs) t (items_fit structs x t false p.0) (flat_fit xs t p.1)

  pub unzip_fits : (x : Value) (t u : Ty) → Fits structs x (ty.Array (ty.Pair t u) false) → IsOfType structs (ty.Pair (ty.Array t false) (ty.Array u false)) (unzip_of x)
  unzip_fits x t u h =
      let all = items_fit structs x (ty.Pair t u) false h in
      pair_fits structs (v.List (map left_in (items_in x))) (v.List (map right_in (items_in x))) (ty.Array t false) (ty.Array u false)
      (array structs (map left_in (items_in x)) t (all_mapped structs left_in (ty.Pair t u) t (λ y. left_fits structs y t u) (items_in x) all))
      (array structs (map right_in (items_in x)) u (all_mapped structs right_in (ty.Pair t u) u (λ y. right_fits structs y t u) (items_in x) all))

  -- ---- optional values

  known : (x : Value) (t : Ty) → is_defined x ≡ true → Fits structs x (ty.Opt t) → Fits structs x t
  known x t d h = by_absence (an_opt structs x t h)
    where
      by_absence : (x ≡ v.Absent) ⊎ Fits structs x t → Fits structs x t
      by_absence (inl e) = absurd (false≢true (sym (ap (λ z. not (is_undefined_at (out-Value z))) e ∙ ap (λ (l : Value-F Value). not (is_undefined_at l)) v.outs-Absent) ∙ d))
      by_absence (inr k) = k

  pub first_fits : (xs : List Value) (t : Ty) → AllFit structs xs (ty.Opt t) → IsOfType structs t (first_defined xs)
  first_fits [] t h = tt
  first_fits (x ∷ xs) t h =
      let p = and_parts (fits structs x (ty.Opt t)) (all_fit structs xs (ty.Opt t)) h in
      by_test (first_fits xs t p.1) p.0 (is_defined x) refl
    where
      by_test : IsOfType structs t (first_defined xs) → Fits structs x (ty.Opt t) → (b : Bool) → is_defined x ≡ b → IsOfType structs t (cond b (Ok x) (first_defined xs))
      by_test rest f true e = known x t e f
      by_test rest f false e = rest

  pub defined_fit : (xs : List Value) (t : Ty) → AllFit structs xs (ty.Opt t) → AllFit structs (filter is_defined xs) t
  defined_fit [] t h = refl
  defined_fit (x ∷ xs) t h =
      let p = and_parts (fits structs x (ty.Opt t)) (all_fit structs xs (ty.Opt t)) h in
      by_test (defined_fit xs t p.1) p.0 (is_defined x) refl
    where
      by_test : AllFit structs (filter is_defined xs) t → Fits structs x (ty.Opt t) → (b : Bool) → is_defined x ≡ b → AllFit structs (cond b (x ∷ filter is_defined xs) (filter is_defined xs)) t
      by_test rest f true e = and_from (fits structs x t) _ (known x t e f) rest
      by_test rest f false e = rest
