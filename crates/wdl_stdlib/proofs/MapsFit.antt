-- Functions of maps and of pairs with keys fit the results of their rows.
use Rattle.std.proofs.Common.{◌≡◌, ℕ, Bool, true, false, cond, not, ◌&&◌, List, [], ◌∷◌, map, Ok, Err, refl}
use Rattle.std.proofs.lemmas.Bool.{and_parts, and_from}
use Rattle.std.specs.Str.{bytes_eq}
use Rattle.wdl_value.specs.declared.ty.Ty.{Ty}
use Rattle.wdl_value.specs.declared.ty.Ty.TheVariants as ty
use Rattle.wdl_value.specs.declared.value.MapRow.{MapRow}
use Rattle.wdl_value.specs.declared.value.Value.{Value}
use Rattle.wdl_value.specs.declared.value.Value.TheVariants as v
use Rattle.wdl_base.specs.declared.fault.EvalCode.TheVariants.{RepeatedKey}
use Rattle.wdl_value.specs.Fits.{Structs, fits}
use Rattle.wdl_value.specs.Functions.{pair_of, key_of, key_text, repeat_a_key, row_of, as_map_of, first_pairs, values_at, group_of, collect_by_key_of}
use Rattle.wdl_value.specs.Parts.{items_in, right_in}
use Rattle.wdl_value.proofs.FitsForms.{all_fit, rows_fit, pair_fits, map_fits}
use Rattle.wdl_stdlib.specs.Laws.{IsOfType}
use Rattle.wdl_stdlib.proofs.PartsFit.{AllFit, Fits, all_filtered, all_mapped, array, items_fit, left_fits, right_fits}
use Rattle.wdl_stdlib.proofs.KeysFit.{firsts_distinct, keys_distinct}

module _ (structs : Structs) where
  pub pairs_fit : (rs : List (MapRow Value)) (t u : Ty) → rows_fit structs rs t u ≡ true → AllFit structs (map pair_of rs) (ty.Pair t u)
  pairs_fit [] t u h = refl
  pairs_fit (r ∷ rs) t u h =
      let p = and_parts (fits structs r.key t && fits structs r.value u) (rows_fit structs rs t u) h in
      let q = and_parts (fits structs r.key t) (fits structs r.value u) p.0 in
      and_from (fits structs (pair_of r) (ty.Pair t u)) _ (pair_fits structs r.key r.value t u q.0 q.1) (pairs_fit rs t u p.1)

  pub keys_fit : (rs : List (MapRow Value)) (t u : Ty) → rows_fit structs rs t u ≡ true → AllFit structs (map key_of rs) t
  keys_fit [] t u h = refl
  keys_fit (r ∷ rs) t u h =
      let p = and_parts (fits structs r.key t && fits structs r.value u) (rows_fit structs rs t u) h in
      and_from (fits structs r.key t) _ (and_parts (fits structs r.key t) (fits structs r.value u) p.0).0 (keys_fit rs t u p.1)

  made_rows : (f : Value → MapRow Value) (s t u : Ty) → ((x : Value) → Fits structs x s → Fits structs (f x).key t × Fits structs (f x).value u) → (xs : List Value) → AllFit structs xs s → rows_fit structs (map f xs) t u ≡ true
  made_rows f s t u h [] k = refl
  made_rows f s t u h (x ∷ xs) k =
      let p = and_parts (fits structs x s) (all_fit structs xs s) k in
      let q = h x p.0 in
      and_from (fits structs (f x).key t && fits structs (f x).value u) _ (and_from (fits structs (f x).key t) _ q.0 q.1) (made_rows f s t u h xs p.1)

  map_of_pairs : (pairs : List Value) (t u : Ty) → AllFit structs pairs (ty.Pair t u) → IsOfType structs (ty.Map t u) (cond (repeat_a_key pairs) (Err RepeatedKey) (Ok (v.Map (map row_of pairs))))
  map_of_pairs pairs t u h = by_test (repeat_a_key pairs) refl
    where
      by_test : (b : Bool) → repeat_a_key pairs ≡ b → IsOfType structs (ty.Map t u) (cond b (Err RepeatedKey) (Ok (v.Map (map row_of pairs))))
      by_test true e = tt
      by_test false e =
          map_fits structs (map row_of pairs) t u (made_rows row_of (ty.Pair t u) t u (λ y k. (left_fits structs y t u k, right_fits structs y t u k)) pairs h) (keys_distinct pairs e)

  firsts_fit : (pairs : List Value) (t : Ty) → AllFit structs pairs t → AllFit structs (first_pairs pairs) t
  firsts_fit [] t h = refl
  firsts_fit (q ∷ qs) t h =
      let p = and_parts (fits structs q t) (all_fit structs qs t) h in
      and_from (fits structs q t) _ p.0 (all_filtered structs (λ pair. not (bytes_eq (key_text q) (key_text pair))) (first_pairs qs) t (firsts_fit qs t p.1))

  pub collect_fits : (x : Value) (t u : Ty) → Fits structs x (ty.Array (ty.Pair t u) false) → IsOfType structs (ty.Map t (ty.Array u false)) (collect_by_key_of x)
  collect_fits x t u h =
      let all = items_fit structs x (ty.Pair t u) false h in
      let values : (k : List ℕ) → AllFit structs (values_at k (items_in x)) u = λ k. all_mapped structs right_in (ty.Pair t u) u (λ y. right_fits structs y t u) _ (all_filtered structs (λ pair. bytes_eq k (key_text pair)) (items_in x) (ty.Pair t u) all) in
      map_fits structs (map (group_of (items_in x)) (first_pairs (items_in x))) t (ty.Array u false)
      (made_rows (group_of (items_in x)) (ty.Pair t u) t (ty.Array u false) (λ y k. (left_fits structs y t u k, array structs (values_at (key_text y) (items_in x)) u (values (key_text y)))) (first_pairs (items_in x)) (firsts_fit (items_in x) (ty.Pair t u) all))
      (firsts_distinct (items_in x) (items_in x))

  pub as_map_fits : (x : Value) (t u : Ty) → Fits structs x (ty.Array (ty.Pair t u) false) → IsOfType structs (ty.Map t u) (as_map_of x)
  as_map_fits x t u h = map_of_pairs (items_in x) t u (items_fit structs x (ty.Pair t u) false h)
