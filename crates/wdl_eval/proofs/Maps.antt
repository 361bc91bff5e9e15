-- Map literals.
use Rattle.std.proofs.Common.{◌≡◌, Bool, true, false, cond, ◌&&◌, List, [], ◌∷◌, ◌++◌, map, Some, Ok, option_and_then, subst, refl}
use Rattle.std.proofs.lemmas.Bool.{false≢true, and_parts, and_from}
use Rattle.std.proofs.lemmas.Option.{same_Some}
use Rattle.wdl_base.specs.declared.fault.EvalCode.TheVariants.{RepeatedKey}
use Rattle.wdl_base.specs.declared.name.Key.{Key}
use Rattle.wdl_value.specs.declared.ty.Ty.{Ty}
use Rattle.wdl_value.specs.declared.ty.Ty.TheVariants as ty
use Rattle.wdl_value.specs.declared.value.MapRow.{MapRow}
use Rattle.wdl_value.specs.declared.value.Value.{Value}
use Rattle.wdl_value.specs.declared.value.Value.TheVariants as v
use Rattle.wdl_value.specs.Fits.{Structs, fits}
use Rattle.wdl_value.specs.FunctionTypes.{is_plain}
use Rattle.wdl_value.specs.Keyed.{distinct_keys}
use Rattle.wdl_value.specs.SameType.{same_type}
use Rattle.wdl_value.proofs.FitsForms.{map_fits, rows_fit}
use Rattle.wdl_value.proofs.SameTypeLemmas.{same_type-true}
use Rattle.wdl_typed.specs.declared.expr.TExpr.{TExpr}
use Rattle.wdl_typed.specs.declared.expr.TPair.{TPair}
use Rattle.wdl_typed.specs.Evaluation.{Setting, coded, map_of, then_, value_met}
use Rattle.wdl_typed.specs.Scope.{names_of, row_names}
use Rattle.wdl_typed.specs.Typing.{Context, Typing, all_same, all_types, keys_in, map_type, type_of, values_in}
use Rattle.wdl_eval.specs.Laws.{IsMet, IsSound}
use Rattle.wdl_eval.specs.Nodes.{rows_met}
use Rattle.wdl_eval.specs.Ready.{FitsNames}
use Rattle.wdl_eval.proofs.Known.{Known, pairs}
use Rattle.wdl_eval.proofs.Names.{left_names, right_names}
use Rattle.wdl_eval.proofs.Steps.{Fine, Fits, at_type, bind, when_in}
use Rattle.wdl_base.proofs.Options.{then_parts}

module _ (structs : Structs) where
  -- each key and each value fits the type of its expression
  abbrev pairs_fit : List (MapRow Value) → List Ty → List Ty → Bool
  pairs_fit [] [] [] = true
  pairs_fit (r ∷ rows) (u ∷ us) (t ∷ ts) = fits structs r.key u && fits structs r.value t && pairs_fit rows us ts
  pairs_fit rows us ts = false

  same_rows : (rows : List (MapRow Value)) (us ts : List Ty) (u t : Ty) → all_same u us ≡ true → all_same t ts ≡ true → pairs_fit rows us ts ≡ true → rows_fit structs rows u t ≡ true
  same_rows [] us ts u t h j k = refl
  same_rows (r ∷ rows) [] [] u t h j k = absurd (false≢true k)
  same_rows (r ∷ rows) [] (b ∷ ts) u t h j k = absurd (false≢true k)
  same_rows (r ∷ rows) (a ∷ us) [] u t h j k = absurd (false≢true k)
  same_rows (r ∷ rows) (a ∷ us) (b ∷ ts) u t h j k =
      let p = and_parts (same_type a u) (all_same u us) h in
      let q = and_parts (same_type b t) (all_same t ts) j in
      let m = and_parts (fits structs r.key a && fits structs r.value b) (pairs_fit rows us ts) k in
      let n = and_parts (fits structs r.key a) (fits structs r.value b) m.0 in
      and_from (fits structs r.key u && fits structs r.value t) (rows_fit structs rows u t)
      (and_from (fits structs r.key u) (fits structs r.value t) (subst (λ (w : Ty). Fits structs w r.key) (same_type-true a u p.0) n.0) (subst (λ (w : Ty). Fits structs w r.value) (same_type-true b t q.0) n.1))
      (same_rows rows us ts u t p.1 q.1 m.1)

  distinct_made : (rows : List (MapRow Value)) (u t : Ty) → rows_fit structs rows u t ≡ true → IsSound structs (ty.Map u t) (map_of rows)
  distinct_made rows u t h = by_test (distinct_keys rows) refl
    where
      by_test : (b : Bool) → distinct_keys rows ≡ b → IsSound structs (ty.Map u t) (cond b (Ok (v.Map rows)) (coded RepeatedKey))
      by_test true d = map_fits structs rows u t h d
      by_test false d = tt

  map_made : (us ts : List Ty) (rows : List (MapRow Value)) (w : Ty) → map_type us ts ≡ Some w → pairs_fit rows us ts ≡ true → IsSound structs w (map_of rows)
  map_made [] [] [] w e h = at_type structs (map_of []) (same_Some _ _ e) (distinct_made [] ty.Empty ty.Empty refl)
  map_made [] [] (r ∷ rows) w e h = absurd (false≢true h)
  map_made [] (t ∷ ts) rows w e h = cc
  map_made (u ∷ us) [] rows w e h = cc
  map_made (u ∷ us) (t ∷ ts) [] w e h = absurd (false≢true h)
  map_made (u ∷ us) (t ∷ ts) (r ∷ rows) w e h =
      let q = when_in (is_plain u && all_same u us && all_same t ts) (ty.Map u t) w e in
      let p = and_parts (is_plain u && all_same u us) (all_same t ts) q.0 in
      let n = and_parts (fits structs r.key u && fits structs r.value t) (pairs_fit rows us ts) h in
      at_type structs (map_of (r ∷ rows)) q.1
      (distinct_made (r ∷ rows) u t (and_from (fits structs r.key u && fits structs r.value t) (rows_fit structs rows u t) n.0 (same_rows rows us ts u t (and_parts (is_plain u) (all_same u us) p.0).1 p.1 n.1)))

module _ (c : Context) (s : Setting) where
  abbrev names : List (TPair TExpr) → List Key
  names rows = row_names (map (λ (r : TPair TExpr). record { key = names_of r.key; value = names_of r.value }) rows)

  abbrev typings : List (TPair TExpr) → List (TPair Typing)
  typings = map (λ (r : TPair TExpr). record { key = type_of c r.key; value = type_of c r.value })

  all_sound : (ks : List (TPair (Known c s))) (placeholder : Bool) (us ts : List Ty) → FitsNames c s.env (names (pairs c s ks))
      → all_types (keys_in (typings (pairs c s ks)) placeholder) ≡ Some us → all_types (values_in (typings (pairs c s ks)) placeholder) ≡ Some ts
      → IsMet (λ rows. pairs_fit c.structs rows us ts ≡ true) (rows_met s (pairs c s ks))
  all_sound [] placeholder us ts g e d =
      subst (λ (z : List Ty). pairs_fit c.structs [] z ts ≡ true) (same_Some _ _ e) (subst (λ (z : List Ty). pairs_fit c.structs [] [] z ≡ true) (same_Some _ _ d) refl)
  all_sound (k ∷ ks) placeholder us ts g e d =
      let keys = all_types (keys_in (typings (pairs c s ks)) placeholder) in
      let values = all_types (values_in (typings (pairs c s ks)) placeholder) in
      let a = then_parts (λ (t : Ty). option_and_then (λ zs. Some (t ∷ zs)) keys) (type_of c k.key.0 placeholder) us e in
      let b = then_parts (λ zs. Some (a.0 ∷ zs)) keys us a.2 in
      let m = then_parts (λ (t : Ty). option_and_then (λ zs. Some (t ∷ zs)) values) (type_of c k.value.0 placeholder) ts d in
      let n = then_parts (λ zs. Some (m.0 ∷ zs)) values ts m.2 in
      let own = left_names c s.env (names_of k.key.0 ++ names_of k.value.0) (names (pairs c s ks)) g in
      let Q : List (MapRow Value) → Type 0 = λ rows. pairs_fit c.structs rows (a.0 ∷ b.0) (m.0 ∷ n.0) ≡ true in
      subst (λ (z : List Ty). IsMet (λ rows. pairs_fit c.structs rows z ts ≡ true) (rows_met s (pairs c s (k ∷ ks)))) (same_Some _ _ b.2)
      (subst (λ (z : List Ty). IsMet (λ rows. pairs_fit c.structs rows (a.0 ∷ b.0) z ≡ true) (rows_met s (pairs c s (k ∷ ks)))) (same_Some _ _ n.2)
      (bind (Fits c.structs a.0) Q (value_met s k.key.0) (λ x. then_ (value_met s k.value.0) (λ y. then_ (rows_met s (pairs c s ks)) (λ rows. Ok (record { key = x; value = y } ∷ rows))))
      (k.key.1 placeholder (left_names c s.env (names_of k.key.0) (names_of k.value.0) own) a.0 a.1) (λ x h.
      bind (Fits c.structs m.0) Q (value_met s k.value.0) (λ y. then_ (rows_met s (pairs c s ks)) (λ rows. Ok (record { key = x; value = y } ∷ rows)))
      (k.value.1 placeholder (right_names c s.env (names_of k.key.0) (names_of k.value.0) own) m.0 m.1) (λ y i.
      bind (λ rows. pairs_fit c.structs rows b.0 n.0 ≡ true) Q (rows_met s (pairs c s ks)) (λ rows. Ok (record { key = x; value = y } ∷ rows))
      (all_sound ks placeholder b.0 n.0 (right_names c s.env (names_of k.key.0 ++ names_of k.value.0) (names (pairs c s ks)) g) b.1 n.1) (λ rows j.
      and_from (fits c.structs x a.0 && fits c.structs y m.0) (pairs_fit c.structs rows b.0 n.0) (and_from (fits c.structs x a.0) (fits c.structs y m.0) h i) j)))))

  pub map_fine : (ks : List (TPair (Known c s))) (placeholder : Bool) → FitsNames c s.env (names (pairs c s ks))
      → Fine c.structs
      (option_and_then (λ us. option_and_then (λ ts. map_type us ts) (all_types (values_in (typings (pairs c s ks)) placeholder))) (all_types (keys_in (typings (pairs c s ks)) placeholder)))
      (then_ (rows_met s (pairs c s ks)) map_of)
  map_fine ks placeholder g w e =
      let keys = all_types (keys_in (typings (pairs c s ks)) placeholder) in
      let values = all_types (values_in (typings (pairs c s ks)) placeholder) in
      let p = then_parts (λ (us : List Ty). option_and_then (λ ts. map_type us ts) values) keys w e in
      let q = then_parts (λ (ts : List Ty). map_type p.0 ts) values w p.2 in
      bind (λ rows. pairs_fit c.structs rows p.0 q.0 ≡ true) (Fits c.structs w) (rows_met s (pairs c s ks)) map_of (all_sound ks placeholder p.0 q.0 g p.1 q.1)
      (λ rows h. map_made c.structs p.0 q.0 rows w q.2 h)
