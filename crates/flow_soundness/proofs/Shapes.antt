-- Names that statements give out, of each form, agree with their types.
use Rattle.std.proofs.Common.{◌≡◌, ℕ, Bool, true, false, cond, ◌||◌, List, [], ◌∷◌, ◌++◌, map, Option, Some, None, option_and_then, sym, ap, ◌∙◌, subst, refl}
use Rattle.std.proofs.lemmas.Bool.{false≢true, and_from, or_left, or_right}
use Rattle.wdl_base.specs.declared.name.Key.{Key}
use Rattle.wdl_value.specs.declared.env.Bind.{Bind}
use Rattle.wdl_value.specs.declared.ty.Ty.{Ty, Ty-F, out-Ty, roll-Ty, roll-out-Ty}
use Rattle.wdl_value.specs.declared.ty.Ty.TheVariants as ty
use Rattle.wdl_value.specs.declared.ty.Ty.TheOpen as type
use Rattle.wdl_value.specs.declared.value.Value.{Value}
use Rattle.wdl_value.specs.declared.value.Value.TheVariants as v
use Rattle.wdl_value.specs.Bare.{is_optional}
use Rattle.wdl_value.specs.Fits.{Structs, fits}
use Rattle.wdl_value.proofs.FitsForms.{absent_fits, all_fit, list_fits, opt_fits, some_fit}
use Rattle.wdl_typed.specs.declared.scope.Bound.{Bound}
use Rattle.wdl_typed.specs.declared.task.TDecl.{TDecl}
use Rattle.wdl_typed.specs.Bodies.{optional, output_bound}
use Rattle.wdl_typed.specs.Flow.{Flowing, Known, all_values, bound_by, bound_output, each_key, env_of, gathered_name, value_in}
use Rattle.wdl_typed.specs.Scope.{is_among, lookup, same_key, type_in}
use Rattle.wdl_task.specs.Soundness.{AreOutputs}
use Rattle.flow_soundness.specs.Readiness.{Agrees, FitsSome}
use Rattle.wdl_flow.proofs.MarkLemmas.{same_key-true}
use Rattle.flow_soundness.proofs.NewNames.{among_type, keys_of}
use Rattle.wdl_base.proofs.Options.{then_parts}

-- ---- names with one value

each_lookup : (x : Value) (keys : List Key) (key : Key) (y : Value) → lookup (env_of (each_key (Some x) keys)) key ≡ Some y → (x ≡ y) × (is_among key keys ≡ true)
each_lookup x [] key y h = absurd (cc)
each_lookup x (k ∷ ks) key y h = by_test (same_key k key) h (each_lookup x ks key y)
  where
    by_test : (b : Bool) → cond b (Some x) (lookup (env_of (each_key (Some x) ks)) key) ≡ Some y
        → (lookup (env_of (each_key (Some x) ks)) key ≡ Some y → (x ≡ y) × (is_among key ks ≡ true)) → (x ≡ y) × ((b || is_among key ks) ≡ true)
    by_test true h rest = (cc, refl)
    by_test false h rest = rest h

pub none_lookup : (keys : List Key) (key : Key) → lookup (env_of (each_key None keys)) key ≡ None
none_lookup [] key = refl
none_lookup (k ∷ ks) key = none_lookup ks key

retyped_type : (f : Ty → Ty) (bs : List Bound) (key : Key) (t : Ty) → type_in bs key ≡ Some t → type_in (map (λ (b : Bound). record { key = b.key; ty = f b.ty }) bs) key ≡ Some (f t)
retyped_type f [] key t h = absurd (cc)
retyped_type f (b ∷ bs) key t h = by_test (same_key b.key key) h (retyped_type f bs key t)
  where
    by_test : (s : Bool) → cond s (Some b.ty) (type_in bs key) ≡ Some t → (type_in bs key ≡ Some t → type_in (map (λ (b : Bound). record { key = b.key; ty = f b.ty }) bs) key ≡ Some (f t))
        → cond s (Some (f b.ty)) (type_in (map (λ (b : Bound). record { key = b.key; ty = f b.ty }) bs) key) ≡ Some (f t)
    by_test true h rest = let same : b.ty ≡ t = cc in ap (λ u. Some (f u)) same
    by_test false h rest = rest h

module _ (structs : Structs) where
  pub missing_agrees : (names : List Bound) (keys : List Key) → Agrees structs names (each_key None keys)
  missing_agrees names keys key x h = let none = none_lookup keys key in absurd (cc)

  some_type : (o : Option Ty) (x : Value) → FitsSome structs o x → (t : Ty) × (o ≡ Some t) × (fits structs x t ≡ true)
  some_type None x h = absurd h
  some_type (Some t) x h = (t, refl, h)

  -- ---- optional names

  absent_at : (t : Ty) (z : Ty-F Ty) → out-Ty t ≡ z → is_optional z ≡ true → fits structs v.Absent t ≡ true
  absent_at t (type.Opt u) e h = subst (λ (w : Ty). fits structs v.Absent w ≡ true) (sym (sym (roll-out-Ty t) ∙ ap roll-Ty e ∙ ty.rolls-Opt u)) (absent_fits structs u)
  absent_at t z e h = absurd (false≢true h)

  absent_optional : (t : Ty) → fits structs v.Absent (optional t) ≡ true
  absent_optional t = by_test (is_optional (out-Ty t)) refl
    where
      by_test : (b : Bool) → is_optional (out-Ty t) ≡ b → fits structs v.Absent (cond b t (ty.Opt t)) ≡ true
      by_test true e = absent_at t (out-Ty t) refl e
      by_test false e = absent_fits structs t

  fits_optional : (x : Value) (t : Ty) → fits structs x t ≡ true → fits structs x (optional t) ≡ true
  fits_optional x t h = by_test (is_optional (out-Ty t))
    where
      by_test : (b : Bool) → fits structs x (cond b t (ty.Opt t)) ≡ true
      by_test true = h
      by_test false = opt_fits structs x t h

  abbrev retyped_names : (Ty → Ty) → List Bound → List Bound
  retyped_names f = map (λ (b : Bound). record { key = b.key; ty = f b.ty })

  -- where the condition is false
  pub absent_agrees : (bs : List Bound) (keys : List Key) → keys_of bs ≡ keys → Agrees structs (retyped_names optional bs) (each_key (Some v.Absent) keys)
  absent_agrees bs keys same key x h =
      let p = each_lookup v.Absent keys key x h in
      let q = among_type bs key (ap (is_among key) same ∙ p.1) in
      subst (λ (o : Option Ty). FitsSome structs o x) (sym (retyped_type optional bs key q.0 q.1))
      (subst (λ (y : Value). fits structs y (optional q.0) ≡ true) p.0 (absent_optional q.0))

  -- where it is true
  pub optional_agrees : (bs : List Bound) (ks : List Known) → Agrees structs bs ks → Agrees structs (retyped_names optional bs) ks
  optional_agrees bs ks f key x h =
      let p = some_type (type_in bs key) x (f key x h) in
      subst (λ (o : Option Ty). FitsSome structs o x) (sym (retyped_type optional bs key p.0 p.1)) (fits_optional x p.0 p.2)

  -- ---- gathered names

  gathered_lookup : (fs : List Flowing) (keys : List Key) (key : Key) (y : Value) → lookup (env_of (map (gathered_name fs) keys)) key ≡ Some y
      → (xs : List Value) × (y ≡ v.List xs) × (all_values (map (value_in key) fs) ≡ Some xs) × (is_among key keys ≡ true)
  gathered_lookup fs [] key y h = absurd (cc)
  gathered_lookup fs (k ∷ ks) key y h = by_values (all_values (map (value_in k) fs)) refl h (gathered_lookup fs ks key y)
    where
      later : (xs : List Value) × (y ≡ v.List xs) × (all_values (map (value_in key) fs) ≡ Some xs) × (is_among key ks ≡ true)
          → (xs : List Value) × (y ≡ v.List xs) × (all_values (map (value_in key) fs) ≡ Some xs) × ((same_key k key || is_among key ks) ≡ true)
      later p = (p.0, p.1, p.2, or_right (same_key k key) (is_among key ks) p.3)

      by_test : (xs : List Value) → all_values (map (value_in k) fs) ≡ Some xs → (b : Bool) → same_key k key ≡ b → cond b (Some (v.List xs)) (lookup (env_of (map (gathered_name fs) ks)) key) ≡ Some y
          → (lookup (env_of (map (gathered_name fs) ks)) key ≡ Some y → ((xs : List Value) × (y ≡ v.List xs) × (all_values (map (value_in key) fs) ≡ Some xs) × (is_among key ks ≡ true)))
          → (xs : List Value) × (y ≡ v.List xs) × (all_values (map (value_in key) fs) ≡ Some xs) × ((same_key k key || is_among key ks) ≡ true)
      by_test xs e true s h rest =
          (xs, cc, ap (λ j. all_values (map (value_in j) fs)) (sym (same_key-true k key s)) ∙ e, or_left (same_key k key) (is_among key ks) s)
      by_test xs e false s h rest = later (rest h)

      by_values : (o : Option (List Value)) → all_values (map (value_in k) fs) ≡ o
          → lookup (bound_by k (option_and_then (λ xs. Some (v.List xs)) o) ++ env_of (map (gathered_name fs) ks)) key ≡ Some y
          → (lookup (env_of (map (gathered_name fs) ks)) key ≡ Some y → ((xs : List Value) × (y ≡ v.List xs) × (all_values (map (value_in key) fs) ≡ Some xs) × (is_among key ks ≡ true)))
          → (xs : List Value) × (y ≡ v.List xs) × (all_values (map (value_in key) fs) ≡ Some xs) × ((same_key k key || is_among key ks) ≡ true)
      by_values None e h rest = later (rest h)
      by_values (Some xs) e h rest = by_test xs e (same_key k key) refl h rest

  abbrev pub AllAgree : List Bound → List Flowing → Type 0
  AllAgree bs [] = Unit {0}
  AllAgree bs (f ∷ fs) = Agrees structs bs f.names × AllAgree bs fs

  values_fit : (bs : List Bound) (fs : List Flowing) (key : Key) (t : Ty) (xs : List Value) → AllAgree bs fs → type_in bs key ≡ Some t
      → all_values (map (value_in key) fs) ≡ Some xs → all_fit structs xs t ≡ true
  values_fit bs [] key t xs a e h = let same : (let none : List Value = [] in none) ≡ xs = cc in ap (λ ys. all_fit structs ys t) (sym same)
  values_fit bs (f ∷ fs) key t xs a e h =
      let p = then_parts (λ x. option_and_then (λ ys. Some (x ∷ ys)) (all_values (map (value_in key) fs))) (value_in key f) xs h in
      let q = then_parts (λ ys. Some (p.0 ∷ ys)) (all_values (map (value_in key) fs)) xs p.2 in
      let same : (p.0 ∷ q.0) ≡ xs = cc in
      let own : FitsSome structs (Some t) p.0 = subst (λ (o : Option Ty). FitsSome structs o p.0) e (a.0 key p.0 p.1) in
      ap (λ ys. all_fit structs ys t) (sym same) ∙ and_from (fits structs p.0 t) (all_fit structs q.0 t) own (values_fit bs fs key t q.0 a.1 e q.1)

  -- the list is not empty where the collection has `+`, whose flows are not none
  list_fits_some : (some : Bool) (fs : List Flowing) (key : Key) (t : Ty) (xs : List Value) → (fs ≡ [] → some ≡ false) → all_values (map (value_in key) fs) ≡ Some xs → all_fit structs xs t ≡ true
      → fits structs (v.List xs) (ty.Array t some) ≡ true
  list_fits_some some fs key t (x ∷ xs) none h fit = some_fit structs x xs t some fit
  list_fits_some some [] key t [] none h fit = subst (λ (b : Bool). fits structs (v.List []) (ty.Array t b) ≡ true) (sym (none refl)) (list_fits structs [] t refl)
  list_fits_some some (f ∷ fs) key t [] none h fit =
      let p = then_parts (λ x. option_and_then (λ ys. Some (x ∷ ys)) (all_values (map (value_in key) fs))) (value_in key f) [] h in
      let q = then_parts (λ ys. Some (p.0 ∷ ys)) (all_values (map (value_in key) fs)) [] p.2 in
      absurd (cc)

  pub gathered_agrees : (some : Bool) (bs : List Bound) (keys : List Key) (fs : List Flowing) → keys_of bs ≡ keys → AllAgree bs fs → (fs ≡ [] → some ≡ false)
      → Agrees structs (retyped_names (λ u. ty.Array u some) bs) (map (gathered_name fs) keys)
  gathered_agrees some bs keys fs same a none key y h =
      let p = gathered_lookup fs keys key y h in
      let q = among_type bs key (ap (is_among key) same ∙ p.3) in
      subst (λ (o : Option Ty). FitsSome structs o y) (sym (retyped_type (λ u. ty.Array u some) bs key q.0 q.1))
      (subst (λ (z : Value). fits structs z (ty.Array q.0 some) ≡ true) (sym p.1)
      (list_fits_some some fs key q.0 p.0 none p.2 (values_fit bs fs key q.0 p.0 a q.1 p.2)))

  -- ---- outputs of calls

  pub told_agrees : (call : List ℕ) (ds : List TDecl) (outs : List Bind) → AreOutputs structs ds outs → Agrees structs (map (output_bound call) ds) (map (bound_output call) outs)
  told_agrees call [] [] a key x h = absurd (cc)
  told_agrees call [] (b ∷ bs) a key x h = absurd a
  told_agrees call (d ∷ ds) [] a key x h = absurd a
  told_agrees call (d ∷ ds) (b ∷ bs) a key x h =
      let named : (let k : Key = record { first = call; second = Some b.key.first } in k) ≡ record { first = call; second = Some d.name } =
      ap (λ (k : Key). let made : Key = record { first = call; second = Some k.first } in made) a.0 in
      by_test (same_key (record { first = call; second = Some d.name }) key) (sym (ap (λ k. cond (same_key k key) (Some b.value) (lookup (env_of (map (bound_output call) bs)) key)) named) ∙ h)
      (told_agrees call ds bs a.2 key x)
    where
      by_test : (s : Bool) → cond s (Some b.value) (lookup (env_of (map (bound_output call) bs)) key) ≡ Some x
          → (lookup (env_of (map (bound_output call) bs)) key ≡ Some x → FitsSome structs (type_in (map (output_bound call) ds) key) x) → FitsSome structs (cond s (Some d.ty) (type_in (map (output_bound call) ds) key)) x
      by_test true h rest = let same : b.value ≡ x = cc in subst (λ (y : Value). fits structs y d.ty ≡ true) same a.1
      by_test false h rest = rest h
