-- Scatters and scattered steps.
use Rattle.std.proofs.Common.{◌≡◌, ℕ, ◌+◌, ◌⊎◌, inl, inr, Bool, true, false, cond, ◌&&◌, List, [], ◌∷◌, ◌++◌, map, Option, Some, None, option_and_then, Ok, Err, Contains, sym, ap, ◌∙◌, subst, refl}
use Rattle.std.specs.List.{list_all}
use Rattle.std.specs.Str.{bytes_eq}
use Rattle.std.proofs.lemmas.Bool.{false≢true, and_from, and_parts, or_parts}
use Rattle.std.proofs.lemmas.Slice.Eq.{bytes_eq-Decides}
use Rattle.std.proofs.lemmas.Option.{none-some, same_Some}
use Rattle.wdl_base.specs.declared.fault.EvalCode.TheVariants.{TooLarge}
use Rattle.wdl_base.specs.declared.name.Key.{Key}
use Rattle.wdl_base.specs.declared.place.Segment.{Segment}
use Rattle.wdl_base.specs.declared.place.Segment.TheVariants as segment
use Rattle.wdl_value.specs.declared.ty.Ty.{Ty, fold-roll-Ty}
use Rattle.wdl_value.specs.declared.ty.Ty.TheVariants as ty
use Rattle.wdl_value.specs.declared.ty.Ty.TheOpen as shape
use Rattle.wdl_value.specs.declared.value.Value.{Value, Value-F, out-Value}
use Rattle.wdl_value.specs.declared.value.Value.TheVariants as v
use Rattle.wdl_value.specs.declared.value.Value.TheOpen as value
use Rattle.wdl_value.specs.Fits.{Structs, fits}
use Rattle.wdl_value.specs.Limits.{is_within, limited}
use Rattle.wdl_value.specs.Outcome.{Outcome}
use Rattle.wdl_value.specs.Parts.{items_at, items_in}
use Rattle.wdl_value.proofs.FitsForms.{all_fit, a_list as fits_list}
use Rattle.wdl_typed.specs.declared.expr.TExpr.{TExpr}
use Rattle.wdl_typed.specs.declared.scope.Bound.{Bound}
use Rattle.wdl_typed.specs.Declarations.{bound, plain_key}
use Rattle.wdl_typed.specs.Evaluation.{value_of}
use Rattle.wdl_typed.specs.Flow as flow
use Rattle.wdl_typed.specs.Flow.{Flowing, Known, Names, Runner, Sight, all_known, all_together, all_values, each_item, env_of, gathered_name, in_turn, is_clean, item_sight, missing, scatter_run, scattered, with_count}
use Rattle.wdl_typed.specs.Requests.{before}
use Rattle.wdl_typed.specs.Scope.{lookup, same_key, type_in}
use Rattle.cwl_model.specs.declared.process.CwlFlow.{CwlFlow}
use Rattle.cwl_model.specs.declared.process.CwlStep.{CwlStep}
use Rattle.cwl_model.specs.declared.process.Link.TheVariants as link
use Rattle.cwl_model.specs.declared.process.Mode.TheVariants as mode
use Rattle.cwl_model.specs.declared.tool.CwlIn.{CwlIn}
use Rattle.cwl_model.specs.declared.ty.CwlTy.{CwlTy, fold-roll-CwlTy}
use Rattle.cwl_model.specs.declared.ty.CwlTy.TheVariants as cwl
use Rattle.cwl_model.specs.declared.ty.CwlTy.TheOpen as type
use Rattle.cwl_model.specs.Means as means
use Rattle.cwl_model.specs.Means.{Ground, Meaning, Named, Running, Test, all_jobs, all_outputs, all_taken, are_typed, flow_means, given_or, given_outputs, has_type, incomplete, input_links, is_complete, is_given, listed, mode_means, named, or_null, scatter_items, step_means, taken, typed_at, value_at, wired, wired_means}
use Rattle.cwl_model.specs.Rounds.{Linked, known_value}
use Rattle.cwl_model.proofs.Rounds.{first_is, first_or_later, later_is, none_is, or_else}
use Rattle.cwl_image.specs.Image.{Draft, Linkage, Output, Scope, block_out, block_output, body_items, body_links, body_steps, id_of, inner_scope, input_of, item_linkage, linkage_at, list_type, out_id, outer_uses, outer_wire, reference, scatter_draft, step_of, type_of, type_step, wire_to}
use Rattle.cwl_laws.specs.Laws.{Agrees, Fit, FitsAt, Given, New, NewItems, Shown, Shows, Simulates, all_running, as_running, has_key, job_of, jobs_of}
use Rattle.cwl_laws.specs.Premises.{IsScatter}
use Rattle.cwl_laws.proofs.Blocks.{block_agrees, running_flow}
use Rattle.cwl_laws.proofs.Bodies.{all_new_more, bound_lookup, clean_together, jobs_append, lookup_append}
use Rattle.cwl_laws.proofs.Conditions.{all_new, new_link}
use Rattle.cwl_laws.proofs.Objects.{IsSeen, given_same, inner_shows, is_seen, keys_known, keys_typed, value_in, value_under, wired_keys}
use Rattle.wdl_flow.proofs.MarkLemmas.{same_key-true as key_same}
use Rattle.flow_soundness.proofs.Shapes.{none_lookup as each_missing}
use Rattle.flow_soundness.proofs.NewNames.{same_key-refl as same_itself}

-- ---- lists

list_is : (t : CwlTy) (x : Value) → has_type (cwl.List t) x ≡ typed_at (type.List (has_type t)) x (out-Value x)
list_is t x =
    ap (λ u. has_type u x) (sym (cwl.rolls-List t))
    ∙ ap (λ (p : Test). p x) (fold-roll-CwlTy Test (λ t x. typed_at t x (out-Value x)) (type.List t))

a_list : (t : CwlTy) (x : Value) → has_type (cwl.List t) x ≡ true → (xs : List Value) × (out-Value x ≡ value.List xs) × (list_all (has_type t) xs ≡ true)
a_list t x h = by_layer (out-Value x) refl (sym (list_is t x) ∙ h)
  where
    by_layer : (y : Value-F Value) → out-Value x ≡ y → typed_at (type.List (has_type t)) x y ≡ true → (xs : List Value) × (out-Value x ≡ value.List xs) × (list_all (has_type t) xs ≡ true)
    by_layer (value.List xs) e h = (xs, e, h)
    by_layer y e h = absurd (false≢true h)

pub list_typed : (t : CwlTy) (xs : List Value) → list_all (has_type t) xs ≡ true → has_type (cwl.List t) (v.List xs) ≡ true
list_typed t xs h = list_is t (v.List xs) ∙ ap (typed_at (type.List (has_type t)) (v.List xs)) (v.outs-List xs) ∙ h

-- ---- element by element

abbrev AllAgree : List Linkage → List Flowing → List Meaning → Type 0
AllAgree ls [] [] = Unit {0}
AllAgree ls [] (m ∷ ms) = ⊥
AllAgree ls (f ∷ fs) [] = ⊥
AllAgree ls (f ∷ fs) (m ∷ ms) = Agrees (map (block_output (λ t. t)) ls) f m × AllAgree ls fs ms

given_both : (o : Option (List Named)) (p : Option (List (List Named))) → is_given (option_and_then (λ x. option_and_then (λ xs. Some (x ∷ xs)) p) o) ≡ (is_given o && is_given p)
given_both None p = refl
given_both (Some x) None = refl
given_both (Some x) (Some xs) = refl

clean_all : (ls : List Linkage) (fs : List Flowing) (ms : List Meaning) → AllAgree ls fs ms → is_clean (all_together fs) ≡ is_given (all_outputs ms)
clean_all ls [] [] h = refl
clean_all ls [] (m ∷ ms) h = absurd h
clean_all ls (f ∷ fs) [] h = absurd h
clean_all ls (f ∷ fs) (m ∷ ms) h =
    clean_together f (all_together fs)
    ∙ ap (λ b. b && is_clean (all_together fs)) h.0.clean
    ∙ ap (λ b. is_complete m && b) (clean_all ls fs ms h.1)
    ∙ sym (given_both m.outputs (all_outputs ms))

jobs_all : (ls : List Linkage) (fs : List Flowing) (ms : List Meaning) → AllAgree ls fs ms → is_clean (all_together fs) ≡ true → jobs_of (all_together fs) ≡ all_jobs ms
jobs_all ls [] [] h c = refl
jobs_all ls [] (m ∷ ms) h c = absurd h
jobs_all ls (f ∷ fs) [] h c = absurd h
jobs_all ls (f ∷ fs) (m ∷ ms) h c =
    let p = and_parts (is_clean f) (is_clean (all_together fs)) (sym (clean_together f (all_together fs)) ∙ c) in
    jobs_append f.jobs (all_together fs).jobs
    ∙ ap (λ js. js ++ map job_of (all_together fs).jobs) (h.0.jobs p.0)
    ∙ ap (λ js. m.jobs ++ js) (jobs_all ls fs ms h.1 p.1)

abbrev rows_of : List Meaning → List (List Named)
rows_of ms = map (λ (m : Meaning). given_outputs m.outputs) ms

rows_are : (ms : List Meaning) → is_given (all_outputs ms) ≡ true → all_outputs ms ≡ Some (rows_of ms)
rows_are [] h = refl
rows_are (m ∷ ms) h = by_value m.outputs (all_outputs ms) h (rows_are ms)
  where
    by_value : (o : Option (List Named)) (p : Option (List (List Named))) → is_given (option_and_then (λ x. option_and_then (λ xs. Some (x ∷ xs)) p) o) ≡ true
        → (is_given p ≡ true → p ≡ Some (rows_of ms)) → option_and_then (λ x. option_and_then (λ xs. Some (x ∷ xs)) p) o ≡ Some (given_outputs o ∷ rows_of ms)
    by_value None p h rest = absurd (false≢true h)
    by_value (Some x) None h rest = absurd (false≢true h)
    by_value (Some x) (Some xs) h rest = ap (option_and_then (λ ys. Some (x ∷ ys))) (rest refl)

abbrev OneGiven : Linkage → List Known → List Named → Type 0
OneGiven l names ns = (x : Value) × (lookup (env_of names) l.key ≡ Some x) × (value_at ns (id_of l.key) ≡ Some x) × (has_type l.ty x ≡ true)

given_at : (ls : List Linkage) (names : List Known) (ns : List Named) → Given (map (block_output (λ t. t)) ls) names ns → (l : Linkage) → Contains ls l → OneGiven l names ns
given_at [] names ns h l c = absurd (none_is l c)
given_at (m ∷ ls) names ns h l c = by_case (λ d. given_at ls names ns h.1 l d) (first_or_later m ls l c)
  where
    by_case : (Contains ls l → OneGiven l names ns) → (m ≡ l) ⊎ Contains ls l → OneGiven l names ns
    by_case rest (inl e) = subst (λ (z : Linkage). OneGiven z names ns) e h.0
    by_case rest (inr d) = rest d

-- the values of one name, element by element
pub record AreValues (fs : List Flowing) (ms : List Meaning) (l : Linkage) (xs : List Value) : Type 0 where
  pub names : all_values (map (flow.value_in l.key) fs) ≡ Some xs
  pub rows : map (λ (r : List Named). or_null (value_at r (id_of l.key))) (rows_of ms) ≡ xs
  pub typed : list_all (has_type l.ty) xs ≡ true

values_all : (ls : List Linkage) (fs : List Flowing) (ms : List Meaning) → AllAgree ls fs ms → is_clean (all_together fs) ≡ true → (l : Linkage) → Contains ls l
    → (xs : List Value) × AreValues fs ms l xs
values_all ls [] [] h c l d = ([], record { names = refl; rows = refl; typed = refl })
values_all ls [] (m ∷ ms) h c l d = absurd h
values_all ls (f ∷ fs) [] h c l d = absurd h
values_all ls (f ∷ fs) (m ∷ ms) h c l d =
    let p = and_parts (is_clean f) (is_clean (all_together fs)) (sym (clean_together f (all_together fs)) ∙ c) in
    let x = given_at ls f.names (given_outputs m.outputs) (h.0.given p.0) l d in
    let r = values_all ls fs ms h.1 p.1 l d in (
      x.0 ∷ r.0,
      record {
        names =
            ap (λ o. option_and_then (λ y. option_and_then (λ ys. Some (y ∷ ys)) (all_values (map (flow.value_in l.key) fs))) o) x.1
            ∙ ap (option_and_then (λ ys. Some (x.0 ∷ ys))) r.1.names;
        rows =
            ap (λ o. or_null o ∷ map (λ (r : List Named). or_null (value_at r (id_of l.key))) (rows_of ms)) x.2
            ∙ ap (λ ys. x.0 ∷ ys) r.1.rows;
        typed = and_from (has_type l.ty x.0) (list_all (has_type l.ty) r.0) x.3 r.1.typed;
      },
    )

-- ---- what is gathered

gathered_other : (fs : List Flowing) (ls : List Linkage) (key : Key) → has_key (map (block_output list_type) ls) key ≡ false → lookup (env_of (map (gathered_name fs) (map (λ (l : Linkage). l.key) ls))) key ≡ None
gathered_other fs [] key h = refl
gathered_other fs (l ∷ ls) key h =
    let p = or_parts (same_key l.key key) (has_key (map (block_output list_type) ls) key) h in
    let rest = map (gathered_name fs) (map (λ (l : Linkage). l.key) ls) in
    bound_lookup l.key (gathered_name fs l.key).value (env_of rest) key
    ∙ ap (λ b. or_else (cond b (gathered_name fs l.key).value None) (lookup (env_of rest) key)) p.0
    ∙ gathered_other fs ls key p.1

gathered_value : (fs : List Flowing) (ks : List Key) (key : Key) (x : Value) → (gathered_name fs key).value ≡ Some x → Contains ks key → lookup (env_of (map (gathered_name fs) ks)) key ≡ Some x
gathered_value fs [] key x h c = absurd (none_is key c)
gathered_value fs (k ∷ ks) key x h c =
    bound_lookup k (gathered_name fs k).value (env_of (map (gathered_name fs) ks)) key ∙ by_test (λ d. gathered_value fs ks key x h d) (same_key k key) refl (first_or_later k ks key c)
  where
    by_test : (Contains ks key → lookup (env_of (map (gathered_name fs) ks)) key ≡ Some x) → (b : Bool) → same_key k key ≡ b → (k ≡ key) ⊎ Contains ks key
        → or_else (cond b (gathered_name fs k).value None) (lookup (env_of (map (gathered_name fs) ks)) key) ≡ Some x
    by_test rest true e d = ap (λ o. or_else o (lookup (env_of (map (gathered_name fs) ks)) key)) (ap (λ j. (gathered_name fs j).value) (key_same k key e) ∙ h)
    by_test rest false e (inl s) = absurd (false≢true (sym e ∙ ap (λ j. same_key j key) s ∙ same_itself key))
    by_test rest false e (inr d) = rest d

listed_value : (rows : List (List Named)) (ids : List (List ℕ)) (id : List ℕ) → Contains ids id → value_at (map (listed rows) ids) id ≡ Some (listed rows id).value
listed_value rows [] id c = absurd (none_is id c)
listed_value rows (i ∷ ids) id c = by_test (λ d. listed_value rows ids id d) (bytes_eq i id) refl (first_or_later i ids id c)
  where
    by_test : (Contains ids id → value_at (map (listed rows) ids) id ≡ Some (listed rows id).value) → (b : Bool) → bytes_eq i id ≡ b → (i ≡ id) ⊎ Contains ids id
        → cond b (Some (listed rows i).value) (value_at (map (listed rows) ids) id) ≡ Some (listed rows id).value
    by_test rest true e d = ap (λ j. Some (listed rows j).value) ((bytes_eq-Decides i id).0 e)
    by_test rest false e (inl s) = absurd (false≢true (sym e ∙ (bytes_eq-Decides i id).1 s))
    by_test rest false e (inr d) = rest d

module _ (all : List Linkage) (fs : List Flowing) (ms : List Meaning) (agree : AllAgree all fs ms) (clean : is_clean (all_together fs) ≡ true) where
  lists_given : (ls : List Linkage) → ((l : Linkage) → Contains ls l → Contains all l)
      → ((key : Key) → Contains (map (λ (l : Linkage). l.key) ls) key → Contains (map (λ (l : Linkage). l.key) all) key)
      → ((id : List ℕ) → Contains (map out_id (map (block_output list_type) ls)) id → Contains (map out_id (map (block_output list_type) all)) id)
      → Given (map (block_output list_type) ls) (map (gathered_name fs) (map (λ (l : Linkage). l.key) all)) (map (listed (rows_of ms)) (map out_id (map (block_output list_type) all)))
  lists_given [] within keys ids = tt
  lists_given (l ∷ ls) within keys ids =
      let r = values_all all fs ms agree clean l (within l (first_is l ls)) in (
        (
          v.List r.0,
          gathered_value fs (map (λ (l : Linkage). l.key) all) l.key (v.List r.0) (ap (option_and_then (λ xs. Some (v.List xs))) r.1.names) (keys l.key (first_is l.key (map (λ (l : Linkage). l.key) ls))),
          listed_value (rows_of ms) (map out_id (map (block_output list_type) all)) (id_of l.key) (ids (id_of l.key) (first_is (id_of l.key) (map out_id (map (block_output list_type) ls))))
              ∙ ap (λ xs. Some (v.List xs)) r.1.rows,
          list_typed l.ty r.0 r.1.typed,
        ),
        lists_given ls (λ m c. within m (later_is l ls m c)) (λ k c. keys k (later_is l.key (map (λ (l : Linkage). l.key) ls) k c))
            (λ i c. ids i (later_is (id_of l.key) (map out_id (map (block_output list_type) ls)) i c)),
      )

gathered_agrees : (n : Names) (ls : List Linkage) (fs : List Flowing) (ms : List Meaning) → n.keys ≡ map (λ (l : Linkage). l.key) ls → AllAgree ls fs ms
    → Agrees (map (block_output list_type) ls) (flow.gathered n fs) (means.gathered (map out_id (map (block_output list_type) ls)) ms)
gathered_agrees n ls fs ms keys agree =
    record {
      clean = clean_all ls fs ms agree ∙ sym (same_given (all_outputs ms));
      jobs = λ h. jobs_all ls fs ms agree h;
      given = λ h.
          let rows = rows_are ms (sym (clean_all ls fs ms agree) ∙ h) in
          subst (λ (ks : List Key). Given (map (block_output list_type) ls) (map (gathered_name fs) ks) (given_outputs (means.gathered (map out_id (map (block_output list_type) ls)) ms).outputs)) (sym keys)
          (subst (λ (o : Option (List (List Named))). Given (map (block_output list_type) ls) (map (gathered_name fs) (map (λ (l : Linkage). l.key) ls))
          (given_outputs (option_and_then (λ rows. Some (map (listed rows) (map out_id (map (block_output list_type) ls)))) o))) (sym rows)
          (lists_given ls fs ms agree h ls (λ l c. c) (λ k c. c) (λ i c. c)));
    }
  where
    same_given : (o : Option (List (List Named))) → is_given (option_and_then (λ rows. Some (map (listed rows) (map out_id (map (block_output list_type) ls)))) o) ≡ is_given o
    same_given None = refl
    same_given (Some rows) = refl

-- ---- scatters

pub array_type : (t : Ty) (some : Bool) → type_of (ty.Array t some) ≡ cwl.List (type_of t)
array_type t some = ap type_of (sym (ty.rolls-Array t some)) ∙ fold-roll-Ty CwlTy type_step (shape.Array t some)

-- An item fits its type.
item_fit : (structs : Structs) (seen : List Bound) (names : List Known) (item : List ℕ) (t : Ty) (x : Value) → Fit structs seen names → type_in seen (plain_key item) ≡ None → fits structs x t ≡ true
    → Fit structs (seen ++ bound item t ∷ []) (names ++ record { key = plain_key item; value = Some x } ∷ [])
item_fit structs seen names item t x fit new ok key y h = by_value (lookup (env_of names) key) refl
  where
    one : List Known
    one = record { key = plain_key item; value = Some x } ∷ []

    split : lookup (env_of (names ++ one)) key ≡ or_else (lookup (env_of names) key) (lookup (env_of one) key)
    split = lookup_append names one key

    types : (bs : List Bound) → type_in (bs ++ bound item t ∷ []) key ≡ or_else (type_in bs key) (cond (same_key (plain_key item) key) (Some t) None)
    types [] = refl
    types (b ∷ bs) = by_test (types bs) (same_key b.key key)
      where
        by_test : type_in (bs ++ bound item t ∷ []) key ≡ or_else (type_in bs key) (cond (same_key (plain_key item) key) (Some t) None) → (w : Bool)
            → cond w (Some b.ty) (type_in (bs ++ bound item t ∷ []) key) ≡ or_else (cond w (Some b.ty) (type_in bs key)) (cond (same_key (plain_key item) key) (Some t) None)
        by_test rest true = refl
        by_test rest false = rest

    Has : Value → Type 0
    Has z = FitsAt structs (seen ++ bound item t ∷ []) key z

    by_test : (b : Bool) → same_key (plain_key item) key ≡ b → cond b (Some x) None ≡ Some y → Has y
    by_test false e q = absurd (none-some _ q)
    by_test true e q = (
      t,
      types seen ∙ ap (λ k. or_else (type_in seen k) (cond (same_key (plain_key item) key) (Some t) None)) (sym (key_same (plain_key item) key e))
          ∙ ap (λ o. or_else o (cond (same_key (plain_key item) key) (Some t) None)) new ∙ ap (λ b. cond b (Some t) None) e,
      ap (λ z. fits structs z t) (sym (same_Some _ _ q)) ∙ ok,
    )

    by_value : (o : Option Value) → lookup (env_of names) key ≡ o → Has y
    by_value (Some z) e =
        let r = fit key z e in
        let same : z ≡ y = same_Some _ _ (sym (ap (λ o. or_else o (lookup (env_of one) key)) e) ∙ sym split ∙ h) in
        subst Has same (r.0, types seen ∙ ap (λ o. or_else o (cond (same_key (plain_key item) key) (Some t) None)) r.1, r.2)
    by_value None e = by_test (same_key (plain_key item) key) refl (sym (ap (λ o. or_else o (lookup (env_of one) key)) e) ∙ sym split ∙ h)

module _ (g : Ground) (structs : Structs) (bounds : List Bound) (scope : Scope) (n : Names) (fs : List Runner) (m k : ℕ) (item : List ℕ) (e : TExpr) (key : Key) (t : Ty) (some : Bool) (ds : List Draft)
    (is : IsScatter g structs bounds scope n fs k item e key t some ds) where
  abbrev Body : Runner
  Body s = with_count m (in_turn fs s)

  abbrev Outs : List Output
  Outs = map (block_output list_type) (body_links ds)

  abbrev Uses : List Key
  Uses = outer_uses (plain_key item ∷ []) ds

  abbrev Step : CwlStep Running
  Step = as_running g (step_of (scatter_draft k item e ds) scope)

  abbrev Inner : Scope
  Inner = item_linkage scope item e ∷ inner_scope scope (outer_uses (plain_key item ∷ []) ds)

  abbrev Ins : List CwlIn
  Ins = map input_of Inner

  abbrev Flow : CwlFlow Running
  Flow = record { inputs = Ins; outputs = map block_out (body_links ds); steps = all_running g (body_steps ds Inner) }

  -- ---- names

  outcome_own : (s : Sight) (o : Outcome Value) (j : Key) → has_key Outs j ≡ false → lookup (env_of (scattered n Body s k item o).names) j ≡ None
  outcome_own s (Ok x) j h =
      ap (λ ks. lookup (env_of (map (gathered_name (each_item Body s k item 0 (items_in x))) ks)) j) is.keys
      ∙ gathered_other (each_item Body s k item 0 (items_in x)) (body_links ds) j h
  outcome_own s (Err c) j h = each_missing n.keys j

  scatter_own : (s : Sight) (j : Key) → has_key Outs j ≡ false → lookup (env_of (scatter_run n Body k item e s).names) j ≡ None
  scatter_own s j h = by_test (all_known s.names e)
    where
      by_test : (b : Bool) → lookup (env_of (cond b (scattered n Body s k item (value_of (before (env_of s.names)) e)) (missing n)).names) j ≡ None
      by_test true = outcome_own s (value_of (before (env_of s.names)) e) j h
      by_test false = each_missing n.keys j

  module _ (s : Sight) (known : List Linked) (fit : Fit structs bounds s.names) (shows : Shows scope s.names known) (new : New Outs s.names) (items : NewItems (plain_key item ∷ body_items ds) s.names) where
    seen : (j : Key) → Contains Uses j → IsSeen scope s.names known j
    seen j c = let r = is.used j c in is_seen scope s.names known shows j r.0 r.1

    abbrev object_of : Value → List Named
    object_of x = named item x ∷ map (λ j. named (id_of j) (value_in s.names j)) Uses

    -- ---- one element

    module _ (all x : Value) (ok : fits structs x t ≡ true) (is_typed : has_type (type_of t) x ≡ true) (i : ℕ) where
      abbrev Object : List Named
      Object = named item x ∷ object_of all

      abbrev There : Sight
      There = item_sight s k item i x

      abbrev one : List Known
      one = record { key = plain_key item; value = Some x } ∷ []

      has : (j : Key) → Contains Uses j → value_at Object (id_of j) ≡ Some (value_in s.names j)
      has j c =
          ap (λ b. cond b (Some x) (cond b (Some all) (value_at (map (λ j. named (id_of j) (value_in s.names j)) Uses) (id_of j)))) (is.apart j c)
          ∙ value_under scope s.names known Uses seen is.ids Uses (λ q d. d) j c

      is_item : bytes_eq item item ≡ true
      is_item = (bytes_eq-Decides item item).1 refl

      item_taken : (taken Object (input_of (item_linkage scope item e))).value ≡ x
      item_taken = ap (λ b. given_or (cond b (Some x) (value_at (object_of all) item)) None) is_item ∙ given_same x

      item_typed : has_type (item_linkage scope item e).ty x ≡ true
      item_typed = ap (λ u. has_type u x) is.ty ∙ is_typed

      typed : are_typed Object Ins ≡ true
      typed =
          and_from (has_type (item_linkage scope item e).ty (taken Object (input_of (item_linkage scope item e))).value) (are_typed Object (map input_of (inner_scope scope Uses)))
          (ap (has_type (item_linkage scope item e).ty) item_taken ∙ item_typed)
          (keys_typed scope s.names known Uses seen is.ids Object has Uses (λ q d. d))

      inner_known : (j : Key) → Contains Uses j → known_value (input_links (all_taken Object Ins)) (link.Input (id_of j)) ≡ Some (value_in s.names j)
      inner_known j c =
          ap (λ b. cond b (Some (taken Object (input_of (item_linkage scope item e))).value) (known_value (input_links (all_taken Object (map input_of (inner_scope scope Uses)))) (link.Input (id_of j)))) (is.apart j c)
          ∙ keys_known scope s.names known Uses seen is.ids Object has Uses (λ q d. d) j c

      one_other : (j : Key) → has_key (record { key = plain_key item; id = item; ty = cwl.Str } ∷ []) j ≡ false → lookup (env_of one) j ≡ None
      one_other j h = ap (λ b. cond b (Some x) None) (or_parts (same_key (plain_key item) j) false h).0

      shows_there : Shows Inner (s.names ++ one) (input_links (all_taken Object Ins))
      shows_there j l h = by_test (same_key (plain_key item) j) refl h
        where
          by_test : (b : Bool) → same_key (plain_key item) j ≡ b → cond b (Some (item_linkage scope item e)) (linkage_at (inner_scope scope Uses) j) ≡ Some l
              → Shown (s.names ++ one) (input_links (all_taken Object Ins)) l
          by_test true same q =
              subst (λ (z : Linkage). Shown (s.names ++ one) (input_links (all_taken Object Ins)) z) (same_Some _ _ q) (
                x,
                lookup_append s.names one (plain_key item) ∙ ap (λ o. or_else o (lookup (env_of one) (plain_key item))) items.0
                    ∙ ap (λ b. cond b (Some x) None) (same_itself (plain_key item)),
                ap (λ b. cond b (Some (taken Object (input_of (item_linkage scope item e))).value) (known_value (input_links (all_taken Object (map input_of (inner_scope scope Uses)))) (link.Input item))) is_item
                    ∙ ap (λ y. Some y) item_taken,
                item_typed,
              )
          by_test false same q =
              let w = inner_shows scope s.names known Uses seen is.ids (input_links (all_taken Object Ins)) inner_known j l q in
              (w.0, lookup_append s.names one l.key ∙ ap (λ o. or_else o (lookup (env_of one) l.key)) w.1, w.2, w.3)

      none_there : (l : Linkage) → Contains (body_links ds) l → lookup (env_of (s.names ++ one)) l.key ≡ None
      none_there l c =
          lookup_append s.names one l.key ∙ ap (λ o. or_else o (lookup (env_of one) l.key)) (new_link list_type (body_links ds) s.names new l c)
          ∙ ap (λ b. cond b (Some x) None) (is.outs l c)

      element_agrees : Agrees (map (block_output (λ t. t)) (body_links ds)) (Body There) (Step.run false ((s.place ++ segment.Scatter k ∷ []) ++ segment.Index i ∷ []) Object)
      element_agrees =
          subst (Agrees (map (block_output (λ t. t)) (body_links ds)) (Body There)) (sym opened) (counted from_block)
        where
          opened : Step.run false ((s.place ++ segment.Scatter k ∷ []) ++ segment.Index i ∷ []) Object ≡ flow_means Flow false ((s.place ++ segment.Scatter k ∷ []) ++ segment.Index i ∷ []) Object
          opened = ap (λ (r : Running). r false ((s.place ++ segment.Scatter k ∷ []) ++ segment.Index i ∷ []) Object) (running_flow g Ins (map block_out (body_links ds)) (body_steps ds Inner))

          from_block : Agrees (map (block_output (λ t. t)) (body_links ds)) (in_turn fs There) (flow_means Flow false ((s.place ++ segment.Scatter k ∷ []) ++ segment.Index i ∷ []) Object)
          from_block =
              block_agrees g structs (bounds ++ bound item t ∷ []) fs ds Inner Ins is.inner There Object typed (item_fit structs bounds s.names item t x fit is.new ok) shows_there
              (all_new_more ds (record { key = plain_key item; id = item; ty = cwl.Str } ∷ []) s.names one one_other is.differs (all_new list_type ds s.names new items.1))
              none_there

          counted : Agrees (map (block_output (λ t. t)) (body_links ds)) (in_turn fs There) (flow_means Flow false ((s.place ++ segment.Scatter k ∷ []) ++ segment.Index i ∷ []) Object)
              → Agrees (map (block_output (λ t. t)) (body_links ds)) (Body There) (flow_means Flow false ((s.place ++ segment.Scatter k ∷ []) ++ segment.Index i ∷ []) Object)
          counted a = record { clean = a.clean; jobs = λ h. a.jobs h; given = λ h. a.given h }

    -- ---- all elements

    elements_agree : (all : Value) (i : ℕ) (xs : List Value) → all_fit structs xs t ≡ true → list_all (has_type (type_of t)) xs ≡ true
        → AllAgree (body_links ds) (each_item Body s k item i xs) (means.each_item Step item (s.place ++ segment.Scatter k ∷ []) (object_of all) i xs)
    elements_agree all i [] h q = tt
    elements_agree all i (x ∷ xs) h q =
        let r = and_parts (fits structs x t) (all_fit structs xs t) h in
        let p = and_parts (has_type (type_of t) x) (list_all (has_type (type_of t)) xs) q in
        (element_agrees all x r.0 p.0 i, elements_agree all (i + 1) xs r.1 p.1)

    scatter_agrees : Agrees Outs (scatter_run n Body k item e s) (step_means s.place known Step)
    scatter_agrees = by_list (a_list (type_of t) (value_in s.names key) (sym (ap (λ u. has_type u (value_in s.names key)) (array_type t some)) ∙ is.reads.typed (value_in s.names key) over_fit))
      where
        over_seen : IsSeen scope s.names known key
        over_seen = is_seen scope s.names known shows key is.source.0 is.source.1

        over_fit : FitsAt structs bounds key (value_in s.names key)
        over_fit = fit key (value_in s.names key) over_seen.name

        wires_are : wired known (wire_to scope item (reference e) ++ map (outer_wire scope) Uses) ≡ Some (object_of (value_in s.names key))
        wires_are =
            ap (λ o. wired known (wire_to scope item o ++ map (outer_wire scope) Uses)) is.reads.refers
            ∙ ap (λ o. option_and_then (λ x. option_and_then (λ ns. Some (named item x ∷ ns)) (wired known (map (outer_wire scope) Uses))) o) over_seen.link
            ∙ ap (option_and_then (λ ns. Some (named item (value_in s.names key) ∷ ns))) (wired_keys scope s.names known Uses seen is.ids Uses (λ q d. d))

        place : List Segment
        place = s.place ++ segment.Scatter k ∷ []

        means_is : (xs : List Value) → out-Value (value_in s.names key) ≡ value.List xs
            → step_means s.place known Step ≡ scatter_items Step item place (object_of (value_in s.names key)) (value_in s.names key) (value.List xs)
        means_is xs q =
            ap (wired_means s.place Step) wires_are
            ∙ ap (λ w. mode_means Step (mode.Scatter item) (s.place ++ w ∷ []) (object_of (value_in s.names key))) is.place
            ∙ ap (λ o. scatter_items Step item place (object_of (value_in s.names key)) (or_null o) (out-Value (or_null o)))
            (ap (λ b. cond b (Some (value_in s.names key)) (value_at (map (λ j. named (id_of j) (value_in s.names j)) Uses) item)) ((bytes_eq-Decides item item).1 refl))
            ∙ ap (scatter_items Step item place (object_of (value_in s.names key)) (value_in s.names key)) q

        run_is : scatter_run n Body k item e s ≡ scattered n Body s k item (limited (value_in s.names key))
        run_is =
            ap (λ w. cond w (scattered n Body s k item (value_of (before (env_of s.names)) e)) (missing n)) (is.reads.known s.names (value_in s.names key) over_seen.name)
            ∙ ap (scattered n Body s k item) (is.reads.value (env_of s.names) (value_in s.names key) over_fit over_seen.name)

        by_list : (xs : List Value) × (out-Value (value_in s.names key) ≡ value.List xs) × (list_all (has_type (type_of t)) xs ≡ true) → Agrees Outs (scatter_run n Body k item e s) (step_means s.place known Step)
        by_list r =
            subst (λ (f : Flowing). Agrees Outs f (step_means s.place known Step)) (sym run_is)
            (subst (Agrees Outs (scattered n Body s k item (limited (value_in s.names key)))) (sym (means_is r.0 r.1)) (by_limit (is_within (value_in s.names key))))
          where
            items_fit : all_fit structs r.0 t ≡ true
            items_fit =
                let l = fits_list structs (value_in s.names key) t some (is.reads.fit (value_in s.names key) over_fit) in
                ap (λ (y : Value-F Value). all_fit structs (items_at y) t) (sym r.1 ∙ l.2) ∙ l.3

            by_limit : (b : Bool) → Agrees Outs (scattered n Body s k item (cond b (Ok (value_in s.names key)) (Err TooLarge)))
                (cond b (means.gathered (map out_id Outs) (means.each_item Step item place (object_of (value_in s.names key)) 0 r.0)) incomplete)
            by_limit true =
                subst (λ (ys : List Value). Agrees Outs (flow.gathered n (each_item Body s k item 0 ys)) (means.gathered (map out_id Outs) (means.each_item Step item place (object_of (value_in s.names key)) 0 r.0)))
                (sym (ap items_at r.1))
                (gathered_agrees n (body_links ds) (each_item Body s k item 0 r.0) (means.each_item Step item place (object_of (value_in s.names key)) 0 r.0) is.keys
                (elements_agree (value_in s.names key) 0 r.0 items_fit r.2))
            by_limit false = record { clean = refl; jobs = λ h. absurd (false≢true h); given = λ h. absurd (false≢true h) }

  pub scatter_simulates : Simulates g structs bounds scope (scatter_run n Body k item e) (scatter_draft k item e ds)
  scatter_simulates = record { own = scatter_own; agrees = scatter_agrees }
