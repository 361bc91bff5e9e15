-- The input object that is written for inputs that fit reads as these inputs.
use Rattle.std.proofs.Common.{◌≡◌, ℕ, suc, Bool, true, false, not, cond, ◌&&◌, ◌||◌, List, [], ◌∷◌, ◌++◌, map, Option, Some, None, option_map, option_and_then, Contains, Ordering, Less, Equal, Greater, nat_cmp, ◌⊎◌, inl, inr, sym, ap, ◌∙◌, subst, refl}
use Rattle.std.specs.Cmp.Lexicographic.{slice_cmp}
use Rattle.std.specs.List.{list_all, slice_get}
use Rattle.std.specs.Ordering.{match_ordering}
use Rattle.std.specs.Str.{bytes_eq}
use Rattle.std.proofs.lemmas.Bool.{false≢true, and_from, and_parts, or_left, or_parts, or_right, not-true}
use Rattle.std.proofs.lemmas.Slice.Eq.{bytes_eq-Decides}
use Rattle.serde_json.specs.Data.{Data, Members, no_members, member, put}
use Rattle.serde_json.specs.Find.{get_member}
use Rattle.serde_json.proofs.Views.{get_member-put, get_member-put_other}
use Rattle.wdl_base.specs.declared.name.Key.{Key}
use Rattle.wdl_value.specs.declared.env.Bind.{Bind}
use Rattle.wdl_value.specs.declared.value.Value.{Value}
use Rattle.wdl_value.specs.Fits.{Structs, fits}
use Rattle.wdl_value.specs.Limits.{is_within}
use Rattle.wdl_typed.specs.declared.flow.FlowDef.{FlowDef}
use Rattle.wdl_typed.specs.declared.task.TInput.{TInput}
use Rattle.wdl_typed.specs.Bodies.{Library}
use Rattle.wdl_typed.specs.Declarations.{input_names, inputs_bound, plain_key}
use Rattle.wdl_typed.specs.Journal.{bind_fits, inputs_fit, is_given, keys, keys_distinct, value_fits}
use Rattle.wdl_typed.specs.Kept.{flow_typed}
use Rattle.wdl_typed.specs.Lists.{are_distinct}
use Rattle.wdl_typed.specs.Scope.{is_among, lookup, same_key}
use Rattle.wdl_names.proofs.FreshLemmas.{fresh-distinct}
use Rattle.flow_soundness.proofs.FlowSound.{is_typed}
use Rattle.flow_laws.proofs.Checked.{kept as kept_by}
use Rattle.json_values.specs.Ordered.{members_ordered}
use Rattle.json_values.proofs.OrderLemmas.{put_ordered}
use Rattle.cwl_model.specs.declared.process.Process.{Process}
use Rattle.cwl_model.specs.declared.process.Process.TheVariants as process
use Rattle.cwl_model.specs.declared.tool.CwlIn.{CwlIn}
use Rattle.cwl_model.specs.Means.{Named, has_type, named, value_at}
use Rattle.cwl_model.proofs.Rounds.{first_is, first_or_later, later_is, none_is, or_else}
use Rattle.cwl_image.specs.Image.{cwl_in, flow_at as flow_process_at, flow_image, image, target_by, type_of}
use Rattle.cwl_image.specs.Subset.{broken_in, called_broken, flow_at, flow_broken, reached, target_broken}
use Rattle.cwl_emit.specs.Objects.{object_json, value_object, with_given}
use Rattle.cwl_laws.specs.Premises.{AreInputs}
use Rattle.cwl_laws.specs.Simulation.{object_of}
use Rattle.cwl_laws.proofs.Flows.{flow_rules, or_nothing as or_none}
use Rattle.cwl_laws.proofs.Tools.{both_empty, inputs_are}
use Rattle.cwl_laws.proofs.Whole.{bind_plain, given_fits, object_same, nothing_broken}
use Rattle.cwl_formed.specs.Given.{IsObject, ObjectsStand}
use Rattle.cwl_formed.specs.Objects.{are_ids, in_order, input_in, inputs_at, inputs_in, inputs_of, is_id, object_in, under_id}
use Rattle.cwl_formed.proofs.Values.{value_back, value_ordered}
use Rattle.wdl_base.proofs.Options.{all_at}
use Rattle.wdl_flow.proofs.MarkLemmas.{same_key-true as key_same}

-- ---- members that are put

put_known : (is : List CwlIn) (k : List ℕ) (d : Data) (ms : Members) → is_id is k ≡ true → are_ids is ms ≡ true → are_ids is (put k d ms) ≡ true
put_known is k d no_members h g = and_from (is_id is k) true h refl
put_known is k d (member l e ms) h g =
    let p = and_parts (is_id is l) (are_ids is ms) g in
    by_order (slice_cmp nat_cmp k l) p.0 p.1 (put_known is k d ms h p.1)
  where
    by_order : (o : Ordering) → is_id is l ≡ true → are_ids is ms ≡ true → are_ids is (put k d ms) ≡ true
        → are_ids is (match_ordering o (member k d (member l e ms)) (member l d ms) (member l e (put k d ms))) ≡ true
    by_order Less a b c = and_from (is_id is k) (is_id is l && are_ids is ms) h (and_from (is_id is l) (are_ids is ms) a b)
    by_order Equal a b c = and_from (is_id is l) (are_ids is ms) a b
    by_order Greater a b c = and_from (is_id is l) (are_ids is (put k d ms)) a c

given_ordered : (given : List Bind) (ms : Members) → members_ordered ms ≡ true → members_ordered (with_given given ms) ≡ true
given_ordered [] ms h = h
given_ordered (b ∷ bs) ms h = given_ordered bs (put b.key.first (value_object b.value) ms) (put_ordered b.key.first (value_object b.value) ms (value_ordered b.value) h)

not_among : (bs : List Bind) (key : Key) → is_among key (keys bs) ≡ false → lookup bs key ≡ None
not_among [] key h = refl
not_among (b ∷ bs) key h =
    let p = or_parts (same_key b.key key) (is_among key (keys bs)) h in
    ap (λ w. cond w (Some b.value) (lookup bs key)) p.0 ∙ not_among bs key p.1

module _ (structs : Structs) (all : List TInput) where
  abbrev Fit : List Bind → Type 0
  Fit given = list_all (bind_fits structs all) given ≡ true

  -- a key that is given stands for an input
  bind_known : (is : List TInput) (b : Bind) → bind_fits structs is b ≡ true → is_id (map cwl_in is) b.key.first ≡ true
  bind_known [] b h = absurd (false≢true h)
  bind_known (i ∷ is) b h = by_test (same_key b.key (plain_key i.name)) refl h (bind_known is b)
    where
      by_test : (w : Bool) → same_key b.key (plain_key i.name) ≡ w → cond w (value_fits structs i.ty b.value) (bind_fits structs is b) ≡ true → (bind_fits structs is b ≡ true → is_id (map cwl_in is) b.key.first ≡ true)
          → bytes_eq i.name b.key.first || is_id (map cwl_in is) b.key.first ≡ true
      by_test true e q rest =
          or_left (bytes_eq i.name b.key.first) (is_id (map cwl_in is) b.key.first) ((bytes_eq-Decides i.name b.key.first).1 (ap (λ (k : Key). k.first) (sym (key_same b.key (plain_key i.name) e))))
      by_test false e q rest = or_right (bytes_eq i.name b.key.first) (is_id (map cwl_in is) b.key.first) (rest q)

  given_known : (given : List Bind) (ms : Members) → Fit given → are_ids (map cwl_in all) ms ≡ true → are_ids (map cwl_in all) (with_given given ms) ≡ true
  given_known [] ms f h = h
  given_known (b ∷ bs) ms f h =
      let p = and_parts (bind_fits structs all b) (list_all (bind_fits structs all) bs) f in
      given_known bs (put b.key.first (value_object b.value) ms) p.1 (put_known (map cwl_in all) b.key.first (value_object b.value) ms (bind_known all b p.0) h)

  -- A key that is given first is not given later.
  given_once : (b : Bind) (bs : List Bind) → bind_fits structs all b ≡ true → Fit bs → is_among b.key (keys bs) ≡ false → value_at (object_of bs) b.key.first ≡ None
  given_once b bs own f h =
      let plain : b.key ≡ plain_key b.key.first = ap (λ (s : Option (List ℕ)). record { first = b.key.first; second = s }) (bind_plain structs all b own) in
      sym (object_same structs all bs f b.key.first) ∙ ap (lookup bs) (sym plain) ∙ not_among bs b.key h

  -- Each given input has its member, and other members stay as they are.
  given_got : (given : List Bind) (ms : Members) (k : List ℕ) → Fit given → keys_distinct (keys given) ≡ true
      → get_member k (with_given given ms) ≡ or_else (option_map value_object (value_at (object_of given) k)) (get_member k ms)
  given_got [] ms k f d = refl
  given_got (b ∷ bs) ms k f d =
      let p = and_parts (bind_fits structs all b) (list_all (bind_fits structs all) bs) f in
      let q = and_parts (not (is_among b.key (keys bs))) (keys_distinct (keys bs)) d in
      given_got bs (put b.key.first (value_object b.value) ms) k p.1 q.1 ∙ by_test (given_once b bs p.0 p.1 (not-true (is_among b.key (keys bs)) q.0)) (bytes_eq b.key.first k) refl
    where
      later : Option Value
      later = value_at (object_of bs) k

      by_test : value_at (object_of bs) b.key.first ≡ None → (w : Bool) → bytes_eq b.key.first k ≡ w
          → or_else (option_map value_object later) (get_member k (put b.key.first (value_object b.value) ms)) ≡ or_else (option_map value_object (cond w (Some b.value) later)) (get_member k ms)
      by_test once true e =
          let same = (bytes_eq-Decides b.key.first k).0 e in
          ap (λ o. or_else (option_map value_object o) (get_member k (put b.key.first (value_object b.value) ms))) (ap (value_at (object_of bs)) (sym same) ∙ once)
          ∙ ap (λ n. get_member n (put b.key.first (value_object b.value) ms)) (sym same) ∙ get_member-put b.key.first (value_object b.value) ms
      by_test once false e =
          ap (or_else (option_map value_object later))
          (get_member-put_other k b.key.first (value_object b.value) ms (λ s. false≢true (sym e ∙ (bytes_eq-Decides b.key.first k).1 (sym s))))

-- ---- inputs

module _ (ns : List Named) (ms : Members) where
  -- the member of an input has its value, which is of its type
  pub record IsWritten (i : TInput) : Type 0 where
    pub got : get_member i.name ms ≡ option_map value_object (value_at ns i.name)
    pub typed : (x : Value) → value_at ns i.name ≡ Some x → has_type (type_of i.ty) x ≡ true

  input_back : (i : TInput) → IsWritten i → input_in (cwl_in i) (get_member i.name ms) ≡ Some (under_id (cwl_in i) (value_at ns i.name))
  input_back i w = ap (input_in (cwl_in i)) w.got ∙ by_value (value_at ns i.name) w.typed
    where
      by_value : (o : Option Value) → ((x : Value) → o ≡ Some x → has_type (type_of i.ty) x ≡ true) → input_in (cwl_in i) (option_map value_object o) ≡ Some (under_id (cwl_in i) o)
      by_value None t = refl
      by_value (Some x) t = ap (option_map (λ y. named i.name y ∷ [])) (value_back (type_of i.ty) x (t x refl))

  inputs_back : (is : List TInput) → ((i : TInput) → Contains is i → IsWritten i) → inputs_in (map cwl_in is) ms ≡ Some (in_order (map cwl_in is) ns)
  inputs_back [] h = refl
  inputs_back (i ∷ is) h =
      ap (option_and_then (λ (first : List Named). option_map (λ more. first ++ more) (inputs_in (map cwl_in is) ms))) (input_back i (h i (first_is i is)))
      ∙ ap (option_map (λ more. under_id (cwl_in i) (value_at ns i.name) ++ more)) (inputs_back is (λ j c. h j (later_is i is j c)))

-- ---- the values in the order of the inputs

module _ (ns : List Named) (id : List ℕ) where
  abbrev here : CwlIn → List CwlIn → Option Value → Option Value
  here i is o = value_at (under_id i o ++ in_order is ns) id

  order_none : (is : List CwlIn) → is_id is id ≡ false → value_at (in_order is ns) id ≡ None
  order_none [] h = refl
  order_none (i ∷ is) h = let p = or_parts (bytes_eq i.id id) (is_id is id) h in by_value (value_at ns i.id) p.0 (order_none is p.1)
    where
      by_value : (o : Option Value) → bytes_eq i.id id ≡ false → value_at (in_order is ns) id ≡ None → here i is o ≡ None
      by_value None e rest = rest
      by_value (Some x) e rest = ap (λ w. cond w (Some x) (value_at (in_order is ns) id)) e ∙ rest

  abbrev Later : List CwlIn → Type 0
  Later is = is_id is id ≡ true → value_at (in_order is ns) id ≡ value_at ns id

  order_some : (is : List CwlIn) → is_id is id ≡ true → value_at (in_order is ns) id ≡ value_at ns id
  order_some [] h = absurd (false≢true h)
  order_some (i ∷ is) h = by_value (order_some is) (value_at ns i.id) refl (bytes_eq i.id id) refl h (is_id is id) refl
    where
      found : Later is → (w : Bool) → is_id is id ≡ w → (w ≡ false → value_at ns id ≡ None) → value_at (in_order is ns) id ≡ value_at ns id
      found later true e none = later e
      found later false e none = order_none is e ∙ sym (none refl)

      by_value : Later is → (o : Option Value) → value_at ns i.id ≡ o → (w : Bool) → bytes_eq i.id id ≡ w → w || is_id is id ≡ true → (u : Bool) → is_id is id ≡ u → here i is o ≡ value_at ns id
      by_value later None v true e k u q = found later u q (λ s. ap (value_at ns) (sym ((bytes_eq-Decides i.id id).0 e)) ∙ v)
      by_value later None v false e k u q = later k
      by_value later (Some x) v true e k u q = ap (λ w. cond w (Some x) (value_at (in_order is ns) id)) e ∙ sym v ∙ ap (value_at ns) ((bytes_eq-Decides i.id id).0 e)
      by_value later (Some x) v false e k u q = ap (λ w. cond w (Some x) (value_at (in_order is ns) id)) e ∙ later k

module _ (structs : Structs) (all : List TInput) (id : List ℕ) where
  none_given : (given : List Bind) → list_all (bind_fits structs all) given ≡ true → is_id (map cwl_in all) id ≡ false → value_at (object_of given) id ≡ None
  none_given [] f h = refl
  none_given (b ∷ bs) f h =
      let p = and_parts (bind_fits structs all b) (list_all (bind_fits structs all) bs) f in
      by_test (bytes_eq b.key.first id) refl (bind_known structs all all b p.0) (none_given bs p.1 h)
    where
      by_test : (w : Bool) → bytes_eq b.key.first id ≡ w → is_id (map cwl_in all) b.key.first ≡ true → value_at (object_of bs) id ≡ None → cond w (Some b.value) (value_at (object_of bs) id) ≡ None
      by_test true e own rest = absurd (false≢true (sym h ∙ ap (is_id (map cwl_in all)) (sym ((bytes_eq-Decides b.key.first id).0 e)) ∙ own))
      by_test false e own rest = rest

  order_same : (given : List Bind) → list_all (bind_fits structs all) given ≡ true → value_at (in_order (map cwl_in all) (object_of given)) id ≡ value_at (object_of given) id
  order_same given f = by_test (is_id (map cwl_in all) id) refl
    where
      by_test : (w : Bool) → is_id (map cwl_in all) id ≡ w → value_at (in_order (map cwl_in all) (object_of given)) id ≡ value_at (object_of given) id
      by_test true e = order_some (object_of given) id (map cwl_in all) e
      by_test false e = order_none (object_of given) id (map cwl_in all) e ∙ sym (none_given given f e)

-- ---- the whole

-- What fits an input of the subset is of its CWL type.
input_typed : (structs : Structs) (is : List TInput) → AreInputs structs is → (i : TInput) → Contains is i → (x : Value) → fits structs x i.ty ≡ true → has_type (type_of i.ty) x ≡ true
input_typed structs [] h i c = absurd (none_is i c)
input_typed structs (j ∷ is) h i c = by_case (first_or_later j is i c) (input_typed structs is h.1 i)
  where
    by_case : (j ≡ i) ⊎ Contains is i → (Contains is i → (x : Value) → fits structs x i.ty ≡ true → has_type (type_of i.ty) x ≡ true) → (x : Value) → fits structs x i.ty ≡ true → has_type (type_of i.ty) x ≡ true
    by_case (inl e) rest = subst (λ (k : TInput). (x : Value) → fits structs x k.ty ≡ true → has_type (type_of k.ty) x ≡ true) e h.0.typed
    by_case (inr d) rest = rest d

-- The main workflow breaks no rule.
main_kept : (lib : Library) (depth main : ℕ) (f : FlowDef) → slice_get lib.flows main ≡ Some f → reached lib (suc depth) main ≡ [] → flow_broken lib f ≡ []
unfolding reached
main_kept lib depth main f there h =
    (both_empty (flow_broken lib f) (called_broken (target_broken lib (reached lib depth)) f.body) (sym (ap (flow_at lib (reached lib depth)) there) ∙ h)).0

pub main_inputs : (lib : Library) (depth main : ℕ) (f : FlowDef) → slice_get lib.flows main ≡ Some f → inputs_of (flow_image lib (suc depth) main) ≡ map cwl_in f.inputs
main_inputs lib depth main f there = ap (λ (o : Option FlowDef). inputs_of (flow_process_at lib (target_by lib (flow_image lib depth)) o)) there ∙ ap inputs_at (process.outs-Flow _)

-- of a process with these inputs
module _ (p : Process) (structs : Structs) (is : List TInput) (is_inputs : inputs_of p ≡ map cwl_in is) (kept : AreInputs structs is) (differ : are_distinct (input_names is) ≡ true) where
  object_back : (given : List Bind) → inputs_fit structs is given ≡ true → IsObject p (object_of given) (object_json given)
  object_back given fit =
      let a = and_parts (keys_distinct (keys given) && list_all (bind_fits structs is) given) (list_all (is_given given) is) fit in
      let b = and_parts (keys_distinct (keys given)) (list_all (bind_fits structs is) given) a.0 in
      let ms = with_given given no_members in
      let ins = map cwl_in is in
      let written : (i : TInput) → Contains is i → IsWritten (object_of given) ms i =
      λ i c. is_written i c given b.1 (given_got structs is given no_members i.name b.1 b.0 ∙ or_none (option_map value_object (value_at (object_of given) i.name))) in
      record {
        ordered = given_ordered given no_members refl;
        reads =
            ap (λ js. object_in js (object_json given)) is_inputs ∙ ap (λ w. cond w (inputs_in ins ms) None) (given_known structs is given no_members b.1 refl)
            ∙ inputs_back (object_of given) ms is written ∙ ap (λ js. Some (in_order js (object_of given))) (sym is_inputs);
        same = λ id. ap (λ js. value_at (in_order js (object_of given)) id) is_inputs ∙ order_same structs is id given b.1;
      }
    where
      is_written : (i : TInput) → Contains is i → (given : List Bind) → list_all (bind_fits structs is) given ≡ true
          → get_member i.name (with_given given no_members) ≡ option_map value_object (value_at (object_of given) i.name) → IsWritten (object_of given) (with_given given no_members) i
      is_written i c given f got =
          record {
            got = got;
            typed = λ x e. input_typed structs is kept i c x (and_parts (fits structs x i.ty) (is_within x) (given_fits structs is i given differ c f x (object_same structs is given f i.name ∙ e))).0;
          }

pub objects_stand : ObjectsStand
objects_stand lib main f given checked subset there fit =
    let t = is_typed lib f (all_at (flow_typed lib) lib.flows main f (kept_by lib (Some main) checked).flows there) in
    let rules = flow_rules lib f (main_kept lib 24 main f there (nothing_broken (broken_in lib main) subset)) in
    object_back (image lib main) lib.structs f.inputs (main_inputs lib 24 main f there) (inputs_are lib.structs [] (inputs_bound f.inputs) f.inputs t.inputs_are rules.inputs)
    (sym (fresh-distinct (input_names f.inputs)) ∙ t.inputs_new) given fit
