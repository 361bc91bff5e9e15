-- What is given for the inputs of a lowered workflow.
use Rattle.std.proofs.Common.{◌≡◌, ℕ, ◌⊎◌, inl, inr, Bool, true, false, cond, not, ◌&&◌, ◌||◌, List, [], ◌∷◌, ◌++◌, map, Option, Some, None, is_none, option_and_then, option_map, Contains, sym, ap, ◌∙◌, subst, refl}
use Rattle.std.specs.List.{list_all}
use Rattle.std.specs.Str.{bytes_eq}
use Rattle.std.proofs.lemmas.Bool.{false≢true, and_from, and_parts, or_parts, not-true}
use Rattle.std.proofs.lemmas.Option.{none-some, same_Some}
use Rattle.wdl_value.specs.declared.env.Bind.{Bind}
use Rattle.wdl_value.specs.declared.ty.Ty.{Ty, Ty-F, out-Ty}
use Rattle.wdl_value.specs.declared.ty.Ty.TheOpen as type
use Rattle.wdl_value.specs.declared.value.Value.{Value}
use Rattle.wdl_value.specs.Bare.{is_optional}
use Rattle.wdl_value.specs.Fits.{Structs, fits}
use Rattle.wdl_value.specs.Limits.{is_within}
use Rattle.wdl_typed.specs.declared.expr.TExpr.{TExpr}
use Rattle.wdl_typed.specs.declared.flow.FlowDef.{FlowDef}
use Rattle.wdl_typed.specs.declared.task.TInput.{TInput}
use Rattle.wdl_typed.specs.Bodies.{all_declared, is_required}
use Rattle.wdl_typed.specs.Declarations.{decl_names, input_names, plain_key}
use Rattle.wdl_typed.specs.Journal.{bind_fits, inputs_fit, is_given, keys, keys_distinct, value_fits}
use Rattle.wdl_typed.specs.Kept.{flow_names}
use Rattle.wdl_typed.specs.KnownTypes.{are_structs, is_some}
use Rattle.wdl_typed.specs.Lists.{are_distinct, has_name}
use Rattle.wdl_typed.specs.Scope.{is_among, lookup, same_key}
use Rattle.cwl_model.proofs.Rounds.{first_is, first_or_later, later_is, none_is}
use Rattle.cwl_laws.proofs.Inputs.{name_apart}
use Rattle.cwl_laws.proofs.Whole.{given_fits}
use Rattle.leaf_image.specs.declared.leaf.Leaf.{Leaf}
use Rattle.leaf_image.specs.declared.leaf.Place.{Place}
use Rattle.leaf_image.specs.Leaves.{is_record, is_small, is_struct, items_of, leaves_of, named, places_of, taken_by}
use Rattle.leaf_image.specs.Records.{all_inputs, leaf_input, swaps_of}
use Rattle.wdl_swaps.specs.Swaps.{swapped}
use Rattle.cwl_records.specs.declared.leaf.RecordLeaf.{RecordLeaf}
use Rattle.cwl_records.specs.Lowered.{record_leaf}
use Rattle.cwl_records.specs.Wide.{through}
use Rattle.cwl_records.specs.Wrapping.{leaf_named}
use Rattle.wide_formed.specs.Forms.{bind_of, leaf_value, lowered_given}
use Rattle.wide_formed.proofs.Elements.{apart, mapped, on_left, same_bytes}
use Rattle.wide_formed.proofs.Naming.{IsFrom, IsPlace, are_named, comes_from, leafy, of_one, place_among, place_of, plain}
use Rattle.wide_formed.proofs.Paths.{all_at, reached}
use Rattle.flow_soundness.proofs.Args.{differ as turned}
use Rattle.wdl_stdlib.proofs.Keys.{bytes_eq-refl as bytes_same}

-- ---- inputs

-- Inputs of one name in a list of different names are one.
pub same_input : (is : List TInput) (i j : TInput) → are_distinct (input_names is) ≡ true → Contains is i → Contains is j → i.name ≡ j.name → i ≡ j
same_input [] i j d a b e = absurd (none_is i a)
same_input (k ∷ is) i j d a b e =
    let p = and_parts (not (has_name k.name (input_names is))) (are_distinct (input_names is)) d in
    by_case p.0 (first_or_later k is i a) (first_or_later k is j b) (λ x y. same_input is i j p.1 x y e)
  where
    clash : not (has_name k.name (input_names is)) ≡ true → (z : TInput) → Contains is z → k.name ≡ z.name → ⊥
    clash new z c q = false≢true (sym (name_apart k is new z c) ∙ subst (λ n. bytes_eq k.name n ≡ true) q (bytes_same k.name))

    by_case : not (has_name k.name (input_names is)) ≡ true → (k ≡ i) ⊎ Contains is i → (k ≡ j) ⊎ Contains is j → (Contains is i → Contains is j → i ≡ j) → i ≡ j
    by_case new (inl x) (inl y) rest = sym x ∙ y
    by_case new (inl x) (inr y) rest = absurd (clash new j y (ap (λ (z : TInput). z.name) x ∙ e))
    by_case new (inr x) (inl y) rest = absurd (clash new i x (ap (λ (z : TInput). z.name) y ∙ sym e))
    by_case new (inr x) (inr y) rest = rest x y

-- a struct input is of a struct type and has no default
pub record IsStructInput (i : TInput) : Type 0 where
  pub name : List ℕ
  pub is : out-Ty i.ty ≡ type.Struct name
  pub bare : i.value ≡ None

pub struct_input : (i : TInput) → is_record i ≡ true → IsStructInput i
struct_input i h =
    let p = and_parts (is_none i.value) (is_struct (out-Ty i.ty)) h in
    let s = by_layer (out-Ty i.ty) refl p.1 in
    record { name = s.0; is = s.1; bare = by_value i.value p.0 }
  where
    by_layer : (z : Ty-F Ty) → out-Ty i.ty ≡ z → is_struct z ≡ true → (s : List ℕ) × (out-Ty i.ty ≡ type.Struct s)
    by_layer (type.Struct s) e q = (s, e)
    by_layer z e q = absurd (false≢true q)

    by_value : (o : Option TExpr) → is_none o ≡ true → o ≡ None
    by_value None q = refl
    by_value (Some x) q = absurd (false≢true q)

-- what is given for an input fits it, or nothing has to be given
pub record IsTakenFor (structs : Structs) (i : TInput) (o : Option Value) : Type 0 where
  pub fit : (x : Value) → o ≡ Some x → value_fits structs i.ty x ≡ true
  pub left : o ≡ None → is_required i ≡ false

-- ---- lists of what is given

module _ (structs : Structs) (records : List RecordLeaf) (given : List Bind) where
  abbrev pub value_for : TInput → Option Value
  value_for i = leaf_value given i.name (leaf_named records i.name)

  abbrev now : List TInput → List Bind
  now is = lowered_given records given is

  plain_apart : (i : TInput) (n : List ℕ) → bytes_eq i.name n ≡ false → same_key (plain_key i.name) (plain_key n) ≡ false
  plain_apart i n h = ap (λ b. b && true) h

  not_given : (is : List TInput) (n : List ℕ) → has_name n (input_names is) ≡ false → is_among (plain_key n) (keys (now is)) ≡ false
  not_given [] n h = refl
  not_given (i ∷ is) n h = let p = or_parts (bytes_eq i.name n) (has_name n (input_names is)) h in by_value (value_for i) (plain_apart i n p.0) (not_given is n p.1)
    where
      by_value : (o : Option Value) → same_key (plain_key i.name) (plain_key n) ≡ false → is_among (plain_key n) (keys (now is)) ≡ false → is_among (plain_key n) (keys (bind_of i.name o ++ now is)) ≡ false
      by_value None e rest = rest
      by_value (Some x) e rest = ap (λ b. b || is_among (plain_key n) (keys (now is))) e ∙ rest

  keys_differ : (is : List TInput) → are_distinct (input_names is) ≡ true → keys_distinct (keys (now is)) ≡ true
  keys_differ [] d = refl
  keys_differ (i ∷ is) d =
      let p = and_parts (not (has_name i.name (input_names is))) (are_distinct (input_names is)) d in
      by_value (value_for i) (not_given is i.name (not-true (has_name i.name (input_names is)) p.0)) (keys_differ is p.1)
    where
      by_value : (o : Option Value) → is_among (plain_key i.name) (keys (now is)) ≡ false → keys_distinct (keys (now is)) ≡ true → keys_distinct (keys (bind_of i.name o ++ now is)) ≡ true
      by_value None e rest = rest
      by_value (Some x) e rest = ap (λ b. not b && keys_distinct (keys (now is))) e ∙ rest

  -- what is looked up
  not_found : (is : List TInput) (n : List ℕ) → has_name n (input_names is) ≡ false → lookup (now is) (plain_key n) ≡ None
  not_found [] n h = refl
  not_found (i ∷ is) n h = let p = or_parts (bytes_eq i.name n) (has_name n (input_names is)) h in by_value (value_for i) (plain_apart i n p.0) (not_found is n p.1)
    where
      by_value : (o : Option Value) → same_key (plain_key i.name) (plain_key n) ≡ false → lookup (now is) (plain_key n) ≡ None → lookup (bind_of i.name o ++ now is) (plain_key n) ≡ None
      by_value None e rest = rest
      by_value (Some x) e rest = ap (λ b. cond b (Some x) (lookup (now is) (plain_key n))) e ∙ rest

  pub found : (is : List TInput) → are_distinct (input_names is) ≡ true → (i : TInput) → Contains is i → lookup (now is) (plain_key i.name) ≡ value_for i
  found [] d i c = absurd (none_is i c)
  found (j ∷ is) d i c =
      let p = and_parts (not (has_name j.name (input_names is))) (are_distinct (input_names is)) d in
      by_case p.0 (first_or_later j is i c) (found is p.1 i)
    where
      here : (o : Option Value) → lookup (now is) (plain_key j.name) ≡ None → lookup (bind_of j.name o ++ now is) (plain_key j.name) ≡ o
      here None e = e
      here (Some x) e = ap (λ b. cond (b && true) (Some x) (lookup (now is) (plain_key j.name))) (bytes_same j.name)

      there : (o : Option Value) → same_key (plain_key j.name) (plain_key i.name) ≡ false → lookup (bind_of j.name o ++ now is) (plain_key i.name) ≡ lookup (now is) (plain_key i.name)
      there None e = refl
      there (Some x) e = ap (λ b. cond b (Some x) (lookup (now is) (plain_key i.name))) e

      by_case : not (has_name j.name (input_names is)) ≡ true → (j ≡ i) ⊎ Contains is i → (Contains is i → lookup (now is) (plain_key i.name) ≡ value_for i) → lookup (now (j ∷ is)) (plain_key i.name) ≡ value_for i
      by_case new (inl e) rest =
          subst (λ (z : TInput). lookup (now (j ∷ is)) (plain_key z.name) ≡ value_for z) e (here (value_for j) (not_found is j.name (not-true (has_name j.name (input_names is)) new)))
      by_case new (inr q) rest = there (value_for j) (plain_apart j i.name (name_apart j is new i q)) ∙ rest q

  -- each value fits its input
  bind_found : (all : List TInput) → are_distinct (input_names all) ≡ true → (i : TInput) → Contains all i → (x : Value)
      → bind_fits structs all (record { key = plain_key i.name; value = x }) ≡ value_fits structs i.ty x
  bind_found [] d i c x = absurd (none_is i c)
  bind_found (j ∷ all) d i c x =
      let p = and_parts (not (has_name j.name (input_names all))) (are_distinct (input_names all)) d in
      by_case p.0 (first_or_later j all i c) (λ q. bind_found all p.1 i q x)
    where
      by_case : not (has_name j.name (input_names all)) ≡ true → (j ≡ i) ⊎ Contains all i → (Contains all i → bind_fits structs all (record { key = plain_key i.name; value = x }) ≡ value_fits structs i.ty x)
          → bind_fits structs (j ∷ all) (record { key = plain_key i.name; value = x }) ≡ value_fits structs i.ty x
      by_case new (inl e) rest =
          subst (λ (z : TInput). bind_fits structs (j ∷ all) (record { key = plain_key z.name; value = x }) ≡ value_fits structs z.ty x) e
          (ap (λ b. cond (b && true) (value_fits structs j.ty x) (bind_fits structs all (record { key = plain_key j.name; value = x }))) (bytes_same j.name))
      by_case new (inr q) rest =
          ap (λ b. cond (b && true) (value_fits structs j.ty x) (bind_fits structs all (record { key = plain_key i.name; value = x }))) (turned j.name i.name (name_apart j all new i q)) ∙ rest q

  all_bound : (all : List TInput) → are_distinct (input_names all) ≡ true → (is : List TInput) → ((i : TInput) → Contains is i → Contains all i) → ((i : TInput) → Contains is i → IsTakenFor structs i (value_for i))
      → list_all (bind_fits structs all) (now is) ≡ true
  all_bound all d [] within h = refl
  all_bound all d (i ∷ is) within h =
      by_value (value_for i) refl (h i (first_is i is)) (all_bound all d is (λ j c. within j (later_is i is j c)) (λ j c. h j (later_is i is j c)))
    where
      by_value : (o : Option Value) → value_for i ≡ o → IsTakenFor structs i (value_for i) → list_all (bind_fits structs all) (now is) ≡ true → list_all (bind_fits structs all) (bind_of i.name o ++ now is) ≡ true
      by_value None e t rest = rest
      by_value (Some x) e t rest =
          and_from (bind_fits structs all (record { key = plain_key i.name; value = x })) (list_all (bind_fits structs all) (now is))
          (bind_found all d i (within i (first_is i is)) x ∙ t.fit x e) rest

  all_met : (all : List TInput) → are_distinct (input_names all) ≡ true → (is : List TInput) → ((i : TInput) → Contains is i → Contains all i) → ((i : TInput) → Contains is i → IsTakenFor structs i (value_for i))
      → list_all (is_given (now all)) is ≡ true
  all_met all d [] within h = refl
  all_met all d (i ∷ is) within h =
      and_from (is_given (now all) i) (list_all (is_given (now all)) is) (own (value_for i) refl (h i (first_is i is)))
      (all_met all d is (λ j c. within j (later_is i is j c)) (λ j c. h j (later_is i is j c)))
    where
      own : (o : Option Value) → value_for i ≡ o → IsTakenFor structs i (value_for i) → (not (is_required i) || is_some (lookup (now all) (plain_key i.name))) ≡ true
      own None e t = ap (λ b. not b || is_some (lookup (now all) (plain_key i.name))) (t.left e)
      own (Some x) e t = ap (λ w. not (is_required i) || is_some w) (found all d i (within i (first_is i is)) ∙ e) ∙ or_true (not (is_required i))
        where
          or_true : (b : Bool) → (b || true) ≡ true
          or_true true = refl
          or_true false = refl

  -- The list fits the inputs.
  pub given_fit : (is : List TInput) → are_distinct (input_names is) ≡ true → ((i : TInput) → Contains is i → IsTakenFor structs i (value_for i)) → inputs_fit structs is (now is) ≡ true
  given_fit is d h =
      and_from (keys_distinct (keys (now is)) && list_all (bind_fits structs is) (now is)) (list_all (is_given (now is)) is)
      (and_from (keys_distinct (keys (now is))) (list_all (bind_fits structs is) (now is)) (keys_differ is d) (all_bound is d is (λ i c. c) h)) (all_met is d is (λ i c. c) h)

-- ---- what is given for an input of the form as it was

module _ (structs : Structs) (is : List TInput) (given : List Bind) (differ : are_distinct (input_names is) ≡ true) (fit : inputs_fit structs is given ≡ true) where
  abbrev fit_parts : (keys_distinct (keys given) && list_all (bind_fits structs is) given ≡ true) × (list_all (is_given given) is ≡ true)
  fit_parts = and_parts (keys_distinct (keys given) && list_all (bind_fits structs is) given) (list_all (is_given given) is) fit

  pub binds : list_all (bind_fits structs is) given ≡ true
  binds = (and_parts (keys_distinct (keys given)) (list_all (bind_fits structs is) given) fit_parts.0).1

  pub taken_for : (i : TInput) → Contains is i → IsTakenFor structs i (lookup given (plain_key i.name))
  taken_for i c =
      record {
        fit = given_fits structs is i given differ c binds;
        left = λ e. needed (is_required i) (lookup given (plain_key i.name)) (all_at (is_given given) is fit_parts.1 i c) e;
      }
    where
      needed : (b : Bool) (o : Option Value) → (not b || is_some o) ≡ true → o ≡ None → b ≡ false
      needed false o h e = refl
      needed true o h e = absurd (false≢true (sym (ap is_some e) ∙ h))

-- ---- leaves

not_leaf : (ls : List Leaf) (n : List ℕ) → ((l : Leaf) → Contains ls l → bytes_eq l.name n ≡ false) → leaf_named (map record_leaf ls) n ≡ None
not_leaf [] n h = refl
not_leaf (l ∷ ls) n h =
    ap (λ b. cond b (Some (record_leaf l)) (leaf_named (map record_leaf ls) n)) (h l (first_is l ls)) ∙ not_leaf ls n (λ k c. h k (later_is l ls k c))

-- the leaves of a workflow have names that are none of its own, and stand for the places of its struct inputs
pub record AreLeaves (structs : Structs) (is : List TInput) (ls : List Leaf) : Type 0 where
  pub places : map place_of ls ≡ places_of structs is
  pub found : (l : Leaf) → Contains ls l → leaf_named (map record_leaf ls) l.name ≡ Some (record_leaf l)
  pub none : (i : TInput) → Contains is i → leaf_named (map record_leaf ls) i.name ≡ None

pub are_leaves : (structs : Structs) (f : FlowDef) (is : List TInput) (ls : List Leaf) → f.inputs ≡ is → leaves_of structs f ≡ Some ls → AreLeaves structs is ls
are_leaves structs f is ls same h =
    let n = are_named (taken_by f) (places_of structs f.inputs) ls (all_small (list_all (is_small structs) f.inputs) h) in
    record {
      places = n.places ∙ ap (places_of structs) same;
      found = n.found;
      none = λ i c. not_leaf ls i.name (λ l d. turned i.name l.name
          (apart (taken_by f) l.name (n.new l d) i.name
          (on_left (flow_names f) (items_of f.body) i.name
          (on_left (input_names f.inputs ++ all_declared f.body) (decl_names f.outputs) i.name
          (on_left (input_names f.inputs) (all_declared f.body) i.name
          (mapped (λ (z : TInput). z.name) f.inputs i (subst (λ (js : List TInput). Contains js i) (sym same) c)))))));
    }
  where
    all_small : (b : Bool) → cond b (named (taken_by f) (places_of structs f.inputs)) None ≡ Some ls → named (taken_by f) (places_of structs f.inputs) ≡ Some ls
    all_small true k = k
    all_small false k = absurd (none-some _ k)

module _ (structs : Structs) (known : are_structs structs ≡ true) (is : List TInput) (given : List Bind) (differ : are_distinct (input_names is) ≡ true) (fit : inputs_fit structs is given ≡ true)
    (ls : List Leaf) (leaves : AreLeaves structs is ls) where
  abbrev records : List RecordLeaf
  records = map record_leaf ls

  -- the value of a struct input
  pub record IsRecordGiven (j : TInput) : Type 0 where
    pub struct : IsStructInput j
    pub value : Value
    pub given_is : lookup given (plain_key j.name) ≡ Some value
    pub fits_it : fits structs value j.ty ≡ true
    pub within : is_within value ≡ true

  pub record_given : (j : TInput) → Contains is j → is_record j ≡ true → IsRecordGiven j
  record_given j c r = by_value (lookup given (plain_key j.name)) refl
    where
      own : IsStructInput j
      own = struct_input j r

      required : is_required j ≡ true
      required = ap (λ o. not (is_some o) && not (is_optional (out-Ty j.ty))) own.bare ∙ ap (λ z. not (is_optional z)) own.is

      by_value : (o : Option Value) → lookup given (plain_key j.name) ≡ o → IsRecordGiven j
      by_value None e = absurd (false≢true (sym ((taken_for structs is given differ fit j c).left e) ∙ required))
      by_value (Some x) e =
          let p = and_parts (fits structs x j.ty) (is_within x) ((taken_for structs is given differ fit j c).fit x e) in
          record { struct = own; value = x; given_is = e; fits_it = p.0; within = p.1 }

  -- the place of a leaf of an input is one of that input
  pub leaf_place : (j : TInput) (l : Leaf) → Contains is j → Contains ls l → bytes_eq l.input j.name ≡ true → IsPlace structs j (place_of l)
  leaf_place j l c d e =
      let p = place_among structs is (place_of l) (subst (λ (ps : List Place). Contains ps (place_of l)) leaves.places (mapped place_of ls l d)) in
      let own = of_one structs p.0.name 33 [] p.0.ty (place_of l) p.2.1 in
      subst (λ (z : TInput). IsPlace structs z (place_of l)) (same_input is p.0 j differ p.1 c (sym own ∙ same_bytes l.input j.name e)) p.2

  -- and its value is there
  pub record IsLeafGiven (j : TInput) (l : Leaf) : Type 0 where
    pub value : Value
    pub got : value_for structs records given (leaf_input j.span l) ≡ Some value
    pub whole : IsRecordGiven j
    pub at : through l.path whole.value ≡ Some value
    pub fits_it : fits structs value l.ty ≡ true
    pub within : is_within value ≡ true

  pub leaf_given : (j : TInput) (l : Leaf) → Contains is j → is_record j ≡ true → Contains ls l → bytes_eq l.input j.name ≡ true → IsLeafGiven j l
  leaf_given j l c r d e =
      let w = record_given j c r in
      let p = leaf_place j l c d e in
      let y = reached structs known j.name 33 [] j.ty w.value w.fits_it (place_of l) p.1 in
      let there : through l.path w.value ≡ Some y.value = ap (λ path. through path w.value) y.whole ∙ y.is in
      record {
        value = y.value;
        got =
            ap (leaf_value given l.name) (leaves.found l d) ∙ ap (λ n. option_and_then (through l.path) (lookup given (plain_key n))) (same_bytes l.input j.name e)
            ∙ ap (option_and_then (through l.path)) w.given_is ∙ there;
        whole = w;
        at = there;
        fits_it = y.fit;
        within = y.within w.within;
      }

  -- What is given for the inputs fits them.
  pub leaves_taken : (i : TInput) → Contains (all_inputs ls is) i → IsTakenFor structs i (value_for structs records given i)
  leaves_taken i c = by_source (comes_from ls is i c)
    where
      by_source : IsFrom ls is i → IsTakenFor structs i (value_for structs records given i)
      by_source (leafy j l a r d e q) =
          let g = leaf_given j l a r d e in
          subst (λ (z : TInput). IsTakenFor structs z (value_for structs records given z)) q
          (record {
            fit = λ x k. subst (λ y. value_fits structs l.ty y ≡ true) (same_Some _ _ (sym g.got ∙ k)) (and_from (fits structs g.value l.ty) (is_within g.value) g.fits_it g.within);
            left = λ k. absurd (none-some _ (sym k ∙ g.got));
          })
      by_source (plain j a r q) =
          let t = taken_for structs is given differ fit j a in
          let same : value_for structs records given j ≡ lookup given (plain_key j.name) = ap (leaf_value given j.name) (leaves.none j a) in
          subst (λ (z : TInput). IsTakenFor structs z (value_for structs records given z)) q
          (record {
            fit = λ x k. t.fit x (sym same ∙ k);
            left = λ k. as_required j.value (t.left (sym same ∙ k));
          })
        where
          as_required : (o : Option TExpr) → not (is_some o) && not (is_optional (out-Ty j.ty)) ≡ false → not (is_some (option_map (swapped (swaps_of ls)) o)) && not (is_optional (out-Ty j.ty)) ≡ false
          as_required None h = h
          as_required (Some x) h = refl
