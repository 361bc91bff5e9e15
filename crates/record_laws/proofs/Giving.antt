-- Inputs that are given, and the same with leaves in the places of struct inputs: what is looked up in both.
use Rattle.std.proofs.Common.{◌≡◌, ℕ, Bool, true, false, cond, not, List, [], ◌∷◌, ◌++◌, Option, Some, None, Ok, Err, sym, ap, ◌∙◌, subst, refl}
use Rattle.std.specs.Str.{bytes_eq}
use Rattle.std.proofs.lemmas.Bool.{not_from_false, not_from_true, or_left, or_right}
use Rattle.std.proofs.lemmas.Option.{same_Some}
use Rattle.wdl_base.specs.declared.name.Key.{Key}
use Rattle.wdl_value.specs.declared.env.Bind.{Bind}
use Rattle.wdl_value.specs.declared.ty.Ty.{Ty}
use Rattle.wdl_value.specs.declared.value.Value.{Value}
use Rattle.wdl_value.specs.Fits.{Structs, fits}
use Rattle.wdl_value.specs.Limits.{is_within}
use Rattle.wdl_typed.specs.declared.task.TInput.{TInput}
use Rattle.wdl_typed.specs.Bodies.{input_type}
use Rattle.wdl_typed.specs.Declarations.{plain_key}
use Rattle.wdl_typed.specs.Evaluation.{Met}
use Rattle.wdl_typed.specs.Flow.{arg_bind}
use Rattle.wdl_typed.specs.Lists.{are_distinct, has_name}
use Rattle.wdl_typed.specs.Scope.{lookup, same_key}
use Rattle.leaf_image.specs.declared.leaf.Leaf.{Leaf}
use Rattle.leaf_image.specs.Inside.{Each}
use Rattle.leaf_image.specs.Leaves.{or_else}
use Rattle.leaf_image.specs.Records.{is_own, is_record_of, of_input}
use Rattle.leaf_image.proofs.Eaches.{each_by, each_with}
use Rattle.record_laws.specs.Given.{along_path, bind_met, leaf_binds}
use Rattle.record_laws.proofs.LeafNames.{all_found, apart_swapped, each_kept, leaf_at, leaf_names, name_is, other_leaf, own_leaf}
use Rattle.record_laws.proofs.Lookups.{binds_append, keys_apart, one_found, one_missing, plain_same}
use Rattle.record_laws.proofs.Pairing.{is_leaf}
use Rattle.record_laws.proofs.Paths.{path_leads}
use Rattle.record_laws.proofs.Places.{OfRecord}
use Rattle.wdl_stdlib.proofs.Keys.{bytes_eq-refl as name_itself}

-- ---- the leaves of one value

pub own_names : (ls : List Leaf) → Each (λ (l : Leaf). has_name l.name (leaf_names ls) ≡ true) ls
own_names [] = tt
own_names (l ∷ ls) = (
  or_left (bytes_eq l.name l.name) (has_name l.name (leaf_names ls)) (name_itself l.name),
  each_by (λ (k : Leaf). has_name k.name (leaf_names ls) ≡ true) (λ (k : Leaf). has_name k.name (leaf_names (l ∷ ls)) ≡ true)
      (λ k h. or_right (bytes_eq l.name k.name) (has_name k.name (leaf_names ls)) h) ls (own_names ls),
)

bind_apart : (name : List ℕ) (r : Met Value) (key : Key) → same_key (plain_key name) key ≡ false → lookup (bind_met name r) key ≡ None
bind_apart name (Ok x) key h = one_missing (plain_key name) x key h
bind_apart name (Err e) key h = refl

-- none of them has the key
pub block_apart : (x : Value) (bl : List Leaf) (key : Key) → Each (λ (l : Leaf). same_key (plain_key l.name) key ≡ false) bl → lookup (leaf_binds x bl) key ≡ None
block_apart x [] key h = refl
block_apart x (l ∷ bl) key h =
    binds_append (bind_met l.name (along_path l.path x)) (leaf_binds x bl) key
    ∙ ap (λ (o : Option Value). or_else o (lookup (leaf_binds x bl) key)) (bind_apart l.name (along_path l.path x) key h.0)
    ∙ block_apart x bl key h.1

pub block_found : (x : Value) (bl : List Leaf) (m : List ℕ) (l : Leaf) (y : Value) → leaf_at bl m ≡ Some l → along_path l.path x ≡ Ok y → lookup (leaf_binds x bl) (plain_key m) ≡ Some y
block_found x [] m l y h is = cc
block_found x (k ∷ bl) m l y h is =
    binds_append (bind_met k.name (along_path k.path x)) (leaf_binds x bl) (plain_key m)
    ∙ by_name (bytes_eq k.name m) refl h (λ e. block_found x bl m l y e is)
  where
    by_name : (b : Bool) → bytes_eq k.name m ≡ b → cond b (Some k) (leaf_at bl m) ≡ Some l → (leaf_at bl m ≡ Some l → lookup (leaf_binds x bl) (plain_key m) ≡ Some y)
        → or_else (lookup (bind_met k.name (along_path k.path x)) (plain_key m)) (lookup (leaf_binds x bl) (plain_key m)) ≡ Some y
    by_name true e h rest =
        let same : k ≡ l = same_Some _ _ h in
        ap (λ (r : Met Value). or_else (lookup (bind_met k.name r) (plain_key m)) (lookup (leaf_binds x bl) (plain_key m))) (ap (λ (z : Leaf). along_path z.path x) same ∙ is)
        ∙ ap (λ (o : Option Value). or_else o (lookup (leaf_binds x bl) (plain_key m))) (one_found (plain_key k.name) y (plain_key m) (plain_same k.name m ∙ e))
    by_name false e h rest =
        ap (λ (o : Option Value). or_else o (lookup (leaf_binds x bl) (plain_key m))) (bind_apart k.name (along_path k.path x) (plain_key m) (plain_same k.name m ∙ e)) ∙ rest h

module _ (structs : Structs) (is : List TInput) (ls : List Leaf) where
  -- The given names in order; a value of a struct input has its leaves in its place.
  pub data Alike : List Bind → List Bind → Type 0 where
    none : Alike [] []
    plain : {bs cs : List Bind} (b : Bind) → is_own is b.key ≡ false → is_leaf ls b.key ≡ false → Alike bs cs → Alike (b ∷ bs) (b ∷ cs)
    members : {bs cs : List Bind} (n : List ℕ) (x : Value) (t : Ty) → is_record_of is n ≡ true → input_type is n ≡ Some t → fits structs x t ≡ true → is_within x ≡ true → Alike bs cs
        → Alike (arg_bind n x ∷ bs) (leaf_binds x (of_input n ls) ++ cs)

  -- a struct input has a value of its type
  abbrev pub Fitting : List ℕ → Value → Type 0
  Fitting n x = (t : Ty) × (input_type is n ≡ Some t) × (fits structs x t ≡ true) × (is_within x ≡ true)

  abbrev pub LeafGiven : List Bind → List Bind → Leaf → Type 0
  LeafGiven given now l = (x : Value) → lookup given (plain_key l.input) ≡ Some x
      → (is_within x ≡ true) × (y : Value) × (lookup now (plain_key l.name) ≡ Some y) × (along_path l.path x ≡ Ok y) × (is_within y ≡ true)

  -- what is given, and what is given in its place
  pub record GivenAgrees (given now : List Bind) : Type 0 where
    pub others : (key : Key) → is_own is key ≡ false → is_leaf ls key ≡ false → lookup now key ≡ lookup given key
    pub records : (n : List ℕ) (x : Value) → is_record_of is n ≡ true → lookup given (plain_key n) ≡ Some x → Fitting n x
    pub leaves : Each (LeafGiven given now) ls

  -- ---- other names

  leaves_apart : (n : List ℕ) (key : Key) → is_leaf ls key ≡ false → Each (λ (l : Leaf). same_key (plain_key l.name) key ≡ false) (of_input n ls)
  leaves_apart n key h =
      each_kept (λ (l : Leaf). same_key (plain_key l.name) key ≡ false) ls n
      (each_by (λ (l : Leaf). has_name l.name (leaf_names ls) ≡ true) (λ (l : Leaf). same_key (plain_key l.name) key ≡ false)
      (λ l e. keys_apart (is_leaf ls) (plain_key l.name) key e h) ls (own_names ls))

  others_same : {given now : List Bind} → Alike given now → (key : Key) → is_own is key ≡ false → is_leaf ls key ≡ false → lookup now key ≡ lookup given key
  others_same none key own leaf = refl
  others_same (plain {bs = bs} {cs = cs} b o l rest) key own leaf = ap (cond (same_key b.key key) (Some b.value)) (others_same rest key own leaf)
  others_same (members {bs = bs} {cs = cs} n x t r i f w rest) key own leaf =
      binds_append (leaf_binds x (of_input n ls)) cs key
      ∙ ap (λ (o : Option Value). or_else o (lookup cs key)) (block_apart x (of_input n ls) key (leaves_apart n key leaf))
      ∙ others_same rest key own leaf
      ∙ sym (ap (λ b. cond b (Some x) (lookup bs key)) (keys_apart (is_own is) (plain_key n) key r own))

  -- ---- struct inputs

  records_fit : {given now : List Bind} → Alike given now → (n : List ℕ) (x : Value) → is_record_of is n ≡ true → lookup given (plain_key n) ≡ Some x → Fitting n x
  records_fit none n x r h = cc
  records_fit (plain {bs = bs} b o l rest) n x r h =
      records_fit rest n x r
      (sym (ap (λ w. cond w (Some b.value) (lookup bs (plain_key n)))
      (keys_apart (λ (k : Key). not (is_own is k)) b.key (plain_key n) (not_from_false (is_own is b.key) o) (not_from_true (is_own is (plain_key n)) r))) ∙ h)
  records_fit (members {bs = bs} m y t q i f w rest) n x r h = by_name (bytes_eq m n) refl (sym (ap (λ z. cond z (Some y) (lookup bs (plain_key n))) (plain_same m n)) ∙ h) (records_fit rest n x r)
    where
      by_name : (b : Bool) → bytes_eq m n ≡ b → cond b (Some y) (lookup bs (plain_key n)) ≡ Some x → (lookup bs (plain_key n) ≡ Some x → Fitting n x) → Fitting n x
      by_name true e h more =
          let same : y ≡ x = same_Some _ _ h in
          (t, ap (input_type is) (sym (name_is m n e)) ∙ i, subst (λ (z : Value). fits structs z t ≡ true) same f, subst (λ (z : Value). is_within z ≡ true) same w)
      by_name false e h more = more h

  -- ---- leaves

  module _ (distinct : are_distinct (leaf_names ls) ≡ true) (l : Leaf) (at : leaf_at ls l.name ≡ Some l) (named : has_name l.name (leaf_names ls) ≡ true) (of : OfRecord structs is l.input l.path l.ty) where
    leaf_given : {given now : List Bind} → Alike given now → LeafGiven given now l
    leaf_given none x h = cc
    leaf_given (plain {bs = bs} {cs = cs} b o k rest) x h =
        let before : lookup bs (plain_key l.input) ≡ Some x =
        sym (ap (λ w. cond w (Some b.value) (lookup bs (plain_key l.input)))
        (keys_apart (λ (k : Key). not (is_own is k)) b.key (plain_key l.input) (not_from_false (is_own is b.key) o) (not_from_true (is_own is (plain_key l.input)) of.record_is))) ∙ h in
        let r = leaf_given rest x before in (
          r.0,
          r.1,
          ap (λ w. cond w (Some b.value) (lookup cs (plain_key l.name)))
              (keys_apart (λ (k : Key). not (is_leaf ls k)) b.key (plain_key l.name) (not_from_false (is_leaf ls b.key) k) (not_from_true (is_leaf ls (plain_key l.name)) named)) ∙ r.2,
          r.3,
          r.4,
        )
    leaf_given (members {bs = bs} {cs = cs} m y t q i f w rest) x h =
        by_name (bytes_eq m l.input) refl (sym (ap (λ z. cond z (Some y) (lookup bs (plain_key l.input))) (plain_same m l.input)) ∙ h) (leaf_given rest x)
      where
        by_name : (b : Bool) → bytes_eq m l.input ≡ b → cond b (Some y) (lookup bs (plain_key l.input)) ≡ Some x
            → (lookup bs (plain_key l.input) ≡ Some x → (is_within x ≡ true) × (z : Value) × (lookup cs (plain_key l.name) ≡ Some z) × (along_path l.path x ≡ Ok z) × (is_within z ≡ true))
            → (is_within x ≡ true) × (z : Value) × (lookup (leaf_binds y (of_input m ls) ++ cs) (plain_key l.name) ≡ Some z) × (along_path l.path x ≡ Ok z) × (is_within z ≡ true)
        by_name true e h more =
            let same : y ≡ x = same_Some _ _ h in
            let here : m ≡ l.input = name_is m l.input e in
            let type_ : of.of ≡ t = same_Some _ _ (sym of.type_is ∙ ap (input_type is) (sym here) ∙ i) in
            let p = path_leads structs l.path y of.of l.ty (subst (λ (u : Ty). fits structs y u ≡ true) (sym type_) f) w of.path_is in (
              subst (λ (z : Value). is_within z ≡ true) same w,
              p.0,
              binds_append (leaf_binds y (of_input m ls)) cs (plain_key l.name)
                  ∙ ap (λ (o : Option Value). or_else o (lookup cs (plain_key l.name)))
                  (block_found y (of_input m ls) l.name l p.0 (own_leaf ls m l.name l at (ap (λ z. bytes_eq l.input z) here ∙ name_itself l.input)) p.1),
              ap (along_path l.path) (sym same) ∙ p.1,
              p.3,
            )
        by_name false e h more =
            let r = more h in (
              r.0,
              r.1,
              binds_append (leaf_binds y (of_input m ls)) cs (plain_key l.name)
                  ∙ ap (λ (o : Option Value). or_else o (lookup cs (plain_key l.name)))
                  (block_apart y (of_input m ls) (plain_key l.name)
                  (each_by (λ (z : Leaf). bytes_eq z.name l.name ≡ false) (λ (z : Leaf). same_key (plain_key z.name) (plain_key l.name) ≡ false) (λ z n. plain_same z.name l.name ∙ n) (of_input m ls)
                  (other_leaf ls m l.name l distinct at (apart_swapped m l.input e))))
                  ∙ r.2,
              r.3,
              r.4,
            )

  pub given_agrees : {given now : List Bind} → are_distinct (leaf_names ls) ≡ true → Each (λ (l : Leaf). OfRecord structs is l.input l.path l.ty) ls → Alike given now → GivenAgrees given now
  given_agrees distinct of alike = record {
    others = others_same alike;
    records = records_fit alike;
    leaves = each_with (λ (l : Leaf). OfRecord structs is l.input l.path l.ty) (λ (l : Leaf). (leaf_at ls l.name ≡ Some l) × (has_name l.name (leaf_names ls) ≡ true)) (LeafGiven _ _)
        (λ l o a. leaf_given distinct l a.0 a.1 o alike) ls of
        (each_with (λ (l : Leaf). leaf_at ls l.name ≡ Some l) (λ (l : Leaf). has_name l.name (leaf_names ls) ≡ true) (λ (l : Leaf). (leaf_at ls l.name ≡ Some l) × (has_name l.name (leaf_names ls) ≡ true))
        (λ l a b. (a, b)) ls (all_found ls distinct) (own_names ls));
  }
