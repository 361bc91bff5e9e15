-- The object of a block, and what references are linked to in its flow.
use Rattle.std.proofs.Common.{◌≡◌, ◌⊎◌, inl, inr, Bool, true, false, cond, List, [], ◌∷◌, map, Option, Some, None, option_and_then, Contains, sym, ap, ◌∙◌, subst, refl}
use Rattle.std.specs.Str.{bytes_eq}
use Rattle.std.proofs.lemmas.Bool.{false≢true, and_from}
use Rattle.std.proofs.lemmas.Slice.Eq.{bytes_eq-Decides}
use Rattle.std.proofs.lemmas.Option.{none-some, same_Some}
use Rattle.wdl_base.specs.declared.name.Key.{Key}
use Rattle.wdl_value.specs.declared.value.Value.{Value, Value-F, out-Value, roll-Value, roll-out-Value}
use Rattle.wdl_value.specs.declared.value.Value.TheVariants as v
use Rattle.wdl_value.specs.declared.value.Value.TheOpen as value
use Rattle.wdl_value.specs.Parts.{is_undefined, is_undefined_at}
use Rattle.wdl_typed.specs.Flow.{Known, env_of}
use Rattle.wdl_typed.specs.Scope.{lookup, same_key}
use Rattle.cwl_model.specs.declared.process.Link.TheVariants as link
use Rattle.cwl_model.specs.declared.tool.CwlIn.{CwlIn}
use Rattle.cwl_model.specs.Means.{Named, all_taken, are_typed, given_or, has_type, input_links, named, or_null, taken, value_at, wired}
use Rattle.cwl_model.specs.Rounds.{Linked, known_value}
use Rattle.cwl_model.proofs.Rounds.{first_is, first_or_later, later_is, none_is}
use Rattle.cwl_image.specs.Image.{Linkage, Scope, id_of, inner_linkage, inner_scope, input_of, linkage_at, link_or, outer_wire, type_or}
use Rattle.cwl_laws.specs.Laws.{Shown, Shows}
use Rattle.wdl_flow.proofs.MarkLemmas.{same_key-true as key_same}

-- ---- a value that is given

pub absent_is : (x : Value) → is_undefined x ≡ true → x ≡ v.Absent
absent_is x h = by_layer (out-Value x) refl h
  where
    by_layer : (y : Value-F Value) → out-Value x ≡ y → is_undefined_at y ≡ true → x ≡ v.Absent
    by_layer value.Absent e h = sym (roll-out-Value x) ∙ ap roll-Value e ∙ v.rolls-Absent
    by_layer y e h = absurd (false≢true h)

pub given_same : (x : Value) → given_or (Some x) None ≡ x
given_same x = by_test (is_undefined x) refl
  where
    by_test : (b : Bool) → is_undefined x ≡ b → cond b v.Absent x ≡ x
    by_test true e = sym (absent_is x e)
    by_test false e = refl

linkage_key : (scope : Scope) (key : Key) (l : Linkage) → linkage_at scope key ≡ Some l → l.key ≡ key
linkage_key [] key l h = absurd (none-some _ h)
linkage_key (m ∷ scope) key l h = by_test (λ e. linkage_key scope key l e) (same_key m.key key) refl h
  where
    by_test : (linkage_at scope key ≡ Some l → l.key ≡ key) → (b : Bool) → same_key m.key key ≡ b → cond b (Some m) (linkage_at scope key) ≡ Some l → l.key ≡ key
    by_test rest true s e = ap (λ (z : Linkage). z.key) (sym (same_Some _ _ e)) ∙ key_same m.key key s
    by_test rest false s e = rest e

abbrev pub value_in : List Known → Key → Value
value_in names key = or_null (lookup (env_of names) key)

-- what a reference of the scope has as its value
pub record IsSeen (scope : Scope) (names : List Known) (known : List Linked) (key : Key) : Type 0 where
  pub name : lookup (env_of names) key ≡ Some (value_in names key)
  pub link : known_value known (link_or (linkage_at scope key)) ≡ Some (value_in names key)
  pub ty : has_type (type_or (linkage_at scope key)) (value_in names key) ≡ true

pub is_seen : (scope : Scope) (names : List Known) (known : List Linked) → Shows scope names known → (key : Key) (l : Linkage) → linkage_at scope key ≡ Some l → IsSeen scope names known key
is_seen scope names known shows key l e =
    let x = shows key l e in
    let name : lookup (env_of names) key ≡ Some x.0 = ap (λ k. lookup (env_of names) k) (sym (linkage_key scope key l e)) ∙ x.1 in
    let same : value_in names key ≡ x.0 = ap or_null name in
    record {
      name = name ∙ ap Some (sym same);
      link = ap (λ o. known_value known (link_or o)) e ∙ x.2 ∙ ap Some (sym same);
      ty = ap (λ o. has_type (type_or o) (value_in names key)) e ∙ ap (has_type l.ty) same ∙ x.3;
    }

module _ (scope : Scope) (names : List Known) (known : List Linked) (all : List Key) (seen : (key : Key) → Contains all key → IsSeen scope names known key)
    (differ : (a b : Key) → Contains all a → Contains all b → bytes_eq (id_of a) (id_of b) ≡ true → a ≡ b) where
  abbrev under_id : Key → Named
  under_id key = named (id_of key) (value_in names key)

  abbrev Within : List Key → Type 0
  Within ks = (key : Key) → Contains ks key → Contains all key

  pub wired_keys : (ks : List Key) → Within ks → wired known (map (outer_wire scope) ks) ≡ Some (map under_id ks)
  wired_keys [] within = refl
  wired_keys (k ∷ ks) within =
      ap (λ o. option_and_then (λ x. option_and_then (λ ns. Some (named (id_of k) x ∷ ns)) (wired known (map (outer_wire scope) ks))) o) (seen k (within k (first_is k ks))).link
      ∙ ap (option_and_then (λ ns. Some (under_id k ∷ ns))) (wired_keys ks (λ m c. within m (later_is k ks m c)))

  pub value_under : (ks : List Key) → Within ks → (key : Key) → Contains ks key → value_at (map under_id ks) (id_of key) ≡ Some (value_in names key)
  value_under [] within key c = absurd (none_is key c)
  value_under (k ∷ ks) within key c =
      by_test (λ d. value_under ks (λ m e. within m (later_is k ks m e)) key d) (λ e. differ k key (within k (first_is k ks)) (within key c) e) (bytes_eq (id_of k) (id_of key)) refl (first_or_later k ks key c)
    where
      by_test : (Contains ks key → value_at (map under_id ks) (id_of key) ≡ Some (value_in names key)) → (bytes_eq (id_of k) (id_of key) ≡ true → k ≡ key) → (b : Bool)
          → bytes_eq (id_of k) (id_of key) ≡ b → (k ≡ key) ⊎ Contains ks key → cond b (Some (value_in names k)) (value_at (map under_id ks) (id_of key)) ≡ Some (value_in names key)
      by_test rest same true e d = ap (λ j. Some (value_in names j)) (same e)
      by_test rest same false e (inl s) = absurd (false≢true (sym e ∙ (bytes_eq-Decides (id_of k) (id_of key)).1 (ap id_of s)))
      by_test rest same false e (inr d) = rest d

  -- an object that has the values of these references
  module _ (object : List Named) (has : (key : Key) → Contains all key → value_at object (id_of key) ≡ Some (value_in names key)) where
    abbrev ins : List Key → List CwlIn
    ins ks = map input_of (inner_scope scope ks)

    taken_value : (key : Key) → Contains all key → (taken object (input_of (inner_linkage scope key))).value ≡ value_in names key
    taken_value key c = ap (λ o. given_or o None) (has key c) ∙ given_same (value_in names key)

    pub keys_typed : (ks : List Key) → Within ks → are_typed object (ins ks) ≡ true
    keys_typed [] within = refl
    keys_typed (k ∷ ks) within =
        let c = within k (first_is k ks) in
        and_from (has_type (type_or (linkage_at scope k)) (taken object (input_of (inner_linkage scope k))).value) (are_typed object (ins ks))
        (ap (has_type (type_or (linkage_at scope k))) (taken_value k c) ∙ (seen k c).ty) (keys_typed ks (λ m d. within m (later_is k ks m d)))

    pub keys_known : (ks : List Key) → Within ks → (key : Key) → Contains ks key → known_value (input_links (all_taken object (ins ks))) (link.Input (id_of key)) ≡ Some (value_in names key)
    keys_known [] within key c = absurd (none_is key c)
    keys_known (k ∷ ks) within key c =
        by_test (λ d. keys_known ks (λ m e. within m (later_is k ks m e)) key d) (λ e. differ k key (within k (first_is k ks)) (within key c) e) (taken_value k (within k (first_is k ks)))
        (bytes_eq (id_of k) (id_of key)) refl (first_or_later k ks key c)
      where
        rest_of : Option Value
        rest_of = known_value (input_links (all_taken object (ins ks))) (link.Input (id_of key))

        by_test : (Contains ks key → rest_of ≡ Some (value_in names key)) → (bytes_eq (id_of k) (id_of key) ≡ true → k ≡ key)
            → (taken object (input_of (inner_linkage scope k))).value ≡ value_in names k → (b : Bool) → bytes_eq (id_of k) (id_of key) ≡ b → (k ≡ key) ⊎ Contains ks key
            → cond b (Some (taken object (input_of (inner_linkage scope k))).value) rest_of ≡ Some (value_in names key)
        by_test rest same own true e d = ap Some own ∙ ap (λ j. Some (value_in names j)) (same e)
        by_test rest same own false e (inl s) = absurd (false≢true (sym e ∙ (bytes_eq-Decides (id_of k) (id_of key)).1 (ap id_of s)))
        by_test rest same own false e (inr d) = rest d

  abbrev IsInnerOf : List Key → Key → Linkage → Type 0
  IsInnerOf ks key l = Contains ks key × (inner_linkage scope key ≡ l)

  -- A reference of the inner scope is one of those that the body uses.
  pub inner_key : (ks : List Key) (key : Key) (l : Linkage) → linkage_at (inner_scope scope ks) key ≡ Some l → IsInnerOf ks key l
  inner_key [] key l h = absurd (none-some _ h)
  inner_key (k ∷ ks) key l h = by_test (λ e. inner_key ks key l e) (same_key k key) refl h
    where
      by_test : (linkage_at (inner_scope scope ks) key ≡ Some l → IsInnerOf ks key l) → (b : Bool) → same_key k key ≡ b
          → cond b (Some (inner_linkage scope k)) (linkage_at (inner_scope scope ks) key) ≡ Some l → IsInnerOf (k ∷ ks) key l
      by_test rest true s e =
          let same = key_same k key s in
          (subst (λ j. Contains (k ∷ ks) j) same (first_is k ks), ap (inner_linkage scope) (sym same) ∙ same_Some _ _ e)
      by_test rest false s e = let r = rest e in (later_is k ks key r.0, r.1)

  -- What has the values of these references shows the inner scope.
  pub inner_shows : (inside : List Linked) → ((key : Key) → Contains all key → known_value inside (link.Input (id_of key)) ≡ Some (value_in names key)) → Shows (inner_scope scope all) names inside
  inner_shows inside known key l h =
      let r = inner_key all key l h in
      let x = seen key r.0 in
      subst (λ (z : Linkage). Shown names inside z) r.1 (value_in names key, x.name, known key r.0, x.ty)
