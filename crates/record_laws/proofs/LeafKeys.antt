-- The names of leaves of inputs that fit differ.
use Rattle.std.proofs.Common.{◌≡◌, ℕ, ◌⊎◌, inl, inr, Bool, true, false, cond, not, ◌||◌, List, [], ◌∷◌, ◌++◌, Option, Some, None, Ok, Err, sym, ap, ◌∙◌, refl}
use Rattle.std.specs.List.{list_all}
use Rattle.std.specs.Str.{bytes_eq}
use Rattle.std.proofs.lemmas.Bool.{false≢true, and_from, and_parts, not-true, not_from_false, or_cases, or_from, or_left, or_parts, or_right}
use Rattle.std.proofs.lemmas.List.{map-append}
use Rattle.wdl_base.specs.declared.name.Key.{Key}
use Rattle.wdl_value.specs.declared.env.Bind.{Bind}
use Rattle.wdl_value.specs.declared.value.Value.{Value}
use Rattle.wdl_value.specs.Fits.{Structs}
use Rattle.wdl_typed.specs.declared.task.TInput.{TInput}
use Rattle.wdl_typed.specs.Declarations.{input_names, plain_key}
use Rattle.wdl_typed.specs.Evaluation.{Met}
use Rattle.wdl_typed.specs.Journal.{bind_fits, keys, keys_distinct}
use Rattle.wdl_typed.specs.Lists.{are_distinct, has_name}
use Rattle.wdl_typed.specs.Scope.{is_among, same_key}
use Rattle.flow_laws.proofs.Keys.{among_append, distinct_both, key_itself, key_same}
use Rattle.leaf_image.specs.declared.leaf.Leaf.{Leaf}
use Rattle.leaf_image.specs.Inside.{Each}
use Rattle.leaf_image.specs.Records.{is_own, of_input}
use Rattle.leaf_image.proofs.Eaches.{each_by, each_with}
use Rattle.record_laws.specs.Given.{along_path, bind_met, binds_of, given_leaves, leaf_binds}
use Rattle.record_laws.proofs.FlowFacts.{None_of, no_leaf_typed}
use Rattle.record_laws.proofs.LeafNames.{all_found, each_kept, leaf_at, leaf_names, no_leaf, own_inputs}
use Rattle.record_laws.proofs.Lookups.{plain_same}
use Rattle.record_laws.proofs.MainInputs.{OfInput, of_input_named}

-- ---- the leaves of one value

block_missing : (x : Value) (bl : List Leaf) (key : Key) → Each (λ (l : Leaf). same_key (plain_key l.name) key ≡ false) bl → is_among key (keys (leaf_binds x bl)) ≡ false
block_missing x [] key h = refl
block_missing x (l ∷ bl) key h = by_met (along_path l.path x) (block_missing x bl key h.1)
  where
    by_met : (r : Met Value) → is_among key (keys (leaf_binds x bl)) ≡ false → is_among key (keys (bind_met l.name r ++ leaf_binds x bl)) ≡ false
    by_met (Ok y) rest = or_from (same_key (plain_key l.name) key) (is_among key (keys (leaf_binds x bl))) h.0 rest
    by_met (Err e) rest = rest

block_distinct : (x : Value) (n : List ℕ) (ls : List Leaf) → are_distinct (leaf_names ls) ≡ true → keys_distinct (keys (leaf_binds x (of_input n ls))) ≡ true
block_distinct x n [] h = refl
block_distinct x n (l ∷ ls) h =
    let p = and_parts (not (has_name l.name (leaf_names ls))) (are_distinct (leaf_names ls)) h in
    by_input (bytes_eq l.input n) (block_distinct x n ls p.1)
    (block_missing x (of_input n ls) (plain_key l.name)
    (each_by (λ (z : Leaf). bytes_eq z.name l.name ≡ false) (λ (z : Leaf). same_key (plain_key z.name) (plain_key l.name) ≡ false) (λ z e. plain_same z.name l.name ∙ e) (of_input n ls)
    (no_leaf ls n l.name (not-true (has_name l.name (leaf_names ls)) p.0))))
  where
    by_met : (r : Met Value) → keys_distinct (keys (leaf_binds x (of_input n ls))) ≡ true → is_among (plain_key l.name) (keys (leaf_binds x (of_input n ls))) ≡ false
        → keys_distinct (keys (bind_met l.name r ++ leaf_binds x (of_input n ls))) ≡ true
    by_met (Ok y) rest out =
        and_from (not (is_among (plain_key l.name) (keys (leaf_binds x (of_input n ls))))) (keys_distinct (keys (leaf_binds x (of_input n ls))))
        (not_from_false (is_among (plain_key l.name) (keys (leaf_binds x (of_input n ls)))) out) rest
    by_met (Err e) rest out = rest

    by_input : (b : Bool) → keys_distinct (keys (leaf_binds x (of_input n ls))) ≡ true → is_among (plain_key l.name) (keys (leaf_binds x (of_input n ls))) ≡ false
        → keys_distinct (keys (leaf_binds x (cond b (l ∷ []) [] ++ of_input n ls))) ≡ true
    by_input true rest out = by_met (along_path l.path x) rest out
    by_input false rest out = rest

-- ---- whose leaf a name is

abbrev owner_or : List ℕ → Option Leaf → List ℕ
owner_or n None = n
owner_or n (Some l) = l.input

abbrev owner : List Leaf → List ℕ → List ℕ
owner ls n = owner_or n (leaf_at ls n)

none_at : (ls : List Leaf) (n : List ℕ) → has_name n (leaf_names ls) ≡ false → leaf_at ls n ≡ None
none_at [] n h = refl
none_at (l ∷ ls) n h = let p = or_parts (bytes_eq l.name n) (has_name n (leaf_names ls)) h in ap (λ b. cond b (Some l) (leaf_at ls n)) p.0 ∙ none_at ls n p.1

block_owner : (ls : List Leaf) (x : Value) (n : List ℕ) (k : Key) (bl : List Leaf) → Each (λ (l : Leaf). (leaf_at ls l.name ≡ Some l) × (l.input ≡ n)) bl → is_among k (keys (leaf_binds x bl)) ≡ true → owner ls k.first ≡ n
block_owner ls x n k [] h a = absurd (false≢true a)
block_owner ls x n k (l ∷ bl) h a = by_met (along_path l.path x) a (block_owner ls x n k bl h.1)
  where
    by_case : (same_key (plain_key l.name) k ≡ true) ⊎ (is_among k (keys (leaf_binds x bl)) ≡ true) → (is_among k (keys (leaf_binds x bl)) ≡ true → owner ls k.first ≡ n) → owner ls k.first ≡ n
    by_case (inl e) rest = ap (λ (j : Key). owner ls j.first) (sym (key_same (plain_key l.name) k e)) ∙ ap (owner_or l.name) h.0.0 ∙ h.0.1
    by_case (inr e) rest = rest e

    by_met : (r : Met Value) → is_among k (keys (bind_met l.name r ++ leaf_binds x bl)) ≡ true → (is_among k (keys (leaf_binds x bl)) ≡ true → owner ls k.first ≡ n) → owner ls k.first ≡ n
    by_met (Ok y) a rest = by_case (or_cases (same_key (plain_key l.name) k) (is_among k (keys (leaf_binds x bl))) a) rest
    by_met (Err e) a rest = rest a

module _ (structs : Structs) (is : List TInput) (ls : List Leaf) (distinct : are_distinct (leaf_names ls) ≡ true) (new : None_of (λ n. has_name n (leaf_names ls)) (input_names is)) where
  own_block : (n : List ℕ) → Each (λ (l : Leaf). (leaf_at ls l.name ≡ Some l) × (l.input ≡ n)) (of_input n ls)
  own_block n =
      each_with (λ (l : Leaf). leaf_at ls l.name ≡ Some l) (λ (l : Leaf). l.input ≡ n) (λ (l : Leaf). (leaf_at ls l.name ≡ Some l) × (l.input ≡ n)) (λ l a b. (a, b)) (of_input n ls)
      (each_kept (λ (l : Leaf). leaf_at ls l.name ≡ Some l) ls n (all_found ls distinct)) (own_inputs n ls)

  one_owner : (b : Bind) → OfInput structs is b → (k : Key) → is_among k (keys (binds_of is ls b)) ≡ true → owner ls k.first ≡ b.key.first
  one_owner b o k a = by_own (is_own is b.key) a
    where
      by_own : (t : Bool) → is_among k (keys (cond t (leaf_binds b.value (of_input b.key.first ls)) (b ∷ []))) ≡ true → owner ls k.first ≡ b.key.first
      by_own true a = block_owner ls b.value b.key.first k (of_input b.key.first ls) (own_block b.key.first) a
      by_own false a = by_case (or_cases (same_key b.key k) false a)
        where
          by_case : (same_key b.key k ≡ true) ⊎ (false ≡ true) → owner ls k.first ≡ b.key.first
          by_case (inl e) =
              ap (λ (j : Key). owner ls j.first) (sym (key_same b.key k e)) ∙ ap (owner_or b.key.first) (none_at ls b.key.first (no_leaf_typed ls is new b.key.first o.ty o.type_is))
          by_case (inr e) = absurd (false≢true e)

  all_owners : (bs : List Bind) → list_all (bind_fits structs is) bs ≡ true → (k : Key) → is_among k (keys (given_leaves is ls bs)) ≡ true → is_among (plain_key (owner ls k.first)) (keys bs) ≡ true
  all_owners [] h k a = absurd (false≢true a)
  all_owners (b ∷ bs) h k a =
      let p = and_parts (bind_fits structs is b) (list_all (bind_fits structs is) bs) h in
      by_case (of_input_named structs is b p.0)
      (or_cases (is_among k (keys (binds_of is ls b))) (is_among k (keys (given_leaves is ls bs)))
      (sym (ap (is_among k) (map-append (λ (c : Bind). c.key) (binds_of is ls b) (given_leaves is ls bs)) ∙ among_append k (keys (binds_of is ls b)) (keys (given_leaves is ls bs))) ∙ a))
      (all_owners bs p.1 k)
    where
      by_case : OfInput structs is b → (is_among k (keys (binds_of is ls b)) ≡ true) ⊎ (is_among k (keys (given_leaves is ls bs)) ≡ true)
          → (is_among k (keys (given_leaves is ls bs)) ≡ true → is_among (plain_key (owner ls k.first)) (keys bs) ≡ true)
          → (same_key b.key (plain_key (owner ls k.first)) || is_among (plain_key (owner ls k.first)) (keys bs)) ≡ true
      by_case o (inl e) rest =
          or_left (same_key b.key (plain_key (owner ls k.first))) (is_among (plain_key (owner ls k.first)) (keys bs))
          (ap (λ n. same_key b.key (plain_key n)) (one_owner b o k e) ∙ ap (λ (j : Key). same_key b.key j) (sym o.key_is) ∙ key_itself b.key)
      by_case o (inr e) rest = or_right (same_key b.key (plain_key (owner ls k.first))) (is_among (plain_key (owner ls k.first)) (keys bs)) (rest e)

  pub all_distinct : (bs : List Bind) → list_all (bind_fits structs is) bs ≡ true → keys_distinct (keys bs) ≡ true → keys_distinct (keys (given_leaves is ls bs)) ≡ true
  all_distinct [] h d = refl
  all_distinct (b ∷ bs) h d =
      let p = and_parts (bind_fits structs is b) (list_all (bind_fits structs is) bs) h in
      let q = and_parts (not (is_among b.key (keys bs))) (keys_distinct (keys bs)) d in
      let o = of_input_named structs is b p.0 in
      ap keys_distinct (map-append (λ (c : Bind). c.key) (binds_of is ls b) (given_leaves is ls bs))
      ∙ distinct_both (keys (binds_of is ls b)) (keys (given_leaves is ls bs)) (one_distinct (is_own is b.key)) (all_distinct bs p.1 q.1)
      (λ k a. apart k o a (not-true (is_among b.key (keys bs)) q.0) p.1 (is_among k (keys (given_leaves is ls bs))) refl)
    where
      one_distinct : (t : Bool) → keys_distinct (keys (cond t (leaf_binds b.value (of_input b.key.first ls)) (b ∷ []))) ≡ true
      one_distinct true = block_distinct b.value b.key.first ls distinct
      one_distinct false = refl

      apart : (k : Key) → OfInput structs is b → is_among k (keys (binds_of is ls b)) ≡ true → is_among b.key (keys bs) ≡ false → list_all (bind_fits structs is) bs ≡ true
          → (t : Bool) → is_among k (keys (given_leaves is ls bs)) ≡ t → t ≡ false
      apart k o a out fit false e = refl
      apart k o a out fit true e =
          let here : is_among (plain_key (owner ls k.first)) (keys bs) ≡ true = all_owners bs fit k e in
          absurd (false≢true (sym out ∙ ap (λ (j : Key). is_among j (keys bs)) (o.key_is ∙ ap plain_key (sym (one_owner b o k a))) ∙ here))
