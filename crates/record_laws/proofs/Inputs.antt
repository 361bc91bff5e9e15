-- The inputs of a workflow, and the inputs with leaves in the places of struct inputs, one after the other.
use Rattle.std.proofs.Common.{◌≡◌, ℕ, Bool, true, false, not, List, [], ◌∷◌, ◌++◌, Option, Some, None, Ok, Err, sym, ap, ◌∙◌, subst, refl}
use Rattle.std.specs.Str.{bytes_eq}
use Rattle.std.proofs.lemmas.Bool.{not_from_false}
use Rattle.wdl_base.specs.declared.name.Key.{Key}
use Rattle.wdl_value.specs.declared.env.Bind.{Bind}
use Rattle.wdl_value.specs.declared.value.Value.{Value}
use Rattle.wdl_value.specs.Limits.{is_within}
use Rattle.wdl_typed.specs.declared.task.TInput.{TInput}
use Rattle.wdl_typed.specs.Declarations.{plain_key}
use Rattle.wdl_typed.specs.Evaluation.{Met}
use Rattle.wdl_typed.specs.Flow.{Known, env_of, known}
use Rattle.wdl_typed.specs.Lists.{are_distinct, has_name}
use Rattle.wdl_typed.specs.Scope.{lookup, same_key}
use Rattle.leaf_image.specs.declared.leaf.Leaf.{Leaf}
use Rattle.leaf_image.specs.Inside.{Each}
use Rattle.leaf_image.specs.Leaves.{or_else}
use Rattle.leaf_image.specs.Records.{is_own, is_record_of, of_input}
use Rattle.leaf_image.proofs.Eaches.{each_by}
use Rattle.record_laws.specs.Given.{along_path, bind_met, leaf_binds}
use Rattle.record_laws.proofs.Giving.{block_apart, block_found, own_names}
use Rattle.record_laws.proofs.LeafNames.{apart_swapped, each_kept, leaf_at, leaf_names, name_is, other_leaf, own_leaf}
use Rattle.record_laws.proofs.Lookups.{keys_apart, names_append, one_found, one_missing, plain_same}
use Rattle.record_laws.proofs.Pairing.{Both, Paired, is_leaf}
use Rattle.wdl_stdlib.proofs.Keys.{bytes_eq-refl as name_itself}

-- ---- the leaves of one value, as names

abbrev pub ok_of : Met Value → Option Value
ok_of (Ok x) = Some x
ok_of (Err e) = None

abbrev pub leaf_names_of : Value → List Leaf → List Known
leaf_names_of x [] = []
leaf_names_of x (l ∷ bl) = known l.name (ok_of (along_path l.path x)) ∷ leaf_names_of x bl

leaf_env : (x : Value) (bl : List Leaf) → env_of (leaf_names_of x bl) ≡ leaf_binds x bl
leaf_env x [] = refl
leaf_env x (l ∷ bl) = by_met (along_path l.path x) (leaf_env x bl)
  where
    by_met : (r : Met Value) → env_of (leaf_names_of x bl) ≡ leaf_binds x bl → env_of (known l.name (ok_of r) ∷ leaf_names_of x bl) ≡ bind_met l.name r ++ leaf_binds x bl
    by_met (Ok y) e = ap (λ (bs : List Bind). record { key = plain_key l.name; value = y } ∷ bs) e
    by_met (Err c) e = e

-- ---- names that are paired

module _ (is : List TInput) (ls : List Leaf) where
  abbrev At : List Known → List Known → Leaf → Type 0
  At old now l = Both l.path (lookup (env_of old) (plain_key l.input)) (lookup (env_of now) (plain_key l.name))

  -- one name more in both, which is no struct input and no leaf
  both_more : (path : List (List ℕ)) (o p : Option Value) → Both path o p → Both path (or_else o None) (or_else p None)
  both_more path None None h = h
  both_more path None (Some y) h = absurd h
  both_more path (Some x) None h = absurd h
  both_more path (Some x) (Some y) h = h

  name_apart : (name : List ℕ) (o : Option Value) (key : Key) → same_key (plain_key name) key ≡ false → lookup (env_of (known name o ∷ [])) key ≡ None
  name_apart name None key h = refl
  name_apart name (Some x) key h = one_missing (plain_key name) x key h

  pub paired_same : (old now : List Known) (name : List ℕ) (o : Option Value) → is_own is (plain_key name) ≡ false → is_leaf ls (plain_key name) ≡ false
      → Each (λ (l : Leaf). is_record_of is l.input ≡ true) ls → Paired is ls (env_of old) (env_of now)
      → Paired is ls (env_of (old ++ known name o ∷ [])) (env_of (now ++ known name o ∷ []))
  paired_same old now name o own leaf of p = record {
    others = λ key a b.
        names_append now (known name o ∷ []) key ∙ ap (λ (x : Option Value). or_else x (lookup (env_of (known name o ∷ [])) key)) (p.others key a b)
        ∙ sym (names_append old (known name o ∷ []) key);
    leaves = go ls p.leaves of (own_names ls);
  }
    where
      go : (ks : List Leaf) → Each (At old now) ks → Each (λ (l : Leaf). is_record_of is l.input ≡ true) ks → Each (λ (l : Leaf). has_name l.name (leaf_names ls) ≡ true) ks
          → Each (At (old ++ known name o ∷ []) (now ++ known name o ∷ [])) ks
      go [] h r n = tt
      go (l ∷ ks) h r n =
          let a : lookup (env_of (known name o ∷ [])) (plain_key l.input) ≡ None =
          name_apart name o (plain_key l.input) (keys_apart (λ (k : Key). not (is_own is k)) (plain_key name) (plain_key l.input) (not_from_false (is_own is (plain_key name)) own) (ap not r.0)) in
          let b : lookup (env_of (known name o ∷ [])) (plain_key l.name) ≡ None =
          name_apart name o (plain_key l.name) (keys_apart (λ (k : Key). not (is_leaf ls k)) (plain_key name) (plain_key l.name) (not_from_false (is_leaf ls (plain_key name)) leaf) (ap not n.0)) in (
            subst (λ (x : Option Value). Both l.path x (lookup (env_of (now ++ known name o ∷ [])) (plain_key l.name)))
                (sym (names_append old (known name o ∷ []) (plain_key l.input) ∙ ap (or_else (lookup (env_of old) (plain_key l.input))) a))
                (subst (λ (x : Option Value). Both l.path (or_else (lookup (env_of old) (plain_key l.input)) None) x)
                (sym (names_append now (known name o ∷ []) (plain_key l.name) ∙ ap (or_else (lookup (env_of now) (plain_key l.name))) b))
                (both_more l.path (lookup (env_of old) (plain_key l.input)) (lookup (env_of now) (plain_key l.name)) h.0)),
            go ks h.1 r.1 n.1,
          )

  -- a struct input more, and its leaves
  record_more : (path : List (List ℕ)) (o p q r : Option Value) → Both path o p → Both path q r → Both path (or_else o q) (or_else p r)
  record_more path None None q r h j = j
  record_more path None (Some y) q r h j = absurd h
  record_more path (Some x) None q r h j = absurd h
  record_more path (Some x) (Some y) q r h j = h

  pub paired_record : (old now : List Known) (n : List ℕ) (x : Value) → is_record_of is n ≡ true → are_distinct (leaf_names ls) ≡ true → is_within x ≡ true
      → Each (λ (l : Leaf). leaf_at ls l.name ≡ Some l) ls → Each (λ (l : Leaf). bytes_eq l.input n ≡ true → (y : Value) × (along_path l.path x ≡ Ok y) × (is_within y ≡ true)) ls
      → Paired is ls (env_of old) (env_of now)
      → Paired is ls (env_of (old ++ known n (Some x) ∷ [])) (env_of (now ++ leaf_names_of x (of_input n ls)))
  paired_record old now n x r distinct small at leads p = record {
    others = λ key a b.
        names_append now block key
        ∙ ap (or_else (lookup (env_of now) key)) (ap (λ (bs : List Bind). lookup bs key) (leaf_env x (of_input n ls)) ∙ block_apart x (of_input n ls) key (apart key b))
        ∙ ap (λ (o : Option Value). or_else o None) (p.others key a b)
        ∙ sym (names_append old one key ∙ ap (or_else (lookup (env_of old) key)) (one_missing (plain_key n) x key (keys_apart (is_own is) (plain_key n) key r a)));
    leaves = go ls p.leaves at leads;
  }
    where
      one : List Known
      one = known n (Some x) ∷ []

      block : List Known
      block = leaf_names_of x (of_input n ls)

      apart : (key : Key) → is_leaf ls key ≡ false → Each (λ (l : Leaf). same_key (plain_key l.name) key ≡ false) (of_input n ls)
      apart key h =
          each_kept (λ (l : Leaf). same_key (plain_key l.name) key ≡ false) ls n
          (each_by (λ (l : Leaf). has_name l.name (leaf_names ls) ≡ true) (λ (l : Leaf). same_key (plain_key l.name) key ≡ false)
          (λ l e. keys_apart (is_leaf ls) (plain_key l.name) key e h) ls (own_names ls))

      here : (l : Leaf) → leaf_at ls l.name ≡ Some l → (bytes_eq l.input n ≡ true → (y : Value) × (along_path l.path x ≡ Ok y) × (is_within y ≡ true)) → (b : Bool) → bytes_eq l.input n ≡ b
          → Both l.path (lookup (env_of (known n (Some x) ∷ [])) (plain_key l.input)) (lookup (env_of (leaf_names_of x (of_input n ls))) (plain_key l.name))
      here l a h true e =
          let y = h e in
          subst (λ (o : Option Value). Both l.path o (lookup (env_of (leaf_names_of x (of_input n ls))) (plain_key l.name)))
          (sym (one_found (plain_key n) x (plain_key l.input) (plain_same n l.input ∙ ap (λ z. bytes_eq n z) (name_is l.input n e) ∙ name_itself n)))
          (subst (λ (o : Option Value). Both l.path (Some x) o)
          (sym (ap (λ (bs : List Bind). lookup bs (plain_key l.name)) (leaf_env x (of_input n ls)) ∙ block_found x (of_input n ls) l.name l y.0 (own_leaf ls n l.name l a e) y.1))
          (small, y.2, y.1))
      here l a h false e =
          subst (λ (o : Option Value). Both l.path o (lookup (env_of (leaf_names_of x (of_input n ls))) (plain_key l.name)))
          (sym (one_missing (plain_key n) x (plain_key l.input) (plain_same n l.input ∙ apart_swapped l.input n e)))
          (subst (λ (o : Option Value). Both l.path None o)
          (sym (ap (λ (bs : List Bind). lookup bs (plain_key l.name)) (leaf_env x (of_input n ls))
          ∙ block_apart x (of_input n ls) (plain_key l.name)
          (each_by (λ (z : Leaf). bytes_eq z.name l.name ≡ false) (λ (z : Leaf). same_key (plain_key z.name) (plain_key l.name) ≡ false) (λ z m. plain_same z.name l.name ∙ m) (of_input n ls)
          (other_leaf ls n l.name l distinct a e)))) tt)

      go : (ks : List Leaf) → Each (At old now) ks → Each (λ (l : Leaf). leaf_at ls l.name ≡ Some l) ks
          → Each (λ (l : Leaf). bytes_eq l.input n ≡ true → (y : Value) × (along_path l.path x ≡ Ok y) × (is_within y ≡ true)) ks
          → Each (At (old ++ known n (Some x) ∷ []) (now ++ leaf_names_of x (of_input n ls))) ks
      go [] h a j = tt
      go (l ∷ ks) h a j = (
        subst (λ (o : Option Value). Both l.path o (lookup (env_of (now ++ leaf_names_of x (of_input n ls))) (plain_key l.name))) (sym (names_append old (known n (Some x) ∷ []) (plain_key l.input)))
            (subst (λ (o : Option Value). Both l.path (or_else (lookup (env_of old) (plain_key l.input)) (lookup (env_of (known n (Some x) ∷ [])) (plain_key l.input))) o)
            (sym (names_append now (leaf_names_of x (of_input n ls)) (plain_key l.name)))
            (record_more l.path (lookup (env_of old) (plain_key l.input)) (lookup (env_of now) (plain_key l.name)) (lookup (env_of (known n (Some x) ∷ [])) (plain_key l.input))
            (lookup (env_of (leaf_names_of x (of_input n ls))) (plain_key l.name)) h.0 (here l a.0 j.0 (bytes_eq l.input n) refl))),
        go ks h.1 a.1 j.1,
      )
