-- What two bodies see, of which the one has chains in the places of names that the other has.
use Rattle.std.proofs.Common.{◌≡◌, ℕ, Bool, true, false, cond, not, ◌&&◌, List, [], ◌∷◌, ◌++◌, append-nil, append_assoc, Option, Some, None, sym, ap, ◌∙◌, subst, refl}
use Rattle.std.specs.Prelude.{is_none}
use Rattle.std.specs.List.{list_all}
use Rattle.std.proofs.lemmas.Bool.{false≢true, and_from, and_parts}
use Rattle.std.proofs.lemmas.Option.{same_Some}
use Rattle.wdl_base.specs.declared.name.Key.{Key}
use Rattle.wdl_value.specs.declared.env.Bind.{Bind}
use Rattle.wdl_value.specs.declared.ty.Ty.{Ty}
use Rattle.wdl_value.specs.declared.value.Value.{Value}
use Rattle.wdl_value.specs.Limits.{is_within}
use Rattle.wdl_typed.specs.declared.expr.TExpr.{TExpr}
use Rattle.wdl_typed.specs.declared.expr.TExpr.TheVariants as e
use Rattle.wdl_typed.specs.declared.scope.Bound.{Bound}
use Rattle.wdl_typed.specs.Declarations.{bound, plain_key}
use Rattle.wdl_typed.specs.Evaluation.{found, settled, value_of}
use Rattle.wdl_typed.specs.Flow.{Known, all_known, env_of}
use Rattle.wdl_typed.specs.KnownTypes.{is_some}
use Rattle.wdl_typed.specs.Lists.{has_name}
use Rattle.wdl_typed.specs.Requests.{before}
use Rattle.wdl_typed.specs.Scope.{lookup, names_of, same_key, type_in}
use Rattle.wdl_swaps.specs.declared.chain.Chain.{Chain}
use Rattle.wdl_swaps.specs.declared.chain.Hop.{Hop}
use Rattle.wdl_swaps.specs.declared.chain.Hop.TheVariants as hop
use Rattle.wdl_swaps.specs.declared.swap.Swap.{Swap}
use Rattle.wdl_swaps.specs.Agreement.{Agrees, PlacesFound, is_fine, is_found, met_in}
use Rattle.wdl_swaps.specs.Chains.{along, are_members, expr_of}
use Rattle.wdl_swaps.specs.Swaps.{swap_at, swapped}
use Rattle.wdl_swaps.proofs.Names.{names_agree}
use Rattle.wdl_swaps.proofs.Values.{values_agree}
use Rattle.leaf_image.specs.Inside.{Each}
use Rattle.leaf_image.specs.Leaves.{or_else}
use Rattle.leaf_image.proofs.Eaches.{each_both, each_by}
use Rattle.flow_laws.proofs.Keys.{key_same}
use Rattle.flow_soundness.proofs.Fitting.{some_of}
use Rattle.wdl_eval.specs.Nodes.{within}
use Rattle.record_laws.proofs.Lookups.{names_append}
use Rattle.record_laws.proofs.Paths.{met_get}
use Rattle.alias_laws.proofs.FileLimits.{AllKeep, keep_both}
use Rattle.alias_laws.proofs.Hops.{chain_same}
use Rattle.wdl_task.proofs.Fit.{type_kept as type_front}

-- ---- looking up

or_nothing : (o : Option Value) → or_else o None ≡ o
or_nothing None = refl
or_nothing (Some x) = refl

-- a name that does not come behind is looked up in front
pub unmoved : (ks more : List Known) (key : Key) → lookup (env_of more) key ≡ None → lookup (env_of (ks ++ more)) key ≡ lookup (env_of ks) key
unmoved ks more key h = names_append ks more key ∙ ap (or_else (lookup (env_of ks) key)) h ∙ or_nothing (lookup (env_of ks) key)

pub type_stays : (bounds more : List Bound) (key : Key) → is_some (type_in bounds key) ≡ true → is_some (type_in (bounds ++ more) key) ≡ true
type_stays bounds more key h = let p = some_of (type_in bounds key) h in ap is_some (type_front bounds more key p.0 p.1)

not_both : (b : Bool) → b ≡ false → b ≡ true → ⊥
not_both b h k = false≢true (sym h ∙ k)

no_members : (hops : List Hop) → are_members hops [] ≡ true → hops ≡ []
no_members [] h = refl
no_members (hop.Member n ∷ hops) h = absurd (false≢true h)
no_members (hop.Cast t ∷ hops) h = absurd (false≢true h)

abbrev pub all_seen : Key → Bool
all_seen key = true

pub all_are_seen : (keys : List Key) → list_all all_seen keys ≡ true
all_are_seen [] = refl
all_are_seen (k ∷ keys) = all_are_seen keys

-- ---- an item of a scatter

abbrev pub item_known : List ℕ → Value → List Known
item_known item x = record { key = plain_key item; value = Some x } ∷ []

pub item_small : (item : List ℕ) (x : Value) → is_within x ≡ true → (declared : List (List ℕ)) (key : Key) (y : Value) → is_none key.second ≡ true → has_name key.first declared ≡ false
    → lookup (env_of (item_known item x)) key ≡ Some y → is_within y ≡ true
item_small item x w declared key y lone none h = by_test (same_key (plain_key item) key) h
  where
    by_test : (b : Bool) → (let o : Option Value = cond b (Some x) None in o ≡ Some y) → is_within y ≡ true
    by_test true h = let is : x ≡ y = cc in subst (λ (z : Value). is_within z ≡ true) is w
    by_test false h = absurd (cc)

module _ (hidden : Key → Bool) where
  -- no hidden name stands in the expression
  abbrev pub Clean : TExpr → Type 0
  Clean a = list_all (λ (k : Key). not (hidden k)) (names_of a) ≡ true

  -- ---- one name and the chain in its place

  -- The name is hidden and the chain's reference is not. The chain has the value of the name, and both have types.
  pub record Stands (bounds : List Bound) (old now : List Bind) (w : Swap) : Type 0 where
    pub path : w.path ≡ []
    pub gone : hidden w.key ≡ true
    pub shown : hidden w.value.key ≡ false
    pub value : met_in now (expr_of w.value) ≡ met_in old (e.Get w.key)
    pub known : is_found now w.value.key ≡ is_found old w.key
    pub key_seen : is_some (type_in bounds w.key) ≡ true
    pub root_seen : is_some (type_in bounds w.value.key) ≡ true

  -- what comes behind the names of both: none that has a type before, and the same but for hidden ones
  pub record Behind (bounds : List Bound) (more also : List Known) : Type 0 where
    pub apart : (key : Key) → is_some (type_in bounds key) ≡ true → lookup (env_of more) key ≡ None
    pub same : (key : Key) → hidden key ≡ false → lookup (env_of more) key ≡ lookup (env_of also) key

  pub item_behind : (bounds : List Bound) (item : List ℕ) (u : Ty) (x : Value) → ((key : Key) (t : Ty) → type_in (bound item u ∷ []) key ≡ Some t → type_in bounds key ≡ None) → Behind bounds (item_known item x) (item_known item x)
  item_behind bounds item u x new = record { apart = λ key h. by_test key h (same_key (plain_key item) key) refl; same = λ key shown. refl }
    where
      by_test : (key : Key) → is_some (type_in bounds key) ≡ true → (b : Bool) → same_key (plain_key item) key ≡ b → (let o : Option Value = cond b (Some x) None in o ≡ None)
      by_test key h true e = absurd (false≢true (sym (ap is_some (new key u (ap (λ c. cond c (Some u) None) e))) ∙ h))
      by_test key h false e = refl

  pub stands_longer : (bounds others : List Bound) (old now more also : List Known) → Behind bounds more also → (w : Swap) → Stands bounds (env_of old) (env_of now) w
      → Stands (bounds ++ others) (env_of (old ++ more)) (env_of (now ++ also)) w
  stands_longer bounds others old now more also b w s =
      let key_is : lookup (env_of (old ++ more)) w.key ≡ lookup (env_of old) w.key = unmoved old more w.key (b.apart w.key s.key_seen) in
      let root_is : lookup (env_of (now ++ also)) w.value.key ≡ lookup (env_of now) w.value.key = unmoved now also w.value.key (sym (b.same w.value.key s.shown) ∙ b.apart w.value.key s.root_seen) in
      record {
        path = s.path;
        gone = s.gone;
        shown = s.shown;
        value = chain_same (before (env_of (now ++ also))) (before (env_of now)) w.value root_is ∙ s.value
            ∙ sym (met_get (before (env_of (old ++ more))) w.key ∙ ap (λ (o : Option Value). within (found o)) key_is ∙ sym (met_get (before (env_of old)) w.key));
        known = ap is_some root_is ∙ s.known ∙ sym (ap is_some key_is);
        key_seen = type_stays bounds others w.key s.key_seen;
        root_seen = type_stays bounds others w.value.key s.root_seen;
      }

  -- ---- all of them

  -- what is found at a chain's place
  record At (old now : List Bind) (key : Key) (hops : List Hop) (c : Chain) : Type 0 where
    pub value : met_in now (expr_of c) ≡ met_in old (along (e.Get key) hops)
    pub known : is_found now c.key ≡ is_found old key
    pub shown : hidden c.key ≡ false

  module _ (bounds : List Bound) (old now : List Bind) where
    at_swap : (ss : List Swap) → Each (Stands bounds old now) ss → (key : Key) (hops : List Hop) (c : Chain) → swap_at ss key hops ≡ Some c → At old now key hops c
    at_swap [] all key hops c h = absurd (cc)
    at_swap (w ∷ ss) all key hops c h = by_test (same_key w.key key && are_members hops w.path) refl h (at_swap ss all.1 key hops c)
      where
        by_test : (b : Bool) → (same_key w.key key && are_members hops w.path) ≡ b → cond b (Some w.value) (swap_at ss key hops) ≡ Some c → (swap_at ss key hops ≡ Some c → At old now key hops c) → At old now key hops c
        by_test true i h rest =
            let p = and_parts (same_key w.key key) (are_members hops w.path) i in
            let key_is : w.key ≡ key = key_same w.key key p.0 in
            let hops_are : hops ≡ [] = no_members hops (ap (are_members hops) (sym all.0.path) ∙ p.1) in
            let same : w.value ≡ c = same_Some _ _ h in
            subst (At old now key hops) same (record {
              value = all.0.value ∙ ap (λ (k : Key). met_in old (e.Get k)) key_is ∙ ap (λ (hs : List Hop). met_in old (along (e.Get key) hs)) (sym hops_are);
              known = all.0.known ∙ ap (is_found old) key_is;
              shown = all.0.shown;
            })
        by_test false i h rest = rest h

    no_swap : (ss : List Swap) → Each (Stands bounds old now) ss → (key : Key) → hidden key ≡ false → (hops : List Hop) → swap_at ss key hops ≡ None
    no_swap [] all key s hops = refl
    no_swap (w ∷ ss) all key s hops = by_test (same_key w.key key) refl (no_swap ss all.1 key s hops)
      where
        by_test : (b : Bool) → same_key w.key key ≡ b → swap_at ss key hops ≡ None → cond (b && are_members hops w.path) (Some w.value) (swap_at ss key hops) ≡ None
        by_test true i rest = absurd (not_both (hidden key) s (ap hidden (sym (key_same w.key key i)) ∙ all.0.gone))
        by_test false i rest = rest

  module _ (declared : List (List ℕ)) where
    -- The names that are not hidden have one value; chains stand for the others. Inputs and items keep the limits of values, and so do
    -- all files.
    pub record Sees (bounds : List Bound) (ss : List Swap) (old now : List Known) : Type 0 where
      pub others : (key : Key) → hidden key ≡ false → lookup (env_of now) key ≡ lookup (env_of old) key
      pub swaps : Each (Stands bounds (env_of old) (env_of now)) ss
      pub small : (key : Key) (x : Value) → is_none key.second ≡ true → has_name key.first declared ≡ false → lookup (env_of old) key ≡ Some x → is_within x ≡ true
      pub files : AllKeep old

    module _ (bounds : List Bound) (ss : List Swap) (old now : List Known) (sees : Sees bounds ss old now) where
      agrees : Agrees ss (env_of old) (env_of now) all_seen hidden
      agrees = record {
        values = λ key hops c h. (at_swap bounds (env_of old) (env_of now) ss sees.swaps key hops c h).value;
        roots = λ key hops c h. no_swap bounds (env_of old) (env_of now) ss sees.swaps c.key (at_swap bounds (env_of old) (env_of now) ss sees.swaps key hops c h).shown;
        others = λ key seen shown none. sees.others key shown;
      }

      places : PlacesFound ss (env_of old) (env_of now)
      places key hops c h = (at_swap bounds (env_of old) (env_of now) ss sees.swaps key hops c h).known

      -- ---- expressions

      fine : (a : TExpr) → Clean (swapped ss a) → is_fine ss all_seen hidden a ≡ true
      fine a h = and_from (list_all all_seen (names_of a)) (list_all (λ (k : Key). not (hidden k)) (names_of (swapped ss a))) (all_are_seen (names_of a)) h

      pub known_same : (a : TExpr) → Clean (swapped ss a) → all_known old a ≡ all_known now (swapped ss a)
      known_same a h = sym (names_agree ss (env_of old) (env_of now) all_seen hidden agrees places a (fine a h))

      pub met_same : (a : TExpr) → Clean (swapped ss a) → met_in (env_of old) a ≡ met_in (env_of now) (swapped ss a)
      met_same a h = sym (values_agree ss (env_of old) (env_of now) all_seen hidden agrees a (fine a h))

      pub value_same : (a : TExpr) → Clean (swapped ss a) → value_of (before (env_of old)) a ≡ value_of (before (env_of now)) (swapped ss a)
      value_same a h = ap settled (met_same a h)

    -- ---- names that come later

    pub sees_longer : (bounds others : List Bound) (ss added : List Swap) (old now more also : List Known) → Sees bounds ss old now → Behind bounds more also
        → ((key : Key) (x : Value) → is_none key.second ≡ true → has_name key.first declared ≡ false → lookup (env_of more) key ≡ Some x → is_within x ≡ true) → AllKeep more
        → Each (Stands (bounds ++ others) (env_of (old ++ more)) (env_of (now ++ also))) added → Sees (bounds ++ others) (ss ++ added) (old ++ more) (now ++ also)
    sees_longer bounds others ss added old now more also s b small files new = record {
      others = λ key shown.
          names_append now also key ∙ ap (λ o. or_else o (lookup (env_of also) key)) (s.others key shown) ∙ ap (or_else (lookup (env_of old) key)) (sym (b.same key shown)) ∙ sym (names_append old more key);
      swaps = each_both (Stands (bounds ++ others) (env_of (old ++ more)) (env_of (now ++ also))) ss added
          (each_by (Stands bounds (env_of old) (env_of now)) (Stands (bounds ++ others) (env_of (old ++ more)) (env_of (now ++ also))) (stands_longer bounds others old now more also b) ss s.swaps) new;
      small = λ key x plain none h. by_front key x plain none (lookup (env_of old) key) refl (sym (names_append old more key) ∙ h);
      files = keep_both old more s.files files;
    }
      where
        by_front : (key : Key) (x : Value) → is_none key.second ≡ true → has_name key.first declared ≡ false → (o : Option Value) → lookup (env_of old) key ≡ o → or_else o (lookup (env_of more) key) ≡ Some x → is_within x ≡ true
        by_front key x plain none (Some y) e h = s.small key x plain none (e ∙ h)
        by_front key x plain none None e h = small key x plain none h

    -- The same, put together in another way.
    pub sees_grouped : (a b c : List Bound) (d e f : List Swap) (g h i j k l : List Known) → Sees ((a ++ b) ++ c) ((d ++ e) ++ f) ((g ++ h) ++ i) ((j ++ k) ++ l)
        → Sees (a ++ (b ++ c)) (d ++ (e ++ f)) (g ++ (h ++ i)) (j ++ (k ++ l))
    sees_grouped a b c d e f g h i j k l s =
        subst (λ (z : List Bound). Sees z (d ++ (e ++ f)) (g ++ (h ++ i)) (j ++ (k ++ l))) (append_assoc a b c)
        (subst (λ (z : List Swap). Sees ((a ++ b) ++ c) z (g ++ (h ++ i)) (j ++ (k ++ l))) (append_assoc d e f)
        (subst (λ (z : List Known). Sees ((a ++ b) ++ c) ((d ++ e) ++ f) z (j ++ (k ++ l))) (append_assoc g h i)
        (subst (λ (z : List Known). Sees ((a ++ b) ++ c) ((d ++ e) ++ f) ((g ++ h) ++ i) z) (append_assoc j k l) s)))

    -- with nothing behind it
    pub sees_alone : (a : List Bound) (d : List Swap) (g j : List Known) → Sees a d g j → Sees (a ++ []) (d ++ []) (g ++ []) (j ++ [])
    sees_alone a d g j s =
        subst (λ (z : List Bound). Sees z (d ++ []) (g ++ []) (j ++ [])) (sym (append-nil a))
        (subst (λ (z : List Swap). Sees a z (g ++ []) (j ++ [])) (sym (append-nil d))
        (subst (λ (z : List Known). Sees a d z (j ++ [])) (sym (append-nil g)) (subst (λ (z : List Known). Sees a d g z) (sym (append-nil j)) s)))
