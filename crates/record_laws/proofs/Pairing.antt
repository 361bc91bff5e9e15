-- The names of a workflow, and the names with leaves in the places of struct inputs: what expressions see of both.
use Rattle.std.proofs.Common.{◌≡◌, ℕ, Bool, true, false, cond, not, ◌&&◌, List, [], ◌∷◌, ◌++◌, Option, Some, None, Ok, sym, ap, ◌∙◌, subst, refl}
use Rattle.std.specs.Prelude.{is_none}
use Rattle.std.specs.Str.{bytes_eq}
use Rattle.std.proofs.lemmas.Bool.{false≢true, and_parts, not-true}
use Rattle.std.proofs.lemmas.Option.{same_Some}
use Rattle.wdl_base.specs.declared.name.Key.{Key}
use Rattle.wdl_value.specs.declared.env.Bind.{Bind}
use Rattle.wdl_value.specs.declared.value.Value.{Value}
use Rattle.wdl_value.specs.Limits.{is_within}
use Rattle.wdl_typed.specs.declared.expr.TExpr.TheVariants as e
use Rattle.wdl_typed.specs.declared.task.TInput.{TInput}
use Rattle.wdl_typed.specs.Declarations.{plain_key}
use Rattle.wdl_typed.specs.Evaluation.{found, value_met, wrong}
use Rattle.wdl_typed.specs.Flow.{Known, env_of}
use Rattle.wdl_typed.specs.KnownTypes.{is_some}
use Rattle.wdl_typed.specs.Lists.{has_name}
use Rattle.wdl_typed.specs.Requests.{before}
use Rattle.wdl_typed.specs.Scope.{lookup, same_key}
use Rattle.wdl_eval.specs.Nodes.{within}
use Rattle.wdl_swaps.specs.declared.chain.Chain.{Chain}
use Rattle.wdl_swaps.specs.declared.chain.Hop.{Hop}
use Rattle.wdl_swaps.specs.declared.chain.Hop.TheVariants as hop
use Rattle.wdl_swaps.specs.Agreement.{Agrees, PlacesFound, met_in}
use Rattle.wdl_swaps.specs.Chains.{along, are_members, chain, expr_of}
use Rattle.wdl_swaps.specs.Swaps.{swap_at}
use Rattle.leaf_image.specs.declared.leaf.Leaf.{Leaf}
use Rattle.leaf_image.specs.Inside.{Each}
use Rattle.leaf_image.specs.Leaves.{or_else}
use Rattle.leaf_image.specs.Records.{is_own, is_record_of, leaf_swap, member_hops, swaps_of}
use Rattle.leaf_image.proofs.Eaches.{each_by}
use Rattle.flow_laws.proofs.Keys.{key_same}
use Rattle.record_laws.specs.Given.{along_path}
use Rattle.record_laws.proofs.LeafNames.{leaf_names, name_is}
use Rattle.record_laws.proofs.Lookups.{keys_apart, names_append}
use Rattle.record_laws.proofs.Paths.{kept_value, met_along, met_get, met_nothing}

-- a leaf's name
abbrev pub is_leaf : List Leaf → Key → Bool
is_leaf ls key = is_none key.second && has_name key.first (leaf_names ls)

-- a value that keeps the limits, and the value behind the path
abbrev pub There : List (List ℕ) → Option Value → Option Value → Type 0
There path (Some x) (Some y) = (is_within x ≡ true) × (is_within y ≡ true) × (along_path path x ≡ Ok y)
There path o p = ⊥

-- or neither is known
abbrev pub Both : List (List ℕ) → Option Value → Option Value → Type 0
Both path None None = Unit {0}
Both path None (Some y) = ⊥
Both path (Some x) None = ⊥
Both path (Some x) (Some y) = (is_within x ≡ true) × (is_within y ≡ true) × (along_path path x ≡ Ok y)

-- The struct inputs are known where their leaves are, and all other names have one value.
pub record Paired (is : List TInput) (ls : List Leaf) (old now : List Bind) : Type 0 where
  pub others : (key : Key) → is_own is key ≡ false → is_leaf ls key ≡ false → lookup now key ≡ lookup old key
  pub leaves : Each (λ (l : Leaf). Both l.path (lookup old (plain_key l.input)) (lookup now (plain_key l.name))) ls

-- all leaves are known
abbrev pub AllThere : List Leaf → List Bind → List Bind → Type 0
AllThere ls old now = Each (λ (l : Leaf). There l.path (lookup old (plain_key l.input)) (lookup now (plain_key l.name))) ls

pub there_both : (path : List (List ℕ)) (o p : Option Value) → There path o p → Both path o p
there_both path (Some x) (Some y) h = h
there_both path (Some x) None h = h
there_both path None p h = absurd h

-- what is there is there whatever comes behind
there_more : (path : List (List ℕ)) (o p q r : Option Value) → There path o p → There path (or_else o q) (or_else p r)
there_more path (Some x) (Some y) q r h = h
there_more path (Some x) None q r h = absurd h
there_more path None p q r h = absurd h

pub paired_more : (is : List TInput) (ls : List Leaf) (old now rest : List Known) → Paired is ls (env_of old) (env_of now) → AllThere ls (env_of old) (env_of now)
    → Paired is ls (env_of (old ++ rest)) (env_of (now ++ rest))
paired_more is ls old now rest p all = record {
  others = λ key own leaf. names_append now rest key ∙ ap (λ (o : Option Value). or_else o (lookup (env_of rest) key)) (p.others key own leaf) ∙ sym (names_append old rest key);
  leaves = each_by (λ (l : Leaf). There l.path (lookup (env_of old) (plain_key l.input)) (lookup (env_of now) (plain_key l.name)))
      (λ (l : Leaf). Both l.path (lookup (env_of (old ++ rest)) (plain_key l.input)) (lookup (env_of (now ++ rest)) (plain_key l.name)))
      (λ l h. subst (λ (o : Option Value). Both l.path o (lookup (env_of (now ++ rest)) (plain_key l.name))) (sym (names_append old rest (plain_key l.input)))
      (subst (λ (o : Option Value). Both l.path (or_else (lookup (env_of old) (plain_key l.input)) (lookup (env_of rest) (plain_key l.input))) o) (sym (names_append now rest (plain_key l.name)))
      (there_both l.path (or_else (lookup (env_of old) (plain_key l.input)) (lookup (env_of rest) (plain_key l.input)))
      (or_else (lookup (env_of now) (plain_key l.name)) (lookup (env_of rest) (plain_key l.name)))
      (there_more l.path (lookup (env_of old) (plain_key l.input)) (lookup (env_of now) (plain_key l.name)) (lookup (env_of rest) (plain_key l.input)) (lookup (env_of rest) (plain_key l.name)) h)))) ls all;
}

-- ---- what stands in a place

members_are : (hops : List Hop) (path : List (List ℕ)) → are_members hops path ≡ true → hops ≡ member_hops path
members_are [] [] h = refl
members_are [] (m ∷ ms) h = absurd (false≢true h)
members_are (hop.Cast t ∷ hs) [] h = absurd (false≢true h)
members_are (hop.Cast t ∷ hs) (m ∷ ms) h = absurd (false≢true h)
members_are (hop.Member n ∷ hs) [] h = absurd (false≢true h)
members_are (hop.Member n ∷ hs) (m ∷ ms) h =
    let p = and_parts (bytes_eq n m) (are_members hs ms) h in
    ap (λ (x : List ℕ). hop.Member x ∷ hs) (name_is n m p.0) ∙ ap (λ (xs : List Hop). hop.Member m ∷ xs) (members_are hs ms p.1)

-- the leaf that a chain is, with what holds of it
abbrev pub Leaf_ : (Leaf → Type 0) → Key → List Hop → Chain → Type 0
Leaf_ P key hops c = (l : Leaf) × P l × (key ≡ plain_key l.input) × (hops ≡ member_hops l.path) × (c ≡ chain (plain_key l.name) [])

pub leaf_found : (P : Leaf → Type 0) (ls : List Leaf) → Each P ls → (key : Key) (hops : List Hop) (c : Chain) → swap_at (swaps_of ls) key hops ≡ Some c → Leaf_ P key hops c
leaf_found P [] all key hops c h = absurd (cc)
leaf_found P (l ∷ ls) all key hops c h = by_test (same_key (plain_key l.input) key && are_members hops l.path) refl h (leaf_found P ls all.1 key hops c)
  where
    by_test : (b : Bool) → (same_key (plain_key l.input) key && are_members hops l.path) ≡ b → cond b (Some (leaf_swap l).value) (swap_at (swaps_of ls) key hops) ≡ Some c
        → (swap_at (swaps_of ls) key hops ≡ Some c → Leaf_ P key hops c) → Leaf_ P key hops c
    by_test true e h rest =
        let p = and_parts (same_key (plain_key l.input) key) (are_members hops l.path) e in
        (l, all.0, sym (key_same (plain_key l.input) key p.0), members_are hops l.path p.1, sym (same_Some _ _ h))
    by_test false e h rest = rest h

-- a reference that is no struct input has no place
pub no_place : (p : Key → Bool) (ls : List Leaf) → Each (λ (l : Leaf). p (plain_key l.input) ≡ true) ls → (key : Key) (hops : List Hop) → p key ≡ false → swap_at (swaps_of ls) key hops ≡ None
no_place p [] all key hops h = refl
no_place p (l ∷ ls) all key hops h =
    ap (λ b. cond (b && are_members hops l.path) (Some (leaf_swap l).value) (swap_at (swaps_of ls) key hops)) (keys_apart p (plain_key l.input) key all.0 h)
    ∙ no_place p ls all.1 key hops h

-- ---- agreement

pub record LeavesOf (is : List TInput) (ls : List Leaf) : Type 0 where
  pub of : Each (λ (l : Leaf). is_record_of is l.input ≡ true) ls
  pub free : Each (λ (l : Leaf). is_record_of is l.name ≡ false) ls

abbrev pub seen : List Leaf → Key → Bool
seen ls key = not (is_leaf ls key)

module _ (is : List TInput) (ls : List Leaf) (fine : LeavesOf is ls) (old now : List Bind) (p : Paired is ls old now) where
  abbrev At : Leaf → Type 0
  At l = Both l.path (lookup old (plain_key l.input)) (lookup now (plain_key l.name))

  met_leaf : (path : List (List ℕ)) (key other : Key) (o q : Option Value) → lookup old key ≡ o → lookup now other ≡ q → Both path o q
      → value_met (before now) (e.Get other) ≡ value_met (before old) (along (e.Get key) (member_hops path))
  met_leaf path key other None None i j h =
      let was : value_met (before old) (e.Get key) ≡ wrong = met_get (before old) key ∙ ap (λ (o : Option Value). within (found o)) i in
      met_get (before now) other ∙ ap (λ (o : Option Value). within (found o)) j ∙ sym (met_nothing (before old) (member_hops path) (e.Get key) None was)
  met_leaf path key other None (Some y) i j h = absurd h
  met_leaf path key other (Some x) None i j h = absurd h
  met_leaf path key other (Some x) (Some y) i j h =
      let was : value_met (before old) (e.Get key) ≡ Ok x = met_get (before old) key ∙ ap (λ (o : Option Value). within (found o)) i ∙ kept_value x h.0 in
      met_get (before now) other ∙ ap (λ (o : Option Value). within (found o)) j ∙ kept_value y h.1
      ∙ sym (met_along (before old) path (e.Get key) x was h.0 ∙ h.2)

  value_is : (key : Key) (hops : List Hop) (c : Chain) → Leaf_ At key hops c → met_in now (expr_of c) ≡ met_in old (along (e.Get key) hops)
  value_is key hops c l =
      ap (λ (d : Chain). met_in now (expr_of d)) l.4
      ∙ met_leaf l.0.path (plain_key l.0.input) (plain_key l.0.name) (lookup old (plain_key l.0.input)) (lookup now (plain_key l.0.name)) refl refl l.1
      ∙ sym (ap (λ (k : Key). met_in old (along (e.Get k) hops)) l.2 ∙ ap (λ (hs : List Hop). met_in old (along (e.Get (plain_key l.0.input)) hs)) l.3)

  both_found : (path : List (List ℕ)) (o q : Option Value) → Both path o q → is_some q ≡ is_some o
  both_found path None None h = refl
  both_found path None (Some y) h = absurd h
  both_found path (Some x) None h = absurd h
  both_found path (Some x) (Some y) h = refl

  pub agrees : Agrees (swaps_of ls) old now (seen ls) (is_own is)
  agrees = record {
    values = λ key hops c h. value_is key hops c (leaf_found At ls p.leaves key hops c h);
    roots = λ key hops c h hs.
        let l = leaf_found (λ (l : Leaf). is_record_of is l.name ≡ false) ls fine.free key hops c h in
        no_place (is_own is) ls fine.of c.key hs (ap (λ (d : Chain). is_own is d.key) l.4 ∙ l.1);
    others = λ key s g h. p.others key g (not-true (is_leaf ls key) s);
  }

  pub places : PlacesFound (swaps_of ls) old now
  places key hops c h =
      let l = leaf_found At ls p.leaves key hops c h in
      ap (λ (d : Chain). is_some (lookup now d.key)) l.4
      ∙ both_found l.0.path (lookup old (plain_key l.0.input)) (lookup now (plain_key l.0.name)) l.1
      ∙ sym (ap (λ (k : Key). is_some (lookup old k)) l.2)
