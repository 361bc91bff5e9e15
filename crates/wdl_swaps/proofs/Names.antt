-- The names of expressions in which chains stand in the places of references.
use Rattle.std.proofs.Common.{◌≡◌, ℕ, Bool, true, false, not, ◌&&◌, List, [], ◌∷◌, ◌++◌, Option, Some, None, map, refl, ap, sym, ◌∙◌, subst}
use Rattle.std.specs.List.{list_all}
use Rattle.std.proofs.lemmas.Bool.{and_parts, and_from}
use Rattle.wdl_base.specs.declared.name.Key.{Key}
use Rattle.wdl_value.specs.declared.env.Bind.{Bind}
use Rattle.wdl_typed.specs.declared.expr.TExpr.{TExpr, TExpr-F, ind-TExpr, map-TExpr, roll-TExpr}
use Rattle.wdl_typed.specs.declared.expr.TExpr.TheOpen as layer
use Rattle.wdl_typed.specs.declared.expr.TExpr.TheVariants as e
use Rattle.wdl_typed.specs.declared.expr.TField.{TField}
use Rattle.wdl_typed.specs.declared.expr.TPair.{TPair}
use Rattle.wdl_typed.specs.declared.expr.TPart.{TPart}
use Rattle.wdl_typed.specs.declared.expr.TPart.TheVariants as part
use Rattle.wdl_typed.specs.KnownTypes.{is_some}
use Rattle.wdl_typed.specs.Scope.{all_names, field_names, names_of, names_step, part_names, row_names}
use Rattle.wdl_swaps.specs.declared.chain.Chain.{Chain}
use Rattle.wdl_swaps.specs.declared.chain.Hop.{Hop}
use Rattle.wdl_swaps.specs.declared.chain.Hop.TheVariants as hop
use Rattle.wdl_swaps.specs.declared.swap.Swap.{Swap}
use Rattle.wdl_swaps.specs.Agreement.{Agrees, NamesAgree, PlacesFound, is_fine, is_found}
use Rattle.wdl_swaps.specs.Chains.{along, behind, chain_of, expr_of, hopped}
use Rattle.wdl_swaps.specs.Swaps.{or_chain, swap_at, swap_chain, swap_step, swapped}
use Rattle.wdl_swaps.proofs.Moved.{Unmoved}
use Rattle.wdl_swaps.proofs.SwapLaws.{swapped_get, swapped_member}
use Rattle.wdl_swaps.proofs.Values.{all_split, fields, holds, names_rolled, parts, rows, swapped_rolled}

all_append : (p : Key → Bool) (xs ys : List Key) → list_all p (xs ++ ys) ≡ (list_all p xs && list_all p ys)
all_append p [] ys = refl
all_append p (x ∷ xs) ys = ap (λ b. p x && b) (all_append p xs ys) ∙ and_assoc (p x) (list_all p xs) (list_all p ys)
  where
    and_assoc : (a b c : Bool) → (a && (b && c)) ≡ ((a && b) && c)
    and_assoc true b c = refl
    and_assoc false b c = refl

-- a chain has the one name with which it begins
names_along : (a : TExpr) (hops : List Hop) → names_of (along a hops) ≡ names_of a
names_along a [] = refl
names_along a (h ∷ hops) = names_along (hopped a h) hops ∙ names_hop a h
  where
    names_hop : (b : TExpr) (k : Hop) → names_of (hopped b k) ≡ names_of b
    names_hop b (hop.Member name) = ap names_of (sym (e.rolls-Member b name)) ∙ names_rolled (layer.Member b name)
    names_hop b (hop.Cast t) = ap names_of (sym (e.rolls-Cast b t)) ∙ names_rolled (layer.Cast b t)

names_get : (key : Key) → names_of (e.Get key) ≡ key ∷ []
names_get key = ap names_of (sym (e.rolls-Get key)) ∙ names_rolled (layer.Get key)

pub names_chain : (c : Chain) → names_of (expr_of c) ≡ c.key ∷ []
names_chain c = names_along (e.Get c.key) c.hops ∙ names_get c.key

module _ (ss : List Swap) (old now : List Bind) (seen gone : Key → Bool) (agrees : Agrees ss old now seen gone) (places : PlacesFound ss old now) where
  abbrev ok : Key → Bool
  ok key = not (gone key)

  abbrev new : List Key → Bool
  new = list_all (is_found now)

  abbrev was : List Key → Bool
  was = list_all (is_found old)

  abbrev left_of : TExpr → List Key
  left_of a = names_of (swapped ss a)

  abbrev Found : TExpr → Type 0
  Found a = is_fine ss seen gone a ≡ true → new (left_of a) ≡ was (names_of a)

  abbrev Known : Type 0
  Known = (a : TExpr) × Found a

  abbrev first : Known → TExpr
  first k = k.0

  abbrev plain : TExpr-F Known → TExpr-F TExpr
  plain = map-TExpr Known TExpr first

  abbrev moved : TExpr-F TExpr → TExpr-F TExpr
  moved = map-TExpr TExpr TExpr (swapped ss)

  abbrev names_in : TExpr-F TExpr → List Key
  names_in y = names_step (map-TExpr TExpr (List Key) names_of y)

  -- names that are all seen and left, and are found now where they were
  abbrev Agree : List Key → List Key → Type 0
  Agree ns ms = list_all seen ms ≡ true → list_all ok ns ≡ true → new ns ≡ was ms

  one : (k : Known) → Agree (left_of k.0) (names_of k.0)
  one k s l = k.1 (and_from (list_all seen (names_of k.0)) (list_all ok (left_of k.0)) s l)

  none : Agree [] []
  none s l = refl

  joined : (ns ms os ps : List Key) → Agree ns ms → Agree os ps → Agree (ns ++ os) (ms ++ ps)
  joined ns ms os ps f g s l =
      let p = all_split seen ms ps s in
      let q = all_split ok ns os l in
      all_append (is_found now) ns os
      ∙ ap (λ b. b && new os) (f p.0 q.0)
      ∙ ap (λ b. was ms && b) (g p.1 q.1)
      ∙ sym (all_append (is_found old) ms ps)

  two : (k j : Known) → Agree (left_of k.0 ++ left_of j.0) (names_of k.0 ++ names_of j.0)
  two k j = joined (left_of k.0) (names_of k.0) (left_of j.0) (names_of j.0) (one k) (one j)

  lists : (ks : List Known) → Agree (all_names (map names_of (map (swapped ss) (map first ks)))) (all_names (map names_of (map first ks)))
  lists [] = none
  lists (k ∷ ks) =
      joined (left_of k.0) (names_of k.0) (all_names (map names_of (map (swapped ss) (map first ks)))) (all_names (map names_of (map first ks))) (one k) (lists ks)

  all_rows : (ks : List (TPair Known)) → Agree (row_names (rows names_of (rows (swapped ss) (rows first ks)))) (row_names (rows names_of (rows first ks)))
  all_rows [] = none
  all_rows (k ∷ ks) =
      joined (left_of k.key.0 ++ left_of k.value.0) (names_of k.key.0 ++ names_of k.value.0)
      (row_names (rows names_of (rows (swapped ss) (rows first ks)))) (row_names (rows names_of (rows first ks))) (two k.key k.value) (all_rows ks)

  all_fields : (ks : List (TField Known)) → Agree (field_names (fields names_of (fields (swapped ss) (fields first ks)))) (field_names (fields names_of (fields first ks)))
  all_fields [] = none
  all_fields (k ∷ ks) =
      joined (left_of k.value.0) (names_of k.value.0) (field_names (fields names_of (fields (swapped ss) (fields first ks)))) (field_names (fields names_of (fields first ks)))
      (one k.value) (all_fields ks)

  all_parts : (ks : List (TPart Known)) → Agree (part_names (parts names_of (parts (swapped ss) (parts first ks)))) (part_names (parts names_of (parts first ks)))
  all_parts [] = none
  all_parts (part.Chars t ∷ ks) = all_parts ks
  all_parts (part.Hole k ∷ ks) =
      joined (left_of k.expr.0) (names_of k.expr.0) (part_names (parts names_of (parts (swapped ss) (parts first ks)))) (part_names (parts names_of (parts first ks)))
      (one k.expr) (all_parts ks)

  -- ---- references and members

  found_get : (key : Key) → Found (e.Get key)
  found_get key fine =
      let f = and_parts (list_all seen (names_of (e.Get key))) (list_all ok (left_of (e.Get key))) fine in
      by_swap (swap_at ss key []) refl f.0 f.1
    where
      alone : (p : Key → Bool) → list_all p (names_of (e.Get key)) ≡ true → p key ≡ true
      alone p h = (and_parts (p key) true (sym (ap (list_all p) (names_get key)) ∙ h)).0

      is_false : (b : Bool) → not b ≡ true → b ≡ false
      is_false true h = cc
      is_false false h = refl

      by_swap : (o : Option Chain) → swap_at ss key [] ≡ o → list_all seen (names_of (e.Get key)) ≡ true → list_all ok (left_of (e.Get key)) ≡ true
          → new (left_of (e.Get key)) ≡ was (names_of (e.Get key))
      by_swap (Some c) at s l =
          ap new (ap names_of (swapped_get ss key ∙ ap (or_chain (e.Get key)) at) ∙ names_chain c)
          ∙ ap (λ b. b && true) (places key [] c at)
          ∙ sym (ap was (names_get key))
      by_swap None at s l =
          let same : swapped ss (e.Get key) ≡ e.Get key = swapped_get ss key ∙ ap (or_chain (e.Get key)) at in
          let here : gone key ≡ false = is_false (gone key) (alone ok (sym (ap (λ (a : TExpr). list_all ok (names_of a)) same) ∙ l)) in
          ap new (ap names_of same ∙ names_get key)
          ∙ ap (λ o. is_some o && true) (agrees.others key (alone seen s) here at)
          ∙ sym (ap was (names_get key))

  found_member : (a : TExpr) (name : List ℕ) → Found a → Found (e.Member a name)
  found_member a name m fine =
      let f = and_parts (list_all seen (names_of (e.Member a name))) (list_all ok (left_of (e.Member a name))) fine in
      by_chain (chain_of (swapped ss a)) refl f.0 f.1
    where
      names_member : (b : TExpr) → names_of (e.Member b name) ≡ names_of b
      names_member b = ap names_of (sym (e.rolls-Member b name)) ∙ names_rolled (layer.Member b name)

      u : Unmoved ss a
      u = (holds ss old now seen gone agrees a).0

      stays : swapped ss (e.Member a name) ≡ e.Member (swapped ss a) name → list_all seen (names_of (e.Member a name)) ≡ true → list_all ok (left_of (e.Member a name)) ≡ true
          → new (left_of (e.Member a name)) ≡ was (names_of (e.Member a name))
      stays same s l =
          ap new (ap names_of same ∙ names_member (swapped ss a))
          ∙ m (and_from (list_all seen (names_of a)) (list_all ok (left_of a))
          (sym (ap (list_all seen) (names_member a)) ∙ s)
          (sym (ap (list_all ok) (ap names_of same ∙ names_member (swapped ss a))) ∙ l))
          ∙ sym (ap was (names_member a))

      by_swap : (b : Chain) → chain_of (swapped ss a) ≡ Some b → (o : Option Chain) → swap_at ss b.key (b.hops ++ hop.Member name ∷ []) ≡ o
          → swapped ss (e.Member a name) ≡ or_chain (e.Member (swapped ss a) name) o
          → list_all seen (names_of (e.Member a name)) ≡ true → list_all ok (left_of (e.Member a name)) ≡ true
          → new (left_of (e.Member a name)) ≡ was (names_of (e.Member a name))
      by_swap b is None at same s l = stays same s l
      by_swap b is (Some c) at same s l =
          ap new (ap names_of same ∙ names_chain c)
          ∙ ap (λ t. t && true) (places b.key (b.hops ++ hop.Member name ∷ []) c at)
          ∙ sym (ap was (names_member a ∙ ap names_of (u b c (b.hops ++ hop.Member name ∷ []) is at) ∙ names_chain b))

      by_chain : (o : Option Chain) → chain_of (swapped ss a) ≡ o → list_all seen (names_of (e.Member a name)) ≡ true → list_all ok (left_of (e.Member a name)) ≡ true
          → new (left_of (e.Member a name)) ≡ was (names_of (e.Member a name))
      by_chain None is s l =
          stays (swapped_member ss a name ∙ ap (λ x. or_chain (e.Member (swapped ss a) name) (swap_chain ss (behind (hop.Member name) x))) is) s l
      by_chain (Some b) is s l =
          by_swap b is (swap_at ss b.key (b.hops ++ hop.Member name ∷ [])) refl
          (swapped_member ss a name ∙ ap (λ x. or_chain (e.Member (swapped ss a) name) (swap_chain ss (behind (hop.Member name) x))) is) s l

  -- ---- the other forms

  other : (y : TExpr-F Known) → swap_step ss (moved (plain y)) ≡ roll-TExpr (moved (plain y)) → Agree (names_in (moved (plain y))) (names_in (plain y))
      → Found (roll-TExpr (plain y))
  other y kept agree fine =
      let f = and_parts (list_all seen (names_of (roll-TExpr (plain y)))) (list_all ok (left_of (roll-TExpr (plain y)))) fine in
      let made : swapped ss (roll-TExpr (plain y)) ≡ roll-TExpr (moved (plain y)) = swapped_rolled ss (plain y) ∙ kept in
      let names : left_of (roll-TExpr (plain y)) ≡ names_in (moved (plain y)) = ap names_of made ∙ names_rolled (moved (plain y)) in
      ap new names
      ∙ agree (sym (ap (list_all seen) (names_rolled (plain y))) ∙ f.0) (sym (ap (list_all ok) names) ∙ f.1)
      ∙ sym (ap was (names_rolled (plain y)))

  by_layer : (y : TExpr-F Known) → Found (roll-TExpr (plain y))
  by_layer (layer.Get key) = subst Found (sym (e.rolls-Get key)) (found_get key)
  by_layer (layer.Member k name) = subst Found (sym (e.rolls-Member k.0 name)) (found_member k.0 name k.1)
  by_layer (layer.Lit x) = other (layer.Lit x) refl none
  by_layer (layer.At k j) = other (layer.At k j) refl (two k j)
  by_layer (layer.Not k) = other (layer.Not k) refl (one k)
  by_layer (layer.Neg k) = other (layer.Neg k) refl (one k)
  by_layer (layer.Binary o k j) = other (layer.Binary o k j) refl (two k j)
  by_layer (layer.Choose c k j) =
      other (layer.Choose c k j) refl (joined (left_of c.0 ++ left_of k.0) (names_of c.0 ++ names_of k.0) (left_of j.0) (names_of j.0) (two c k) (one j))
  by_layer (layer.ListOf ks) = other (layer.ListOf ks) refl (lists ks)
  by_layer (layer.MapOf ks) = other (layer.MapOf ks) refl (all_rows ks)
  by_layer (layer.PairOf k j) = other (layer.PairOf k j) refl (two k j)
  by_layer (layer.StructOf name ks) = other (layer.StructOf name ks) refl (all_fields ks)
  by_layer (layer.Apply f ks) = other (layer.Apply f ks) refl (lists ks)
  by_layer (layer.Strung ks) = other (layer.Strung ks) refl (all_parts ks)
  by_layer (layer.Cast k t) = other (layer.Cast k t) refl (one k)

  agreeing : (a : TExpr) → Found a
  agreeing = ind-TExpr Found (λ x y is. subst (λ (z : TExpr-F TExpr). Found (roll-TExpr z)) is (by_layer y))

pub names_agree : NamesAgree
names_agree ss old now seen gone agrees places a fine = agreeing ss old now seen gone agrees places a fine
