-- The values of expressions in which chains stand in the places of references.
use Rattle.std.proofs.Common.{◌≡◌, ℕ, Bool, true, false, not, List, [], ◌∷◌, ◌++◌, Option, Some, None, map, refl, ap, sym, ◌∙◌, subst}
use Rattle.std.specs.List.{list_all}
use Rattle.std.proofs.lemmas.Bool.{and_parts, and_from}
use Rattle.wdl_base.specs.declared.name.Key.{Key}
use Rattle.wdl_value.specs.declared.env.Bind.{Bind}
use Rattle.wdl_value.specs.declared.value.Value.{Value}
use Rattle.wdl_value.specs.Limits.{limited}
use Rattle.wdl_typed.specs.declared.expr.TExpr.{TExpr, TExpr-F, fold-roll-TExpr, ind-TExpr, map-TExpr, roll-TExpr}
use Rattle.wdl_typed.specs.declared.expr.TExpr.TheOpen as layer
use Rattle.wdl_typed.specs.declared.expr.TExpr.TheVariants as e
use Rattle.wdl_typed.specs.declared.expr.TExpr.TheShapes.{former-TExpr-Strung-0}
use Rattle.wdl_typed.specs.declared.expr.TField.{TField}
use Rattle.wdl_typed.specs.declared.expr.TPair.{TPair}
use Rattle.wdl_typed.specs.declared.expr.TPart.{TPart}
use Rattle.wdl_typed.specs.declared.expr.TPart.TheVariants as part
use Rattle.wdl_typed.specs.Evaluation.{Met, found, met, then_, value_step}
use Rattle.wdl_typed.specs.Requests.{before}
use Rattle.wdl_typed.specs.Scope.{all_names, field_names, lookup, names_of, names_step, part_names, row_names}
use Rattle.wdl_swaps.specs.declared.chain.Chain.{Chain}
use Rattle.wdl_swaps.specs.declared.chain.Hop.TheVariants as hop
use Rattle.wdl_swaps.specs.declared.swap.Swap.{Swap}
use Rattle.wdl_swaps.specs.Agreement.{Agrees, ValuesAgree, is_fine, met_in}
use Rattle.wdl_swaps.specs.Chains.{behind, chain_of, chain_step}
use Rattle.wdl_swaps.specs.Swaps.{or_chain, swap_at, swap_chain, swap_step, swapped}
use Rattle.wdl_swaps.proofs.Chained.{along_more}
use Rattle.wdl_swaps.proofs.Moved.{Unmoved, unmoved_cast, unmoved_get, unmoved_member, unmoved_other}
use Rattle.wdl_swaps.proofs.SwapLaws.{swapped_get, swapped_member}

-- ---- names

pub all_split : (p : Key → Bool) (xs ys : List Key) → list_all p (xs ++ ys) ≡ true → (list_all p xs ≡ true) × (list_all p ys ≡ true)
all_split p [] ys h = (refl, h)
all_split p (x ∷ xs) ys h =
    let q = and_parts (p x) (list_all p (xs ++ ys)) h in
    let r = all_split p xs ys q.1 in
    (and_from (p x) (list_all p xs) q.0 r.0, r.1)

pub names_rolled : (y : TExpr-F TExpr) → names_of (roll-TExpr y) ≡ names_step (map-TExpr TExpr (List Key) names_of y)
names_rolled y = fold-roll-TExpr (List Key) names_step y

met_rolled : (env : List Bind) (y : TExpr-F TExpr) → met_in env (roll-TExpr y) ≡ value_step (before env) (map-TExpr TExpr (Met Value) (met_in env) y)
met_rolled env y = fold-roll-TExpr (Met Value) (value_step (before env)) y

pub swapped_rolled : (ss : List Swap) (y : TExpr-F TExpr) → swapped ss (roll-TExpr y) ≡ swap_step ss (map-TExpr TExpr TExpr (swapped ss) y)
unfolding swapped
swapped_rolled ss y = fold-roll-TExpr TExpr (swap_step ss) y

met_get : (env : List Bind) (key : Key) → met_in env (e.Get key) ≡ then_ (found (lookup env key)) (λ x. met (limited x))
met_get env key = ap (met_in env) (sym (e.rolls-Get key)) ∙ met_rolled env (layer.Get key)

abbrev member_met : List ℕ → Met Value → Met Value
member_met name r = value_step (before []) (layer.Member r name)

met_member : (env : List Bind) (a : TExpr) (name : List ℕ) → met_in env (e.Member a name) ≡ member_met name (met_in env a)
met_member env a name = ap (met_in env) (sym (e.rolls-Member a name)) ∙ met_rolled env (layer.Member a name)

abbrev pub rows : {A B : Type 0} → (A → B) → List (TPair A) → List (TPair B)
rows f = map (λ r. record { key = f r.key; value = f r.value })

abbrev pub fields : {A B : Type 0} → (A → B) → List (TField A) → List (TField B)
fields f = map (λ r. record { name = r.name; value = f r.value })

abbrev pub parts : {A B : Type 0} → (A → B) → List (TPart A) → List (TPart B)
parts {A} {B} f ps = (former-TExpr-Strung-0).map A B f ps

abbrev row : Met Value → Met Value → TPair (Met Value)
row a b = record { key = a; value = b }

abbrev field : List ℕ → Met Value → TField (Met Value)
field n a = record { name = n; value = a }

module _ (ss : List Swap) (old now : List Bind) (seen gone : Key → Bool) (agrees : Agrees ss old now seen gone) where
  abbrev ok : Key → Bool
  ok key = not (gone key)

  abbrev pub Means : TExpr → Type 0
  Means a = is_fine ss seen gone a ≡ true → met_in now (swapped ss a) ≡ met_in old a

  abbrev Known : Type 0
  Known = (a : TExpr) × (Unmoved ss a × Means a)

  abbrev first : Known → TExpr
  first k = k.0

  abbrev plain : TExpr-F Known → TExpr-F TExpr
  plain = map-TExpr Known TExpr first

  abbrev moved : TExpr-F TExpr → TExpr-F TExpr
  moved = map-TExpr TExpr TExpr (swapped ss)

  abbrev news : TExpr-F TExpr → TExpr-F (Met Value)
  news y = map-TExpr TExpr (Met Value) (met_in now) (moved y)

  abbrev olds : TExpr-F TExpr → TExpr-F (Met Value)
  olds = map-TExpr TExpr (Met Value) (met_in old)

  -- ---- one child, two, and lists

  abbrev Seen : List Key → Type 0
  Seen ks = list_all seen ks ≡ true

  abbrev Left : List Key → Type 0
  Left ks = list_all ok ks ≡ true

  abbrev now_of : TExpr → Met Value
  now_of a = met_in now (swapped ss a)

  abbrev left_of : TExpr → List Key
  left_of a = names_of (swapped ss a)

  one : (k : Known) → Seen (names_of k.0) → Left (left_of k.0) → now_of k.0 ≡ met_in old k.0
  one k s l = k.1.1 (and_from (list_all seen (names_of k.0)) (list_all ok (left_of k.0)) s l)

  two : {B : Type 0} (make : Met Value → Met Value → B) (k j : Known) → Seen (names_of k.0 ++ names_of j.0) → Left (left_of k.0 ++ left_of j.0)
      → make (now_of k.0) (now_of j.0) ≡ make (met_in old k.0) (met_in old j.0)
  two make k j s l =
      let p = all_split seen (names_of k.0) (names_of j.0) s in
      let q = all_split ok (left_of k.0) (left_of j.0) l in
      ap (λ x. make x (now_of j.0)) (one k p.0 q.0) ∙ ap (make (met_in old k.0)) (one j p.1 q.1)

  lists : (ks : List Known) → Seen (all_names (map names_of (map first ks))) → Left (all_names (map names_of (map (swapped ss) (map first ks))))
      → map (met_in now) (map (swapped ss) (map first ks)) ≡ map (met_in old) (map first ks)
  lists [] s l = refl
  lists (k ∷ ks) s l =
      let p = all_split seen (names_of k.0) (all_names (map names_of (map first ks))) s in
      let q = all_split ok (left_of k.0) (all_names (map names_of (map (swapped ss) (map first ks)))) l in
      ap (λ x. x ∷ map (met_in now) (map (swapped ss) (map first ks))) (one k p.0 q.0) ∙ ap (λ xs. met_in old k.0 ∷ xs) (lists ks p.1 q.1)

  all_rows : (ks : List (TPair Known)) → Seen (row_names (rows names_of (rows first ks))) → Left (row_names (rows names_of (rows (swapped ss) (rows first ks))))
      → rows (met_in now) (rows (swapped ss) (rows first ks)) ≡ rows (met_in old) (rows first ks)
  all_rows [] s l = refl
  all_rows (k ∷ ks) s l =
      let p = all_split seen (names_of k.key.0 ++ names_of k.value.0) (row_names (rows names_of (rows first ks))) s in
      let q = all_split ok (left_of k.key.0 ++ left_of k.value.0) (row_names (rows names_of (rows (swapped ss) (rows first ks)))) l in
      ap (λ x. x ∷ rows (met_in now) (rows (swapped ss) (rows first ks))) (two row k.key k.value p.0 q.0)
      ∙ ap (λ xs. row (met_in old k.key.0) (met_in old k.value.0) ∷ xs) (all_rows ks p.1 q.1)

  all_fields : (ks : List (TField Known)) → Seen (field_names (fields names_of (fields first ks))) → Left (field_names (fields names_of (fields (swapped ss) (fields first ks))))
      → fields (met_in now) (fields (swapped ss) (fields first ks)) ≡ fields (met_in old) (fields first ks)
  all_fields [] s l = refl
  all_fields (k ∷ ks) s l =
      let p = all_split seen (names_of k.value.0) (field_names (fields names_of (fields first ks))) s in
      let q = all_split ok (left_of k.value.0) (field_names (fields names_of (fields (swapped ss) (fields first ks)))) l in
      ap (λ x. field k.name x ∷ fields (met_in now) (fields (swapped ss) (fields first ks))) (one k.value p.0 q.0)
      ∙ ap (λ xs. field k.name (met_in old k.value.0) ∷ xs) (all_fields ks p.1 q.1)

  all_parts : (ks : List (TPart Known)) → Seen (part_names (parts names_of (parts first ks))) → Left (part_names (parts names_of (parts (swapped ss) (parts first ks))))
      → parts (met_in now) (parts (swapped ss) (parts first ks)) ≡ parts (met_in old) (parts first ks)
  all_parts [] s l = refl
  all_parts (part.Chars t ∷ ks) s l = ap (λ xs. part.Chars t ∷ xs) (all_parts ks s l)
  all_parts (part.Hole k ∷ ks) s l =
      let p = all_split seen (names_of k.expr.0) (part_names (parts names_of (parts first ks))) s in
      let q = all_split ok (left_of k.expr.0) (part_names (parts names_of (parts (swapped ss) (parts first ks)))) l in
      ap (λ x. part.Hole (record { expr = x; choice = k.choice }) ∷ parts (met_in now) (parts (swapped ss) (parts first ks))) (one k.expr p.0 q.0)
      ∙ ap (λ xs. part.Hole (record { expr = met_in old k.expr.0; choice = k.choice }) ∷ xs) (all_parts ks p.1 q.1)

  -- ---- references and members

  means_get : (key : Key) → Means (e.Get key)
  means_get key fine =
      let f = and_parts (list_all seen (names_of (e.Get key))) (list_all ok (left_of (e.Get key))) fine in
      by_swap (swap_at ss key []) refl f.0 f.1
    where
      names_get : names_of (e.Get key) ≡ key ∷ []
      names_get = ap names_of (sym (e.rolls-Get key)) ∙ names_rolled (layer.Get key)

      alone : (p : Key → Bool) → list_all p (names_of (e.Get key)) ≡ true → p key ≡ true
      alone p h = (and_parts (p key) true (sym (ap (list_all p) names_get) ∙ h)).0

      is_false : (b : Bool) → not b ≡ true → b ≡ false
      is_false true h = cc
      is_false false h = refl

      by_swap : (o : Option Chain) → swap_at ss key [] ≡ o → Seen (names_of (e.Get key)) → Left (left_of (e.Get key)) → now_of (e.Get key) ≡ met_in old (e.Get key)
      by_swap (Some c) at s l =
          ap (met_in now) (swapped_get ss key ∙ ap (or_chain (e.Get key)) at) ∙ agrees.values key [] c at
      by_swap None at s l =
          let same : swapped ss (e.Get key) ≡ e.Get key = swapped_get ss key ∙ ap (or_chain (e.Get key)) at in
          let here : gone key ≡ false = is_false (gone key) (alone ok (sym (ap (λ (a : TExpr). list_all ok (names_of a)) same) ∙ l)) in
          ap (met_in now) same
          ∙ met_get now key
          ∙ ap (λ o. then_ (found o) (λ x. met (limited x))) (agrees.others key (alone seen s) here at)
          ∙ sym (met_get old key)

  means_member : (a : TExpr) (name : List ℕ) → Unmoved ss a → Means a → Means (e.Member a name)
  means_member a name u m fine =
      let f = and_parts (list_all seen (names_of (e.Member a name))) (list_all ok (left_of (e.Member a name))) fine in
      by_chain (chain_of (swapped ss a)) refl f.0 f.1
    where
      names_member : (b : TExpr) → names_of (e.Member b name) ≡ names_of b
      names_member b = ap names_of (sym (e.rolls-Member b name)) ∙ names_rolled (layer.Member b name)

      -- the member stays
      stays : swapped ss (e.Member a name) ≡ e.Member (swapped ss a) name → Seen (names_of (e.Member a name)) → Left (left_of (e.Member a name))
          → now_of (e.Member a name) ≡ met_in old (e.Member a name)
      stays same s l =
          ap (met_in now) same
          ∙ met_member now (swapped ss a) name
          ∙ ap (member_met name) (m (and_from (list_all seen (names_of a)) (list_all ok (left_of a))
          (sym (ap (list_all seen) (names_member a)) ∙ s)
          (sym (ap (list_all ok) (ap names_of same ∙ names_member (swapped ss a))) ∙ l)))
          ∙ sym (met_member old a name)

      by_swap : (b : Chain) → chain_of (swapped ss a) ≡ Some b → (o : Option Chain) → swap_at ss b.key (b.hops ++ hop.Member name ∷ []) ≡ o
          → swapped ss (e.Member a name) ≡ or_chain (e.Member (swapped ss a) name) o
          → Seen (names_of (e.Member a name)) → Left (left_of (e.Member a name)) → now_of (e.Member a name) ≡ met_in old (e.Member a name)
      by_swap b is None at same s l = stays same s l
      by_swap b is (Some c) at same s l =
          ap (met_in now) same
          ∙ agrees.values b.key (b.hops ++ hop.Member name ∷ []) c at
          ∙ ap (met_in old) (along_more (e.Get b.key) b.hops (hop.Member name) ∙ sym (ap (λ (x : TExpr). e.Member x name) (u b c (b.hops ++ hop.Member name ∷ []) is at)))

      by_chain : (o : Option Chain) → chain_of (swapped ss a) ≡ o → Seen (names_of (e.Member a name)) → Left (left_of (e.Member a name))
          → now_of (e.Member a name) ≡ met_in old (e.Member a name)
      by_chain None is s l =
          stays (swapped_member ss a name ∙ ap (λ x. or_chain (e.Member (swapped ss a) name) (swap_chain ss (behind (hop.Member name) x))) is) s l
      by_chain (Some b) is s l =
          by_swap b is (swap_at ss b.key (b.hops ++ hop.Member name ∷ [])) refl
          (swapped_member ss a name ∙ ap (λ x. or_chain (e.Member (swapped ss a) name) (swap_chain ss (behind (hop.Member name) x))) is) s l

  -- ---- the other forms

  -- a form that is no reference and no member: what is made of it, its value by its parts, and what its parts have now
  other : (y : TExpr-F Known) → swap_step ss (moved (plain y)) ≡ roll-TExpr (moved (plain y)) → value_step (before now) (news (plain y)) ≡ value_step (before old) (news (plain y))
      → (Seen (names_step (map-TExpr TExpr (List Key) names_of (plain y))) → Left (names_step (map-TExpr TExpr (List Key) names_of (moved (plain y)))) → news (plain y) ≡ olds (plain y))
      → Means (roll-TExpr (plain y))
  other y kept same children fine =
      let f = and_parts (list_all seen (names_of (roll-TExpr (plain y)))) (list_all ok (left_of (roll-TExpr (plain y)))) fine in
      let made : swapped ss (roll-TExpr (plain y)) ≡ roll-TExpr (moved (plain y)) = swapped_rolled ss (plain y) ∙ kept in
      ap (met_in now) made
      ∙ met_rolled now (moved (plain y))
      ∙ same
      ∙ ap (value_step (before old)) (children (sym (ap (list_all seen) (names_rolled (plain y))) ∙ f.0)
      (sym (ap (list_all ok) (ap names_of made ∙ names_rolled (moved (plain y)))) ∙ f.1))
      ∙ sym (met_rolled old (plain y))

  no_chain : (y : TExpr-F Known) → swap_step ss (moved (plain y)) ≡ roll-TExpr (moved (plain y))
      → chain_step (map-TExpr TExpr (Option Chain) chain_of (moved (plain y))) ≡ None → Unmoved ss (roll-TExpr (plain y))
  no_chain y kept none =
      unmoved_other ss agrees.roots (roll-TExpr (plain y))
      (ap chain_of (swapped_rolled ss (plain y) ∙ kept) ∙ fold-roll-TExpr (Option Chain) chain_step (moved (plain y)) ∙ none)

  three : (c k j : Known) → Seen (names_of c.0 ++ names_of k.0 ++ names_of j.0) → Left (left_of c.0 ++ left_of k.0 ++ left_of j.0)
      → layer.Choose (now_of c.0) (now_of k.0) (now_of j.0) ≡ layer.Choose (met_in old c.0) (met_in old k.0) (met_in old j.0)
  three c k j s l =
      let p = all_split seen (names_of c.0 ++ names_of k.0) (names_of j.0) s in
      let q = all_split ok (left_of c.0 ++ left_of k.0) (left_of j.0) l in
      two (λ x z. layer.Choose x z (now_of j.0)) c k p.0 q.0 ∙ ap (layer.Choose (met_in old c.0) (met_in old k.0)) (one j p.1 q.1)

  abbrev pub Holds : TExpr → Type 0
  Holds a = Unmoved ss a × Means a

  by_layer : (y : TExpr-F Known) → Holds (roll-TExpr (plain y))
  by_layer (layer.Get key) = subst Holds (sym (e.rolls-Get key)) (unmoved_get ss agrees.roots key, means_get key)
  by_layer (layer.Member k name) =
      subst Holds (sym (e.rolls-Member k.0 name)) (unmoved_member ss agrees.roots k.0 name k.1.0, means_member k.0 name k.1.0 k.1.1)
  by_layer (layer.Cast k t) = (
    subst (Unmoved ss) (sym (e.rolls-Cast k.0 t)) (unmoved_cast ss agrees.roots k.0 t k.1.0),
    other (layer.Cast k t) refl refl (λ s l. ap (λ x. layer.Cast x t) (one k s l)),
  )
  by_layer (layer.Lit x) = (no_chain (layer.Lit x) refl refl, other (layer.Lit x) refl refl (λ s l. refl))
  by_layer (layer.At k j) = (no_chain (layer.At k j) refl refl, other (layer.At k j) refl refl (λ s l. two layer.At k j s l))
  by_layer (layer.Not k) = (no_chain (layer.Not k) refl refl, other (layer.Not k) refl refl (λ s l. ap layer.Not (one k s l)))
  by_layer (layer.Neg k) = (no_chain (layer.Neg k) refl refl, other (layer.Neg k) refl refl (λ s l. ap layer.Neg (one k s l)))
  by_layer (layer.Binary o k j) = (no_chain (layer.Binary o k j) refl refl, other (layer.Binary o k j) refl refl (λ s l. two (layer.Binary o) k j s l))
  by_layer (layer.Choose c k j) = (no_chain (layer.Choose c k j) refl refl, other (layer.Choose c k j) refl refl (λ s l. three c k j s l))
  by_layer (layer.ListOf ks) = (no_chain (layer.ListOf ks) refl refl, other (layer.ListOf ks) refl refl (λ s l. ap layer.ListOf (lists ks s l)))
  by_layer (layer.MapOf ks) = (no_chain (layer.MapOf ks) refl refl, other (layer.MapOf ks) refl refl (λ s l. ap layer.MapOf (all_rows ks s l)))
  by_layer (layer.PairOf k j) = (no_chain (layer.PairOf k j) refl refl, other (layer.PairOf k j) refl refl (λ s l. two layer.PairOf k j s l))
  by_layer (layer.StructOf name ks) =
      (no_chain (layer.StructOf name ks) refl refl, other (layer.StructOf name ks) refl refl (λ s l. ap (layer.StructOf name) (all_fields ks s l)))
  by_layer (layer.Apply f ks) = (no_chain (layer.Apply f ks) refl refl, other (layer.Apply f ks) refl refl (λ s l. ap (layer.Apply f) (lists ks s l)))
  by_layer (layer.Strung ks) = (no_chain (layer.Strung ks) refl refl, other (layer.Strung ks) refl refl (λ s l. ap layer.Strung (all_parts ks s l)))

  pub holds : (a : TExpr) → Holds a
  holds = ind-TExpr Holds (λ x y is. subst (λ (z : TExpr-F TExpr). Holds (roll-TExpr z)) is (by_layer y))

pub values_agree : ValuesAgree
values_agree ss old now seen gone agrees a fine = (holds ss old now seen gone agrees a).1 fine
