-- Expressions in which nothing is replaced.
use Rattle.std.proofs.Common.{◌≡◌, ℕ, List, [], ◌∷◌, Option, Some, None, map, refl, ap, sym, ◌∙◌, subst}
use Rattle.wdl_typed.specs.declared.expr.TExpr.{TExpr, TExpr-F, fold-roll-TExpr, ind-TExpr, map-TExpr, roll-TExpr}
use Rattle.wdl_typed.specs.declared.expr.TExpr.TheOpen as layer
use Rattle.wdl_typed.specs.declared.expr.TExpr.TheVariants as e
use Rattle.wdl_typed.specs.declared.expr.TExpr.TheShapes.{former-TExpr-Strung-0}
use Rattle.wdl_typed.specs.declared.expr.TField.{TField}
use Rattle.wdl_typed.specs.declared.expr.TPair.{TPair}
use Rattle.wdl_typed.specs.declared.expr.TPart.{TPart}
use Rattle.wdl_typed.specs.declared.expr.TPart.TheVariants as part
use Rattle.wdl_swaps.specs.declared.chain.Chain.{Chain}
use Rattle.wdl_swaps.specs.declared.chain.Hop.TheVariants as hop
use Rattle.wdl_swaps.specs.Chains.{behind, chain_of}
use Rattle.wdl_swaps.specs.Swaps.{or_chain, swap_chain, swap_step, swapped}

abbrev Holds : TExpr → Type 0
Holds a = swapped [] a ≡ a

abbrev Known : Type 0
Known = (a : TExpr) × Holds a

abbrev first : Known → TExpr
first k = k.0

abbrev plain : TExpr-F Known → TExpr-F TExpr
plain = map-TExpr Known TExpr first

abbrev again : TExpr-F TExpr → TExpr-F TExpr
again = map-TExpr TExpr TExpr (swapped [])

lists_kept : (ks : List Known) → map (swapped []) (map first ks) ≡ map first ks
lists_kept [] = refl
lists_kept (k ∷ ks) = ap (λ (a : TExpr). a ∷ map (swapped []) (map first ks)) k.1 ∙ ap (λ (as_ : List TExpr). k.0 ∷ as_) (lists_kept ks)

abbrev rows : {A B : Type 0} → (A → B) → List (TPair A) → List (TPair B)
rows f = map (λ r. record { key = f r.key; value = f r.value })

abbrev fields : {A B : Type 0} → (A → B) → List (TField A) → List (TField B)
fields f = map (λ r. record { name = r.name; value = f r.value })

abbrev row : TExpr → TExpr → TPair TExpr
row a b = record { key = a; value = b }

rows_kept : (ks : List (TPair Known)) → rows (swapped []) (rows first ks) ≡ rows first ks
rows_kept [] = refl
rows_kept (k ∷ ks) =
    ap (λ (a : TExpr). row a (swapped [] k.value.0) ∷ rows (swapped []) (rows first ks)) k.key.1
    ∙ ap (λ (a : TExpr). row k.key.0 a ∷ rows (swapped []) (rows first ks)) k.value.1
    ∙ ap (λ (as_ : List (TPair TExpr)). row k.key.0 k.value.0 ∷ as_) (rows_kept ks)

abbrev field : List ℕ → TExpr → TField TExpr
field n a = record { name = n; value = a }

fields_kept : (ks : List (TField Known)) → fields (swapped []) (fields first ks) ≡ fields first ks
fields_kept [] = refl
fields_kept (k ∷ ks) =
    ap (λ (a : TExpr). field k.name a ∷ fields (swapped []) (fields first ks)) k.value.1
    ∙ ap (λ (as_ : List (TField TExpr)). field k.name k.value.0 ∷ as_) (fields_kept ks)

abbrev parts : {A B : Type 0} → (A → B) → List (TPart A) → List (TPart B)
parts {A} {B} f ps = (former-TExpr-Strung-0).map A B f ps

parts_kept : (ks : List (TPart Known)) → parts (swapped []) (parts first ks) ≡ parts first ks
parts_kept [] = refl
parts_kept (part.Chars s ∷ ks) = ap (λ z. part.Chars s ∷ z) (parts_kept ks)
parts_kept (part.Hole k ∷ ks) =
    ap (λ (a : TExpr). part.Hole (record { expr = a; choice = k.choice }) ∷ parts (swapped []) (parts first ks)) k.expr.1
    ∙ ap (λ z. part.Hole (record { expr = k.expr.0; choice = k.choice }) ∷ z) (parts_kept ks)

both_kept : (make : TExpr → TExpr → TExpr-F TExpr) (k l : Known) → make (swapped [] k.0) (swapped [] l.0) ≡ make k.0 l.0
both_kept make k l = ap (λ (a : TExpr). make a (swapped [] l.0)) k.1 ∙ ap (make k.0) l.1

children_kept : (y : TExpr-F Known) → again (plain y) ≡ plain y
children_kept (layer.Lit x) = refl
children_kept (layer.Get key) = refl
children_kept (layer.Member k name) = ap (λ (a : TExpr). layer.Member a name) k.1
children_kept (layer.At k l) = both_kept layer.At k l
children_kept (layer.Not k) = ap layer.Not k.1
children_kept (layer.Neg k) = ap layer.Neg k.1
children_kept (layer.Binary o k l) = both_kept (layer.Binary o) k l
children_kept (layer.Choose c k l) = ap (λ (a : TExpr). layer.Choose a (swapped [] k.0) (swapped [] l.0)) c.1 ∙ both_kept (layer.Choose c.0) k l
children_kept (layer.ListOf ks) = ap layer.ListOf (lists_kept ks)
children_kept (layer.MapOf ks) = ap layer.MapOf (rows_kept ks)
children_kept (layer.PairOf k l) = both_kept layer.PairOf k l
children_kept (layer.StructOf name ks) = ap (layer.StructOf name) (fields_kept ks)
children_kept (layer.Apply f ks) = ap (layer.Apply f) (lists_kept ks)
children_kept (layer.Strung ks) = ap layer.Strung (parts_kept ks)
children_kept (layer.Cast k t) = ap (λ (a : TExpr). layer.Cast a t) k.1

no_swap : (a : TExpr) (o : Option Chain) → or_chain a (swap_chain [] o) ≡ a
no_swap a None = refl
no_swap a (Some c) = refl

step_kept : (y : TExpr-F TExpr) → swap_step [] y ≡ roll-TExpr y
step_kept (layer.Lit x) = refl
step_kept (layer.Get key) = sym (e.rolls-Get key)
step_kept (layer.Member a name) = no_swap (e.Member a name) (behind (hop.Member name) (chain_of a)) ∙ sym (e.rolls-Member a name)
step_kept (layer.At a b) = refl
step_kept (layer.Not a) = refl
step_kept (layer.Neg a) = refl
step_kept (layer.Binary o a b) = refl
step_kept (layer.Choose c a b) = refl
step_kept (layer.ListOf es) = refl
step_kept (layer.MapOf rs) = refl
step_kept (layer.PairOf a b) = refl
step_kept (layer.StructOf name fs) = refl
step_kept (layer.Apply f es) = refl
step_kept (layer.Strung ps) = refl
step_kept (layer.Cast a t) = refl

opened : (y : TExpr-F TExpr) → swapped [] (roll-TExpr y) ≡ swap_step [] (again y)
unfolding swapped
opened y = fold-roll-TExpr TExpr (swap_step []) y

pub swapped_nothing : (a : TExpr) → swapped [] a ≡ a
swapped_nothing = ind-TExpr Holds (λ x y is. subst (λ (z : TExpr-F TExpr). Holds (roll-TExpr z)) is
    (opened (plain y) ∙ ap (swap_step []) (children_kept y) ∙ step_kept (plain y)))
