-- The items of scatters differ from names, whatever the order of those.
use Rattle.std.proofs.Common.{◌≡◌, ℕ, Bool, true, false, not, ◌&&◌, ◌||◌, List, [], ◌∷◌, ◌++◌, map, sym, ap, ◌∙◌, subst, refl}
use Rattle.std.specs.Str.{bytes_eq}
use Rattle.wdl_typed.specs.declared.flow.Statement.{Statement, Statement-F, roll-Statement, map-Statement, ind-Statement, fold-roll-Statement}
use Rattle.wdl_typed.specs.declared.flow.Statement.TheOpen as layer
use Rattle.wdl_typed.specs.Bodies.{Differing, all_differ, items_differ, items_step}
use Rattle.wdl_typed.specs.Lists.{has_name}
use Rattle.wdl_well_typed.specs.Items.{item_differs}

-- the same names
abbrev Alike : List (List ℕ) → List (List ℕ) → Type 0
Alike ts us = (n : List ℕ) → has_name n ts ≡ has_name n us

abbrev Holds : Statement → Type 0
Holds s = (ts us : List (List ℕ)) → Alike ts us → item_differs s ts ≡ item_differs s us

abbrev Known : Type 0
Known = (s : Statement) × Holds s

alike_more : (x : List ℕ) (ts us : List (List ℕ)) → Alike ts us → Alike (x ∷ ts) (x ∷ us)
alike_more x ts us alike n = ap (λ b. bytes_eq x n || b) (alike n)

all_alike : (ks : List Known) (ts us : List (List ℕ)) → Alike ts us
    → all_differ (map item_differs (map (λ (k : Known). k.0) ks)) ts ≡ all_differ (map item_differs (map (λ (k : Known). k.0) ks)) us
all_alike [] ts us alike = refl
all_alike (k ∷ ks) ts us alike =
    ap (λ b. b && all_differ (map item_differs (map (λ (j : Known). j.0) ks)) ts) (k.1 ts us alike)
    ∙ ap (λ b. item_differs k.0 us && b) (all_alike ks ts us alike)

abbrev plain : Statement-F Known → Statement-F Statement
plain = map-Statement Known Statement (λ (k : Known). k.0)

layer_alike : (y : Statement-F Known) (ts us : List (List ℕ)) → Alike ts us
    → items_step (map-Statement Statement Differing item_differs (plain y)) ts ≡ items_step (map-Statement Statement Differing item_differs (plain y)) us
layer_alike (layer.Decl d) ts us alike = refl
layer_alike (layer.Call c) ts us alike = refl
layer_alike (layer.Scatter s) ts us alike =
    ap (λ b. not b && all_differ (map item_differs (map (λ (k : Known). k.0) s.body)) (s.item ∷ ts)) (alike s.item)
    ∙ ap (λ b. not (has_name s.item us) && b) (all_alike s.body (s.item ∷ ts) (s.item ∷ us) (alike_more s.item ts us alike))
layer_alike (layer.If i) ts us alike = all_alike i.body ts us alike

pub item_differs-alike : (s : Statement) (ts us : List (List ℕ)) → Alike ts us → item_differs s ts ≡ item_differs s us
item_differs-alike = ind-Statement Holds (λ x y is. subst (λ (z : Statement-F Statement). Holds (roll-Statement z)) is (λ ts us alike.
    let e = fold-roll-Statement Differing items_step (plain y) in
    ap (λ (f : Differing). f ts) e ∙ layer_alike y ts us alike ∙ sym (ap (λ (f : Differing). f us) e)))

has_name-push : (n x : List ℕ) (ts : List (List ℕ)) → has_name n (x ∷ ts) ≡ has_name n (ts ++ x ∷ [])
has_name-push n x [] = refl
has_name-push n x (t ∷ ts) = swapped (bytes_eq x n) (bytes_eq t n) (has_name n ts) ∙ ap (λ b. bytes_eq t n || b) (has_name-push n x ts)
  where
    swapped : (a b c : Bool) → (a || (b || c)) ≡ (b || (a || c))
    swapped true true c = refl
    swapped true false c = refl
    swapped false b c = refl

-- an item may stand before the names or after them
pub items_differ_push : (ss : List Statement) (x : List ℕ) (ts : List (List ℕ)) → items_differ ss (x ∷ ts) ≡ items_differ ss (ts ++ x ∷ [])
items_differ_push [] x ts = refl
items_differ_push (s ∷ ss) x ts =
    ap (λ b. b && items_differ ss (x ∷ ts)) (item_differs-alike s _ _ (λ n. has_name-push n x ts))
    ∙ ap (λ b. item_differs s (ts ++ x ∷ []) && b) (items_differ_push ss x ts)
