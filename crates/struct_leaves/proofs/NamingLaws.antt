-- The names of leaves.
use Rattle.std.proofs.Common.{◌≡◌, ◌-◌, ◌<◌, ℕ, zero, suc, List, [], ◌∷◌, ◌++◌, Option, Some, None, option_map, refl, ap, sym, ◌∙◌, append_assoc, arith}
use Rattle.leaf_image.specs.declared.leaf.Leaf.{Leaf}
use Rattle.leaf_image.specs.declared.leaf.Place.{Place}
use Rattle.leaf_image.specs.Leaves.{free, leaf, leaf_name, named, or_else, untaken}

pub free_none : (taken : List (List ℕ)) (s : List ℕ) → free 0 taken s ≡ None
unfolding free
free_none taken s = refl

pub deeper : (n : ℕ) (taken : List (List ℕ)) (s : List ℕ) → free (suc n) taken s ≡ or_else (untaken taken s) (free n taken (s ++ 95 ∷ []))
unfolding free
deeper n taken s = refl

pub free_some : (n : ℕ) (taken : List (List ℕ)) (s : List ℕ) → 0 < n → free n taken s ≡ or_else (untaken taken s) (free (n - 1) taken (s ++ 95 ∷ []))
free_some zero taken s some = absurd (omega (arith, some))
free_some (suc n) taken s some =
    let e : suc n - 1 ≡ n = omega arith in
    deeper n taken s ∙ ap (λ k. or_else (untaken taken s) (free k taken (s ++ 95 ∷ []))) (sym e)

-- ---- one leaf after another

abbrev pub before : List Leaf → Option (List Leaf) → Option (List Leaf)
before ls o = option_map (λ ms. ls ++ ms) o

one_more : (ls : List Leaf) (l : Leaf) (o : Option (List Leaf)) → before (ls ++ l ∷ []) o ≡ before ls (option_map (λ ms. l ∷ ms) o)
one_more ls l None = refl
one_more ls l (Some ms) = ap Some (append_assoc ls (l ∷ []) ms)

-- the next leaf has this name
pub goes_on : (ls now : List Leaf) (p : Place) (ps all : List Place) (taken more : List (List ℕ)) (name : List ℕ) (whole : Option (List Leaf))
    → all ≡ p ∷ ps → leaf_name taken p ≡ Some name → more ≡ taken ++ name ∷ [] → now ≡ ls ++ leaf p name ∷ []
    → before ls (named taken all) ≡ whole → before now (named more ps) ≡ whole
goes_on ls now p ps all taken more name whole split found entered pushed rest =
    ap (λ (x : List Leaf). before x (named more ps)) pushed
    ∙ ap (λ m. before (ls ++ leaf p name ∷ []) (named m ps)) entered
    ∙ one_more ls (leaf p name) (named (taken ++ name ∷ []) ps)
    ∙ sym (ap (λ (o : Option (List ℕ)). before ls (next o)) found)
    ∙ sym (ap (λ (xs : List Place). before ls (named taken xs)) split)
    ∙ rest
  where
    next : Option (List ℕ) → Option (List Leaf)
    next None = None
    next (Some n) = option_map (λ ms. leaf p n ∷ ms) (named (taken ++ n ∷ []) ps)
