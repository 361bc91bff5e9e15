-- Leaves by their names, which differ from each other and from the names of their workflow.
use Rattle.std.proofs.Common.{◌≡◌, ℕ, zero, suc, Bool, true, false, cond, not, ◌&&◌, List, [], ◌∷◌, ◌++◌, map, Option, Some, None, option_map, sym, ap, ◌∙◌, subst, refl}
use Rattle.std.specs.Str.{bytes_eq}
use Rattle.std.proofs.lemmas.Bool.{false≢true, and_from, and_parts, not-true, not_from_false, or_from, or_parts}
use Rattle.std.proofs.lemmas.Slice.Eq.{bytes_eq-Decides}
use Rattle.std.proofs.lemmas.Option.{same_Some}
use Rattle.wdl_base.specs.Names.{is_name}
use Rattle.wdl_value.specs.declared.ty.Ty.{Ty}
use Rattle.wdl_typed.specs.Lists.{are_distinct, has_name}
use Rattle.flow_laws.proofs.Checked.{has_name_append}
use Rattle.leaf_image.specs.declared.leaf.Leaf.{Leaf}
use Rattle.leaf_image.specs.declared.leaf.Place.{Place}
use Rattle.leaf_image.specs.Inside.{Each}
use Rattle.leaf_image.specs.Leaves.{free, joined, leaf, leaf_name, named, or_else}
use Rattle.leaf_image.specs.Records.{of_input}
use Rattle.leaf_image.proofs.Eaches.{each_by}
use Rattle.wdl_base.proofs.Options.{then_parts}
use Rattle.wdl_stdlib.proofs.Keys.{bytes_eq-refl as name_itself}

-- ---- names

pub apart_swapped : (a b : List ℕ) → bytes_eq a b ≡ false → bytes_eq b a ≡ false
apart_swapped a b h = by_test (bytes_eq b a) refl
  where
    by_test : (t : Bool) → bytes_eq b a ≡ t → t ≡ false
    by_test false e = refl
    by_test true e = absurd (false≢true (sym h ∙ (bytes_eq-Decides a b).1 (sym ((bytes_eq-Decides b a).0 e))))

pub name_is : (a b : List ℕ) → bytes_eq a b ≡ true → a ≡ b
name_is a b h = (bytes_eq-Decides a b).0 h

abbrev pub leaf_names : List Leaf → List (List ℕ)
leaf_names = map (λ (l : Leaf). l.name)

-- no leaf has the name
pub none_named : (ls : List Leaf) (n : List ℕ) → has_name n (leaf_names ls) ≡ false → Each (λ (l : Leaf). bytes_eq l.name n ≡ false) ls
none_named [] n h = tt
none_named (l ∷ ls) n h = let p = or_parts (bytes_eq l.name n) (has_name n (leaf_names ls)) h in (p.0, none_named ls n p.1)

-- ---- the leaf of a name

abbrev pub leaf_at : List Leaf → List ℕ → Option Leaf
leaf_at [] n = None
leaf_at (l ∷ ls) n = cond (bytes_eq l.name n) (Some l) (leaf_at ls n)

passed : (ls : List Leaf) (m : Leaf) → has_name m.name (leaf_names ls) ≡ false → Each (λ (l : Leaf). leaf_at ls l.name ≡ Some l) ls → Each (λ (l : Leaf). leaf_at (m ∷ ls) l.name ≡ Some l) ls
passed ls m apart h = go ls (none_named ls m.name apart) h
  where
    go : (ks : List Leaf) → Each (λ (l : Leaf). bytes_eq l.name m.name ≡ false) ks → Each (λ (l : Leaf). leaf_at ls l.name ≡ Some l) ks → Each (λ (l : Leaf). leaf_at (m ∷ ls) l.name ≡ Some l) ks
    go [] a h = tt
    go (k ∷ ks) a h = (ap (λ b. cond b (Some m) (leaf_at ls k.name)) (apart_swapped k.name m.name a.0) ∙ h.0, go ks a.1 h.1)

-- Leaves whose names differ are found by their names.
pub all_found : (ls : List Leaf) → are_distinct (leaf_names ls) ≡ true → Each (λ (l : Leaf). leaf_at ls l.name ≡ Some l) ls
all_found [] h = tt
all_found (l ∷ ls) h =
    let p = and_parts (not (has_name l.name (leaf_names ls))) (are_distinct (leaf_names ls)) h in
    (ap (λ b. cond b (Some l) (leaf_at ls l.name)) (name_itself l.name), passed ls l (not-true (has_name l.name (leaf_names ls)) p.0) (all_found ls p.1))

-- ---- the leaves of one input

pub each_kept : (P : Leaf → Type 0) (ls : List Leaf) (input : List ℕ) → Each P ls → Each P (of_input input ls)
each_kept P [] input h = tt
each_kept P (l ∷ ls) input h = by_input (bytes_eq l.input input) (each_kept P ls input h.1)
  where
    by_input : (b : Bool) → Each P (of_input input ls) → Each P (cond b (l ∷ []) [] ++ of_input input ls)
    by_input true rest = (h.0, rest)
    by_input false rest = rest

-- they are of that input
pub own_inputs : (n : List ℕ) (ks : List Leaf) → Each (λ (l : Leaf). l.input ≡ n) (of_input n ks)
own_inputs n [] = tt
own_inputs n (k ∷ ks) = by_input (bytes_eq k.input n) refl (own_inputs n ks)
  where
    by_input : (b : Bool) → bytes_eq k.input n ≡ b → Each (λ (l : Leaf). l.input ≡ n) (of_input n ks) → Each (λ (l : Leaf). l.input ≡ n) (cond b (k ∷ []) [] ++ of_input n ks)
    by_input true e rest = (name_is k.input n e, rest)
    by_input false e rest = rest

-- a name that is no leaf's
pub no_leaf : (ls : List Leaf) (input n : List ℕ) → has_name n (leaf_names ls) ≡ false → Each (λ (l : Leaf). bytes_eq l.name n ≡ false) (of_input input ls)
no_leaf ls input n h = each_kept (λ (l : Leaf). bytes_eq l.name n ≡ false) ls input (none_named ls n h)

-- the name of a leaf of that input
pub own_leaf : (ls : List Leaf) (input n : List ℕ) (l : Leaf) → leaf_at ls n ≡ Some l → bytes_eq l.input input ≡ true → leaf_at (of_input input ls) n ≡ Some l
own_leaf [] input n l h i = cc
own_leaf (k ∷ ks) input n l h i = by_name (bytes_eq k.name n) refl h (λ e. own_leaf ks input n l e i)
  where
    kept : bytes_eq k.name n ≡ true → k ≡ l → leaf_at (of_input input (k ∷ ks)) n ≡ Some l
    kept e same =
        let here : bytes_eq k.input input ≡ true = ap (λ (z : Leaf). bytes_eq z.input input) same ∙ i in
        ap (λ b. leaf_at (cond b (k ∷ []) [] ++ of_input input ks) n) here ∙ ap (λ b. cond b (Some k) (leaf_at (of_input input ks) n)) e ∙ ap Some same

    past : (b : Bool) → bytes_eq k.name n ≡ false → leaf_at (of_input input ks) n ≡ Some l → leaf_at (cond b (k ∷ []) [] ++ of_input input ks) n ≡ Some l
    past true e h = ap (λ b. cond b (Some k) (leaf_at (of_input input ks) n)) e ∙ h
    past false e h = h

    by_name : (b : Bool) → bytes_eq k.name n ≡ b → cond b (Some k) (leaf_at ks n) ≡ Some l → (leaf_at ks n ≡ Some l → leaf_at (of_input input ks) n ≡ Some l) → leaf_at (of_input input (k ∷ ks)) n ≡ Some l
    by_name true e h rest = kept e (same_Some _ _ h)
    by_name false e h rest = past (bytes_eq k.input input) e (rest h)

-- the name of a leaf of another input
pub other_leaf : (ls : List Leaf) (input n : List ℕ) (l : Leaf) → are_distinct (leaf_names ls) ≡ true → leaf_at ls n ≡ Some l → bytes_eq l.input input ≡ false
    → Each (λ (k : Leaf). bytes_eq k.name n ≡ false) (of_input input ls)
other_leaf [] input n l d h i = tt
other_leaf (k ∷ ks) input n l d h i =
    let p = and_parts (not (has_name k.name (leaf_names ks))) (are_distinct (leaf_names ks)) d in
    by_name (not-true (has_name k.name (leaf_names ks)) p.0) (bytes_eq k.name n) refl h (λ e. other_leaf ks input n l p.1 e i)
  where
    kept : (b : Bool) → bytes_eq k.name n ≡ false → Each (λ (z : Leaf). bytes_eq z.name n ≡ false) (of_input input ks) → Each (λ (z : Leaf). bytes_eq z.name n ≡ false) (cond b (k ∷ []) [] ++ of_input input ks)
    kept true e rest = (e, rest)
    kept false e rest = rest

    by_name : has_name k.name (leaf_names ks) ≡ false → (b : Bool) → bytes_eq k.name n ≡ b → cond b (Some k) (leaf_at ks n) ≡ Some l
        → (leaf_at ks n ≡ Some l → Each (λ (z : Leaf). bytes_eq z.name n ≡ false) (of_input input ks)) → Each (λ (z : Leaf). bytes_eq z.name n ≡ false) (of_input input (k ∷ ks))
    by_name new true e h rest =
        let same : k ≡ l = same_Some _ _ h in
        let out : bytes_eq k.input input ≡ false = ap (λ (z : Leaf). bytes_eq z.input input) same ∙ i in
        subst (λ b. Each (λ (z : Leaf). bytes_eq z.name n ≡ false) (cond b (k ∷ []) [] ++ of_input input ks)) (sym out)
        (no_leaf ks input n (ap (λ m. has_name m (leaf_names ks)) (sym (name_is k.name n e)) ∙ new))
    by_name new false e h rest = kept (bytes_eq k.input input) e (rest h)

-- ---- naming

free_new : (n : ℕ) (taken : List (List ℕ)) (s name : List ℕ) → free n taken s ≡ Some name → has_name name taken ≡ false
unfolding free
free_new zero taken s name h = cc
free_new (suc n) taken s name h = by_test (is_name s && not (has_name s taken)) refl h (λ e. free_new n taken (s ++ 95 ∷ []) name e)
  where
    by_test : (b : Bool) → (is_name s && not (has_name s taken)) ≡ b → or_else (cond b (Some s) None) (free n taken (s ++ 95 ∷ [])) ≡ Some name
        → (free n taken (s ++ 95 ∷ []) ≡ Some name → has_name name taken ≡ false) → has_name name taken ≡ false
    by_test true e h rest =
        let same : s ≡ name = same_Some _ _ h in
        ap (λ z. has_name z taken) (sym same) ∙ not-true (has_name s taken) (and_parts (is_name s) (not (has_name s taken)) e).1
    by_test false e h rest = rest h

-- what holds of places holds of their leaves
abbrev pub OfPlace : Type 1
OfPlace = List ℕ → List (List ℕ) → Ty → Type 0

pub record Named (P : OfPlace) (taken : List (List ℕ)) (ls : List Leaf) : Type 0 where
  pub new : Each (λ (l : Leaf). has_name l.name taken ≡ false) ls
  pub distinct : are_distinct (leaf_names ls) ≡ true
  pub of : Each (λ (l : Leaf). P l.input l.path l.ty) ls

not_among : (ls : List Leaf) (taken : List (List ℕ)) (n : List ℕ) → Each (λ (l : Leaf). has_name l.name (taken ++ n ∷ []) ≡ false) ls → has_name n (leaf_names ls) ≡ false
not_among [] taken n h = refl
not_among (l ∷ ls) taken n h =
    let p = has_name_append l.name taken (n ∷ []) h.0 in
    or_from (bytes_eq l.name n) (has_name n (leaf_names ls)) (apart_swapped n l.name (or_parts (bytes_eq n l.name) false p.1).0) (not_among ls taken n h.1)

pub all_named : (P : OfPlace) (ps : List Place) (taken : List (List ℕ)) (ls : List Leaf) → named taken ps ≡ Some ls → Each (λ (p : Place). P p.input p.path p.ty) ps → Named P taken ls
all_named P [] taken ls h of =
    let none : List Leaf = [] in
    let same : none ≡ ls = same_Some _ _ h in
    subst (Named P taken) same (record { new = tt; distinct = refl; of = tt })
all_named P (p ∷ ps) taken ls h of =
    let a = then_parts (λ (name : List ℕ). option_map (λ (ks : List Leaf). leaf p name ∷ ks) (named (taken ++ name ∷ []) ps)) (leaf_name taken p) ls h in
    let b = mapped (named (taken ++ a.0 ∷ []) ps) (λ (ks : List Leaf). leaf p a.0 ∷ ks) ls a.2 in
    let rest = all_named P ps (taken ++ a.0 ∷ []) b.0 b.1 of.1 in
    subst (Named P taken) b.2 (record {
      new = (free_new 129 taken (joined p.input p.path) a.0 a.1, each_by (λ (l : Leaf). has_name l.name (taken ++ a.0 ∷ []) ≡ false) (λ (l : Leaf). has_name l.name taken ≡ false) (λ l k. (has_name_append l.name taken (a.0 ∷ []) k).0) b.0 rest.new);
      distinct = and_from (not (has_name a.0 (leaf_names b.0))) (are_distinct (leaf_names b.0)) (not_from_false (has_name a.0 (leaf_names b.0)) (not_among b.0 taken a.0 rest.new)) rest.distinct;
      of = (of.0, rest.of);
    })
  where
    mapped : {A B : Type 0} (o : Option A) (f : A → B) (b : B) → option_map f o ≡ Some b → (a : A) × (o ≡ Some a) × (f a ≡ b)
    mapped None f b h = absurd (cc)
    mapped (Some a) f b h = (a, refl, same_Some _ _ h)
