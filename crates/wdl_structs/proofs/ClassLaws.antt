-- Classes by parents.
use Rattle.std.proofs.Common.{◌≡◌, ◌↔◌, ℕ, zero, suc, ◌+◌, ◌-◌, ◌<◌, ◌≤◌, List, [], ◌∷◌, length, get_or, set, refl, sym, ap, ◌∙◌, arith, inl, inr}
use Rattle.std.proofs.lemmas.Bool.{cases_eq}
use Rattle.wdl_structs.specs.Classes.{parent, IsLow, up, root, Marks, Follows, IsJoined}

-- ---- the number that stands for a class

up_stays : (n : ℕ) (ps : List ℕ) (i : ℕ) → parent ps i ≡ i → up n ps i ≡ i
up_stays zero ps i h = refl
up_stays (suc n) ps i h = ap (up n ps) h ∙ up_stays n ps i h

up_top : (n : ℕ) (ps : List ℕ) (i : ℕ) → IsLow ps → i ≤ n → parent ps (up n ps i) ≡ up n ps i
up_top zero ps i low h = let l = low i in omega (arith, l, h)
up_top (suc n) ps i low h = elim (cases_eq (parent ps i) i) as (λ c. parent ps (up n ps (parent ps i)) ≡ up n ps (parent ps i)) [
  | inl e ↦ let s = ap (up n ps) e ∙ up_stays n ps i e in ap (parent ps) s ∙ e ∙ sym s
  | inr ne ↦ up_top n ps (parent ps i) low (below (low i) ne)
]
  where
    below : parent ps i ≤ i → (parent ps i ≡ i → ⊥) → parent ps i ≤ n
    below l ne = omega (arith, l, ne, h)

up_more : (n : ℕ) (ps : List ℕ) (i : ℕ) → IsLow ps → i ≤ n → up (suc n) ps i ≡ up n ps i
up_more zero ps i low h = let l = low i in omega (arith, l, h)
up_more (suc n) ps i low h = elim (cases_eq (parent ps i) i) as (λ c. up (suc n) ps (parent ps i) ≡ up n ps (parent ps i)) [
  | inl e ↦ ap (up (suc n) ps) e ∙ up_stays (suc n) ps i e ∙ sym (ap (up n ps) e ∙ up_stays n ps i e)
  | inr ne ↦ up_more n ps (parent ps i) low (below (low i) ne)
]
  where
    below : parent ps i ≤ i → (parent ps i ≡ i → ⊥) → parent ps i ≤ n
    below l ne = omega (arith, l, ne, h)

up_any : (d n : ℕ) (ps : List ℕ) (i : ℕ) → IsLow ps → i ≤ n → up (d + n) ps i ≡ up n ps i
up_any zero n ps i low h = let e : 0 + n ≡ n = omega arith in ap (λ m. up m ps i) e
up_any (suc d) n ps i low h =
    let e : suc d + n ≡ suc (d + n) = omega arith in
    ap (λ m. up m ps i) e ∙ up_more (d + n) ps i low (omega (arith, h)) ∙ up_any d n ps i low h

pub root_top : (ps : List ℕ) (i : ℕ) → IsLow ps → parent ps (root ps i) ≡ root ps i
unfolding root
root_top ps i low = up_top i ps i low (omega arith)

pub root_itself : (ps : List ℕ) (i : ℕ) → parent ps i ≡ i → root ps i ≡ i
unfolding root
root_itself ps i h = up_stays i ps i h

up_low : (n : ℕ) (ps : List ℕ) (i : ℕ) → IsLow ps → up n ps i ≤ i
up_low zero ps i low = omega arith
up_low (suc n) ps i low = let l = low i in let r = up_low n ps (parent ps i) low in omega (arith, l, r)

pub root_low : (ps : List ℕ) (i : ℕ) → IsLow ps → root ps i ≤ i
unfolding root
root_low ps i low = up_low i ps i low

-- the root of the parent is that of the number
pub root_parent : (ps : List ℕ) (i : ℕ) → IsLow ps → root ps (parent ps i) ≡ root ps i
unfolding root
root_parent ps i low = on i (low i)
  where
    on : (i : ℕ) → parent ps i ≤ i → up (parent ps i) ps (parent ps i) ≡ up i ps i
    on zero l = let e : parent ps 0 ≡ 0 = omega (arith, l) in ap (λ j. up j ps j) e
    on (suc i) l = elim (cases_eq (parent ps (suc i)) (suc i)) as (λ c. up (parent ps (suc i)) ps (parent ps (suc i)) ≡ up i ps (parent ps (suc i))) [
      | inl e ↦ ap (λ j. up j ps j) e ∙ up_stays (suc i) ps (suc i) e ∙ sym (ap (up i ps) e ∙ up_stays i ps (suc i) e)
      | inr ne ↦ extra (parent ps (suc i)) i (below l ne)
    ]
      where
        below : parent ps (suc i) ≤ suc i → (parent ps (suc i) ≡ suc i → ⊥) → parent ps (suc i) ≤ i
        below l ne = omega (arith, l, ne)

        extra : (p i : ℕ) → p ≤ i → up p ps p ≡ up i ps p
        extra p i h =
            let r = up_any (i - p) p ps p low (omega arith) in
            let e : i - p + p ≡ i = omega (arith, h) in
            sym r ∙ ap (λ m. up m ps p) e

-- ---- marks that follow classes

up_follows : (n : ℕ) (ps : List ℕ) (g : Marks) (i : ℕ) → Follows ps g → g (up n ps i) ≡ g i
up_follows zero ps g i h = refl
up_follows (suc n) ps g i h = up_follows n ps g (parent ps i) h ∙ h i

pub root_follows : (ps : List ℕ) (g : Marks) (i : ℕ) → Follows ps g → g (root ps i) ≡ g i
unfolding root
root_follows ps g i h = up_follows i ps g i h

-- what is made of the roots follows the classes
pub by_roots : (ps : List ℕ) (f : Marks) → IsLow ps → Follows ps (λ i. f (root ps i))
by_roots ps f low i = ap f (root_parent ps i low)

-- ---- one class more

parent_set_same : (ps : List ℕ) (i v : ℕ) → i < length ps → parent (set ps i v) i ≡ v
parent_set_same [] i v h = absurd (omega arith)
parent_set_same (p ∷ ps) zero v h = refl
parent_set_same (p ∷ ps) (suc i) v h = at ps i v (suc i) (omega arith)
  where
    at : (ps : List ℕ) (i v d : ℕ) → i < length ps → get_or (set ps i v) i d ≡ v
    at [] i v d h = absurd (omega arith)
    at (p ∷ ps) zero v d h = refl
    at (p ∷ ps) (suc i) v d h = at ps i v d (omega arith)

get_or_set_other : (ps : List ℕ) (i v j d : ℕ) → (j ≡ i → ⊥) → get_or (set ps i v) j d ≡ get_or ps j d
get_or_set_other [] i v j d ne = refl
get_or_set_other (p ∷ ps) zero v zero d ne = absurd (ne refl)
get_or_set_other (p ∷ ps) zero v (suc j) d ne = refl
get_or_set_other (p ∷ ps) (suc i) v zero d ne = refl
get_or_set_other (p ∷ ps) (suc i) v (suc j) d ne = get_or_set_other ps i v j d (λ e. ne (ap suc e))

parent_set_other : (ps : List ℕ) (i v j : ℕ) → (j ≡ i → ⊥) → parent (set ps i v) j ≡ parent ps j
parent_set_other ps i v j ne = get_or_set_other ps i v j j ne

pub set_low : (ps : List ℕ) (i v : ℕ) → IsLow ps → i < length ps → v ≤ i → IsLow (set ps i v)
set_low ps i v low within h j = elim (cases_eq j i) as (λ c. parent (set ps i v) j ≤ j) [
  | inl e ↦ let p = ap (parent (set ps i v)) e ∙ parent_set_same ps i v within in omega (arith, p, h, e)
  | inr ne ↦ let p = parent_set_other ps i v j ne in let l = low j in omega (arith, p, l)
]

-- one class hangs below another
hung : (ps : List ℕ) (low high : ℕ) (g : Marks) → high < length ps → parent ps high ≡ high → Follows (set ps high low) g ↔ (Follows ps g × (g low ≡ g high))
hung ps low high g within top = (there, back)
  where
    there : Follows (set ps high low) g → Follows ps g × (g low ≡ g high)
    there h = (before, sym (ap g (parent_set_same ps high low within)) ∙ h high)
      where
        before : Follows ps g
        before j = elim (cases_eq j high) as (λ c. g (parent ps j) ≡ g j) [
          | inl e ↦ ap g (ap (parent ps) e ∙ top ∙ sym e)
          | inr ne ↦ sym (ap g (parent_set_other ps high low j ne)) ∙ h j
        ]

    back : Follows ps g × (g low ≡ g high) → Follows (set ps high low) g
    back h j = elim (cases_eq j high) as (λ c. g (parent (set ps high low) j) ≡ g j) [
      | inl e ↦ ap g (ap (parent (set ps high low)) e ∙ parent_set_same ps high low within) ∙ h.1 ∙ ap g (sym e)
      | inr ne ↦ ap g (parent_set_other ps high low j ne) ∙ h.0 j
    ]

pub hung_low : (ps : List ℕ) (i j first second : ℕ) → IsLow ps → j < length ps → first ≡ root ps i → second ≡ root ps j → IsJoined ps (set ps second first) i j
hung_low ps i j first second low within a b g =
    let top : parent ps second ≡ second = ap (parent ps) b ∙ root_top ps j low ∙ sym b in
    let small = root_low ps j low in
    let h = hung ps first second g (omega (arith, small, b, within)) top in (
      λ f. let r = h.0 f in (r.0, sym (ap g a ∙ root_follows ps g i r.0) ∙ r.1 ∙ ap g b ∙ root_follows ps g j r.0),
      λ f. h.1 (f.0, ap g a ∙ root_follows ps g i f.0 ∙ f.1 ∙ sym (ap g b ∙ root_follows ps g j f.0)),
    )

pub joined_back : (old new : List ℕ) (i j : ℕ) → IsJoined old new i j → IsJoined old new j i
joined_back old new i j h g = (λ f. let r = (h g).0 f in (r.0, sym r.1), λ f. (h g).1 (f.0, sym f.1))

get_or_any : (ps : List ℕ) (i d e : ℕ) → i < length ps → get_or ps i d ≡ get_or ps i e
get_or_any [] i d e h = absurd (omega arith)
get_or_any (p ∷ ps) zero d e h = refl
get_or_any (p ∷ ps) (suc i) d e h = get_or_any ps i d e (omega arith)

pub parent_within : (ps : List ℕ) (i : ℕ) → i < length ps → get_or ps i 0 ≡ parent ps i
parent_within ps i h = get_or_any ps i 0 i h

-- a number whose parent is not below it stands for its class
pub root_here : (ps : List ℕ) (i n : ℕ) → IsLow ps → i < length ps → i ≤ get_or ps i 0 → root ps i ≡ root ps n → i ≡ root ps n
root_here ps i n low within h e =
    let p = parent_within ps i within in
    let l = low i in
    let same : parent ps i ≡ i = omega (arith, p, l, h) in
    sym (root_itself ps i same) ∙ e
