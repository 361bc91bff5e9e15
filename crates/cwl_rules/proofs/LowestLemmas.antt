-- The lowest of two lists of broken rules.
use Rattle.std.proofs.Common.{◌≡◌, ◌++◌, ◌∷◌, [], ◌<◌, ◌≤◌, Bool, true, false, nat_lt, List, Option, Some, None, ap, refl, sym, ◌∙◌, cond, arith}
use Rattle.std.proofs.lemmas.Bool.{lt-ltb, ltb-true, le-ltb, ltb-false}
use Rattle.cwl_image.specs.declared.broken.Broken.{Broken}
use Rattle.cwl_image.specs.Subset.{each_broken}
use Rattle.cwl_rules.specs.Lowest.{lower, lowest}

pub lower_none : (a : Option Broken) → lower a None ≡ a
lower_none None = refl
lower_none (Some a) = refl

-- the lower one, where the test of their rules is known
chosen : (a b : Broken) (t : Bool) → nat_lt b.rule a.rule ≡ t → lower (Some a) (Some b) ≡ cond t (Some b) (Some a)
chosen a b t is = ap (λ u. cond u (Some b) (Some a)) is

three : (a b c : Broken) (s t : Bool) → nat_lt b.rule a.rule ≡ s → nat_lt c.rule b.rule ≡ t → lower (lower (Some a) (Some b)) (Some c) ≡ lower (Some a) (lower (Some b) (Some c))
three a b c true true ab bc =
    let below : c.rule < a.rule = let x = ltb-true c.rule b.rule bc in let y = ltb-true b.rule a.rule ab in omega (x, y, arith) in
    ap (λ o. lower o (Some c)) (chosen a b true ab)
    ∙ chosen b c true bc
    ∙ sym (ap (λ o. lower (Some a) o) (chosen b c true bc) ∙ chosen a c true (lt-ltb c.rule a.rule below))
three a b c true false ab bc =
    ap (λ o. lower o (Some c)) (chosen a b true ab)
    ∙ chosen b c false bc
    ∙ sym (ap (λ o. lower (Some a) o) (chosen b c false bc) ∙ chosen a b true ab)
three a b c false true ab bc =
    ap (λ o. lower o (Some c)) (chosen a b false ab) ∙ sym (ap (λ o. lower (Some a) o) (chosen b c true bc))
three a b c false false ab bc =
    let above : a.rule ≤ c.rule = let x = ltb-false c.rule b.rule bc in let y = ltb-false b.rule a.rule ab in omega (x, y, arith) in
    ap (λ o. lower o (Some c)) (chosen a b false ab)
    ∙ chosen a c false (le-ltb c.rule a.rule above)
    ∙ sym (ap (λ o. lower (Some a) o) (chosen b c false bc) ∙ chosen a b false ab)

pub lower_assoc : (a b c : Option Broken) → lower (lower a b) c ≡ lower a (lower b c)
lower_assoc None b c = refl
lower_assoc (Some a) None c = refl
lower_assoc (Some a) (Some b) None = lower_none (lower (Some a) (Some b))
lower_assoc (Some a) (Some b) (Some c) = three a b c (nat_lt b.rule a.rule) (nat_lt c.rule b.rule) refl refl

pub lowest_append : (xs ys : List Broken) → lowest (xs ++ ys) ≡ lower (lowest xs) (lowest ys)
lowest_append [] ys = refl
lowest_append (x ∷ xs) ys = ap (λ o. lower (Some x) o) (lowest_append xs ys) ∙ sym (lower_assoc (Some x) (lowest xs) (lowest ys))

-- the next of what is walked, and those after it
pub each_goes : {A : Type 0} (f : A → List Broken) (x : A) (ds xs : List A) (found one next whole : Option Broken) → ds ≡ x ∷ xs → one ≡ lowest (f x)
    → next ≡ lower found one → lower found (lowest (each_broken f ds)) ≡ whole → lower next (lowest (each_broken f xs)) ≡ whole
each_goes f x ds xs found one next whole split is added rest =
    let behind : List Broken = each_broken f xs in
    ap (λ o. lower o (lowest behind)) (added ∙ ap (lower found) is)
    ∙ lower_assoc found (lowest (f x)) (lowest behind)
    ∙ ap (lower found) (sym (lowest_append (f x) behind))
    ∙ sym (ap (λ ys. lower found (lowest (each_broken f ys))) split)
    ∙ rest
