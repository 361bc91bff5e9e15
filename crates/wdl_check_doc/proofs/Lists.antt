-- Checks of lists, one member after the other, and faults in a document.
use Rattle.std.proofs.Common.{◌≡◌, ℕ, zero, suc, ◌≤◌, List, [], ◌∷◌, ◌++◌, Some, Result, Ok, Err, drop, length, map, refl, ap, sym, subst, inl, inr, arith}
use Rattle.wdl_check_rules.specs.declared.fault.CheckFault.{CheckFault}
use Rattle.wdl_check_rules.specs.declared.fault.CheckFault.TheVariants.{Bad, NoMemory}
use Rattle.wdl_check_rules.specs.Conditions as condition
use Rattle.wdl_check_types.specs.Outcome.{Answers, Outcome}
use Rattle.wdl_check_decls.proofs.ListLaws.{Leads, leads_done, leads_err, leads_on}
use Rattle.wdl_check_doc.specs.Outcomes.{all, each, placed, placed_answer, placed_fault}

among_placed : (number : ℕ) (f : CheckFault) (gs : condition.Conditions) → condition.is_among f gs → condition.is_among (placed_fault number f) (map (placed_fault number) gs)
among_placed number f [] h = absurd h
among_placed number f (g ∷ gs) (inl e) = inl (ap (placed_fault number) e)
among_placed number f (g ∷ gs) (inr h) = inr (among_placed number f gs h)

-- what answers, answers in the document
pub answers_placed : {A : Type 0} (number : ℕ) (o : Outcome A) (r : Result A CheckFault) → Answers o r → Answers (placed number o) (placed_answer number r)
answers_placed number o (Ok a) h = h
answers_placed number o (Err NoMemory) h = tt
answers_placed number o (Err (Bad code s)) h = (h.0, among_placed number (Bad code s) o.conditions h.1)

-- ---- one member after the other

pub drop_end : {A : Type 0} (xs : List A) (i : ℕ) → length xs ≤ i → drop i xs ≡ []
drop_end [] zero h = refl
drop_end [] (suc i) h = refl
drop_end (x ∷ xs) zero h = absurd (omega arith)
drop_end (x ∷ xs) (suc i) h = drop_end xs i (omega arith)

pub all_err : {A : Type 0} (f : A → Outcome (Unit {0})) (ys : List A) (x : A) (rest : List A) (w : Outcome (Unit {0})) (e : CheckFault)
    → ys ≡ x ∷ rest → Leads (all f ys) w → Answers (f x) (Err e) → Answers w (Err e)
all_err {A} f ys x rest w e is l h = leads_err (f x) (λ u. all f rest) w e h (subst (λ (zs : List A). Leads (all f zs) w) is l)

pub all_on : {A : Type 0} (f : A → Outcome (Unit {0})) (ys : List A) (x : A) (rest : List A) (w : Outcome (Unit {0}))
    → ys ≡ x ∷ rest → Leads (all f ys) w → (f x).typed ≡ Some tt → Leads (all f rest) w
all_on {A} f ys x rest w is l h = leads_on (f x) (λ u. all f rest) w tt h (subst (λ (zs : List A). Leads (all f zs) w) is l)

pub all_end : {A : Type 0} (f : A → Outcome (Unit {0})) (ys : List A) (w : Outcome (Unit {0})) → ys ≡ [] → Leads (all f ys) w → w.typed ≡ Some tt
all_end {A} f ys w is l = leads_done tt w (subst (λ (zs : List A). Leads (all f zs) w) is l)

pub each_err : {A B : Type 0} (f : A → Outcome B) (before : List B) (ys : List A) (x : A) (rest : List A) (w : Outcome (List B)) (e : CheckFault)
    → ys ≡ x ∷ rest → Leads (each f before ys) w → Answers (f x) (Err e) → Answers w (Err e)
each_err {A} f before ys x rest w e is l h =
    leads_err (f x) (λ b. each f (before ++ b ∷ []) rest) w e h (subst (λ (zs : List A). Leads (each f before zs) w) is l)

pub each_on : {A B : Type 0} (f : A → Outcome B) (before : List B) (ys : List A) (x : A) (rest : List A) (w : Outcome (List B)) (b : B)
    → ys ≡ x ∷ rest → Leads (each f before ys) w → (f x).typed ≡ Some b → Leads (each f (before ++ b ∷ []) rest) w
each_on {A} f before ys x rest w b is l h =
    leads_on (f x) (λ c. each f (before ++ c ∷ []) rest) w b h (subst (λ (zs : List A). Leads (each f before zs) w) is l)

pub each_end : {A B : Type 0} (f : A → Outcome B) (before : List B) (ys : List A) (w : Outcome (List B)) → ys ≡ [] → Leads (each f before ys) w → w.typed ≡ Some before
each_end {A} f before ys w is l = leads_done before w (subst (λ (zs : List A). Leads (each f before zs) w) is l)

pub each_on_to : {A B : Type 0} (f : A → Outcome B) (before more : List B) (ys : List A) (x : A) (rest : List A) (w : Outcome (List B)) (b : B)
    → more ≡ before ++ b ∷ [] → ys ≡ x ∷ rest → Leads (each f before ys) w → (f x).typed ≡ Some b → Leads (each f more rest) w
each_on_to {A} {B} f before more ys x rest w b same is l h =
    subst (λ (bs : List B). Leads (each f bs rest) w) (sym same) (each_on f before ys x rest w b is l h)

pub mapped_more : {A B : Type 0} (f : A → B) (xs : List A) (x : A) → map f (xs ++ x ∷ []) ≡ map f xs ++ f x ∷ []
mapped_more f [] x = refl
mapped_more {A} {B} f (y ∷ ys) x = ap (λ (zs : List B). f y ∷ zs) (mapped_more f ys x)
