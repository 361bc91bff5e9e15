-- Checks of lists, one member after the other: what is still to be checked leads to the whole.
use Rattle.std.proofs.Common.{◌≡◌, ℕ, List, [], ◌∷◌, ◌++◌, ◌+◌, ◌<◌, ◌≤◌, Option, Some, None, Result, Ok, Err, drop, get_or, length, slice_get, refl, ap, inl, sym, ◌∙◌, subst}
use Rattle.std.proofs.lemmas.List.{append_assoc, drop_all, drop_more, map-append}
use Rattle.std.proofs.lemmas.List.Concat.{flat_map-cons}
use Rattle.wdl_typed.specs.declared.scope.Bound.{Bound}
use Rattle.wdl_typed.specs.declared.task.TDecl.{TDecl}
use Rattle.wdl_typed.specs.declared.task.TInput.{TInput}
use Rattle.wdl_typed.specs.Declarations.{bound, decls_bound, inputs_bound}
use Rattle.wdl_typed.specs.Order.{option_list, picked}
use Rattle.wdl_base.specs.declared.span.Span.{Span}
use Rattle.wdl_check_rules.specs.declared.fault.CheckFault.{CheckFault}
use Rattle.wdl_check_rules.specs.declared.fault.CheckFault.TheVariants.{Bad}
use Rattle.wdl_check_types.specs.Outcome.{Outcome, Answers, done, or_refused, then_}
use Rattle.wdl_check_types.proofs.OutcomeLaws.{then_err, then_ok}

pub refused_answers : {A : Type 0} (code : ℕ) (span : Span) (o : Option A) → o ≡ None → Answers (or_refused code span o) (Err (Bad code span))
refused_answers code span None e = (refl, inl refl)
refused_answers code span (Some a) e = cc

-- what answers for the one answers for the other
abbrev pub Leads : {A : Type 0} → Outcome A → Outcome A → Type 0
Leads {A} o w = (r : Result A CheckFault) → Answers o r → Answers w r

pub leads_same : {A : Type 0} (o : Outcome A) → Leads o o
leads_same o r h = h

-- after the first part
pub leads_on : {A B : Type 0} (o : Outcome A) (f : A → Outcome B) (w : Outcome B) (a : A) → o.typed ≡ Some a → Leads (then_ o f) w → Leads (f a) w
leads_on o f w a e l r h = l r (then_ok o f a r e h)

-- the fault of the first part
pub leads_err : {A B : Type 0} (o : Outcome A) (f : A → Outcome B) (w : Outcome B) (e : CheckFault) → Answers o (Err e) → Leads (then_ o f) w → Answers w (Err e)
leads_err o f w e h l = l (Err e) (then_err o f e h)

pub leads_done : {A : Type 0} (a : A) (w : Outcome A) → Leads (done a) w → w.typed ≡ Some a
leads_done a w l = l (Ok a) refl

-- ---- the members at positions

pub picked_next : {A : Type 0} (xs : List A) (ps : List ℕ) (i : ℕ) (o : Option A) → i < length ps → slice_get xs (get_or ps i 0) ≡ o
    → picked xs (drop i ps) ≡ option_list o ++ picked xs (drop (i + 1) ps)
picked_next {A} xs ps i o h e =
    ap (picked xs) (drop_more ps i 0 h)
    ∙ flat_map-cons (λ q. option_list (slice_get xs q)) (get_or ps i 0) (drop (i + 1) ps)
    ∙ ap (λ (q : Option A). option_list q ++ picked xs (drop (i + 1) ps)) e

pub picked_all : {A : Type 0} (xs : List A) (ps : List ℕ) (i : ℕ) → length ps ≤ i → picked xs (drop i ps) ≡ []
picked_all xs ps i h = ap (picked xs) (drop_all i ps h)

pub picked_none : {A : Type 0} (xs : List A) (p : ℕ) (ps : List ℕ) → slice_get xs p ≡ None → picked xs (p ∷ ps) ≡ picked xs ps
picked_none {A} xs p ps e =
    flat_map-cons (λ q. option_list (slice_get xs q)) p ps ∙ ap (λ (o : Option A). option_list o ++ picked xs ps) e

pub picked_some : {A : Type 0} (xs : List A) (p : ℕ) (ps : List ℕ) (x : A) → slice_get xs p ≡ Some x → picked xs (p ∷ ps) ≡ x ∷ picked xs ps
picked_some {A} xs p ps x e =
    flat_map-cons (λ q. option_list (slice_get xs q)) p ps ∙ ap (λ (o : Option A). option_list o ++ picked xs ps) e

-- ---- a list checked in its order: `behind` checks the members behind those that are checked

module _ {D T : Type 0} (step : List T → D → Outcome T) (behind : List T → List D → Outcome (List T))
    (more : (before : List T) (d : D) (ds : List D) → behind before (d ∷ ds) ≡ then_ (step before d) (λ t. behind (before ++ t ∷ []) ds))
    (nothing : (before : List T) → behind before [] ≡ done before) where
  module _ (ds : List D) (ps : List ℕ) (i : ℕ) (before : List T) (w : Outcome (List T)) (l : Leads (behind before (picked ds (drop i ps))) w) where
    pub passes : i < length ps → slice_get ds (get_or ps i 0) ≡ None → Leads (behind before (picked ds (drop (i + 1) ps))) w
    passes h e = subst (λ (xs : List D). Leads (behind before xs) w) (picked_next ds ps i None h e) l

    meets : (d : D) → i < length ps → slice_get ds (get_or ps i 0) ≡ Some d
        → Leads (then_ (step before d) (λ t. behind (before ++ t ∷ []) (picked ds (drop (i + 1) ps)))) w
    meets d h e =
        subst (λ (o : Outcome (List T)). Leads o w) (ap (behind before) (picked_next ds ps i (Some d) h e) ∙ more before d (picked ds (drop (i + 1) ps))) l

    pub goes_on : (d : D) (t : T) → i < length ps → slice_get ds (get_or ps i 0) ≡ Some d → (step before d).typed ≡ Some t
        → Leads (behind (before ++ t ∷ []) (picked ds (drop (i + 1) ps))) w
    goes_on d t h e k = leads_on (step before d) (λ t. behind (before ++ t ∷ []) (picked ds (drop (i + 1) ps))) w t k (meets d h e)

    pub fails : (d : D) (f : CheckFault) → i < length ps → slice_get ds (get_or ps i 0) ≡ Some d → Answers (step before d) (Err f) → Answers w (Err f)
    fails d f h e k = leads_err (step before d) (λ t. behind (before ++ t ∷ []) (picked ds (drop (i + 1) ps))) w f k (meets d h e)

    pub ends : length ps ≤ i → Answers w (Ok before)
    ends h = leads_done before w (subst (λ (o : Outcome (List T)). Leads o w) (ap (behind before) (picked_all ds ps i h) ∙ nothing before) l)

-- ---- names

pub decls_after : (names : List Bound) (before : List TDecl) (t : TDecl) → names ++ decls_bound (before ++ t ∷ []) ≡ names ++ decls_bound before ++ bound t.name t.ty ∷ []
decls_after names before t =
    ap (λ (bs : List Bound). names ++ bs) (map-append (λ (d : TDecl). bound d.name d.ty) before (t ∷ []))
    ∙ sym (append_assoc names (decls_bound before) (bound t.name t.ty ∷ []))

pub inputs_after : (before : List TInput) (t : TInput) → inputs_bound (before ++ t ∷ []) ≡ inputs_bound before ++ bound t.name t.ty ∷ []
inputs_after before t = map-append (λ (i : TInput). bound i.name i.ty) before (t ∷ [])
