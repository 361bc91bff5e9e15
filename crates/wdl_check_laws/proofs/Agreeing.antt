-- An outcome agrees with a typing and with conditions: it is the typing, or there is none and its code is among the
-- conditions. How that goes from the parts of a rule to the whole.
use Rattle.std.proofs.Common.{◌≡◌, ℕ, [], ◌∷◌, ◌++◌, Option, Some, None, Ok, Err, option_map, option_and_then, inl, inr, refl, ap, sym, subst}
use Rattle.wdl_base.specs.declared.span.Span.{Span}
use Rattle.wdl_check_rules.specs.declared.fault.CheckFault.{CheckFault}
use Rattle.wdl_check_rules.specs.Checked.{Checked, then_, or_bad}
use Rattle.wdl_check_rules.specs.Conditions.{Conditions, is_among, at, unless, given_that}
use Rattle.wdl_check_rules.specs.Typed.{both}

abbrev pub Agrees : {A : Type 0} → Checked A → Option A → Conditions → Type 0
Agrees (Ok a) o fs = o ≡ Some a
Agrees (Err f) o fs = (o ≡ None) × is_among f fs

pub among_left : (f : CheckFault) (fs gs : Conditions) → is_among f fs → is_among f (fs ++ gs)
among_left f [] gs h = absurd h
among_left f (g ∷ fs) gs (inl e) = inl e
among_left f (g ∷ fs) gs (inr h) = inr (among_left f fs gs h)

pub among_right : (f : CheckFault) (fs gs : Conditions) → is_among f gs → is_among f (fs ++ gs)
among_right f [] gs h = h
among_right f (g ∷ fs) gs h = inr (among_right f fs gs h)

pub more_right : {A : Type 0} (r : Checked A) (o : Option A) (fs gs : Conditions) → Agrees r o gs → Agrees r o (fs ++ gs)
more_right (Ok a) o fs gs h = h
more_right (Err f) o fs gs h = (h.0, among_right f fs gs h.1)

-- a rule that gives nothing
pub or_bad_agrees : {A : Type 0} (code : ℕ) (span : Span) (o : Option A) → Agrees (or_bad code span o) o (unless o (at code span))
or_bad_agrees code span (Some a) = refl
or_bad_agrees code span None = (refl, inl refl)

pub map_or_bad : {A B : Type 0} (code : ℕ) (span : Span) (f : A → B) (o : Option A) → Agrees (or_bad code span (option_map f o)) (option_map f o) (unless o (at code span))
map_or_bad code span f (Some a) = refl
map_or_bad code span f None = (refl, inl refl)

-- one part, and what follows from it
pub then_agrees : {A B : Type 0} (r : Checked A) (o : Option A) (fs gs : Conditions) (f : A → Checked B) (g : A → Option B) → Agrees r o fs → ((a : A) → o ≡ Some a → Agrees (f a) (g a) gs) → Agrees (then_ r f) (option_and_then g o) (fs ++ gs)
then_agrees {A} (Ok a) o fs gs f g e k =
    subst (λ (z : Option A). Agrees (f a) (option_and_then g z) (fs ++ gs)) (sym e) (more_right (f a) (g a) fs gs (k a e))
then_agrees (Err x) o fs gs f g e k = (ap (option_and_then g) e.0, among_left x fs gs e.1)

-- where the conditions of what follows are those on a part that has a typing
pub bind_agrees : {A B : Type 0} (r : Checked A) (o : Option A) (fs : Conditions) (f : A → Checked B) (g : A → Option B) (h : A → Conditions) → Agrees r o fs → ((a : A) → Agrees (f a) (g a) (h a)) → Agrees (then_ r f) (option_and_then g o) (fs ++ given_that o h)
bind_agrees {A} r o fs f g h e k =
    then_agrees r o fs (given_that o h) f g e (λ a is. subst (λ (z : Option A). Agrees (f a) (g a) (given_that z h)) (sym is) (k a))

-- two parts, and what follows from both
pub two_agree : {A B C : Type 0} (r : Checked A) (q : Checked B) (o : Option A) (u : Option B) (fs gs : Conditions) (f : A → B → Checked C) (g : A → B → Option C) (h : A → B → Conditions) → Agrees r o fs → Agrees q u gs → ((a : A) (b : B) → Agrees (f a b) (g a b) (h a b)) → Agrees (then_ r (λ a. then_ q (λ b. f a b))) (both g o u) (fs ++ (gs ++ given_that o (λ a. given_that u (λ b. h a b))))
two_agree {A} {B} r q o u fs gs f g h e d k =
    then_agrees r o fs (gs ++ given_that o (λ a. given_that u (λ b. h a b))) (λ a. then_ q (λ b. f a b)) (λ a. option_and_then (λ b. g a b) u) e
    (λ a is. then_agrees q u gs (given_that o (λ a. given_that u (λ b. h a b))) (λ b. f a b) (λ b. g a b) d
    (λ b js. subst (λ (z : Option A). Agrees (f a b) (g a b) (given_that z (λ a. given_that u (λ b. h a b)))) (sym is)
    (subst (λ (z : Option B). Agrees (f a b) (g a b) (given_that z (λ b. h a b))) (sym js) (k a b))))

-- a part that always makes a whole
pub map_agrees : {A B : Type 0} (r : Checked A) (o : Option A) (fs : Conditions) (f : A → B) → Agrees r o fs → Agrees (then_ r (λ a. Ok (f a))) (option_map f o) fs
map_agrees (Ok a) o fs f e = ap (option_map f) e
map_agrees (Err x) o fs f e = (ap (option_map f) e.0, e.1)

some_agrees : {A B : Type 0} (r : Checked A) (o : Option A) (fs : Conditions) (f : A → B) → Agrees r o fs → Agrees (then_ r (λ a. Ok (f a))) (option_and_then (λ a. Some (f a)) o) fs
some_agrees (Ok a) o fs f e = ap (option_and_then (λ a. Some (f a))) e
some_agrees (Err x) o fs f e = (ap (option_and_then (λ a. Some (f a))) e.0, e.1)

-- two parts that always make a whole
pub both_agree : {A B C : Type 0} (r : Checked A) (q : Checked B) (o : Option A) (u : Option B) (fs gs : Conditions) (f : A → B → C) → Agrees r o fs → Agrees q u gs → Agrees (then_ r (λ a. then_ q (λ b. Ok (f a b)))) (both (λ a b. Some (f a b)) o u) (fs ++ gs)
both_agree r q o u fs gs f e d =
    then_agrees r o fs gs (λ a. then_ q (λ b. Ok (f a b))) (λ a. option_and_then (λ b. Some (f a b)) u) e (λ a is. some_agrees q u gs (f a) d)
