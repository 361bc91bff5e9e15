-- What a flow comes to as answers come.
use Rattle.std.proofs.Common.{◌≡◌, ℕ, Bool, true, false, cond, not, nat_lt, ◌&&◌, ◌||◌, ◌⊎◌, inl, inr, List, [], ◌∷◌, ◌++◌, map, drop, Contains, Option, Some, None, count_by, is_some, length, append_assoc, arith, sym, ap, ◌∙◌, subst, refl}
use Rattle.std.proofs.lemmas.Bool.{false≢true, false_from_ne_true, ltb-false, ltb-true, or_cases, or_left, or_parts}
use Rattle.std.proofs.Math.Bool.{or_assoc}
use Rattle.wdl_base.specs.declared.entry.Entry.{Entry}
use Rattle.wdl_base.specs.declared.fault.Fault.{Fault}
use Rattle.wdl_typed.specs.declared.checked.Checked.{Checked}
use Rattle.wdl_typed.specs.Flow.{Flowing, is_empty, too_many}
use Rattle.flow_laws.specs.Below.{IsBelow, IsWithin}
use Rattle.flow_laws.proofs.Elements.{contains_first, none_within}
use Rattle.scatter_plan.specs.declared.plan.Plan.{Plan}
use Rattle.scatter_plan.specs.Plans.{checked_in, faults_in, outputs_in, ready_in}
use Rattle.ready_core.specs.declared.turn.Turn.{Turn}
use Rattle.ready_core.specs.Cores.{FaultsStay, Origin, flow_at, has_fault, has_met_fault, met_after, shows_fault}
use Rattle.ready_core.specs.Flows.{outputs_if_clean}
use Rattle.ready_core.specs.Rows.{TakenJob}
use Rattle.ready_core.specs.Turns.{IsFaultOf, IsNext, IsPastLimits, IsShownBy, IsSight, earlier, first_fault, is_closed, job_in, unless_fault}
use Rattle.ready_core.proofs.Counting.{count_cons}
use Rattle.ready_core.proofs.Faults.{faults_within}

-- ---- flows that are open

pub open_parts : (f : Flowing) → is_closed f ≡ false → (has_fault f ≡ false) × (too_many f ≡ false)
open_parts f h = or_parts (has_fault f) (too_many f) h

or_true : (a b : Bool) → b ≡ true → (a || b) ≡ true
or_true true b h = refl
or_true false b h = h

pub many_closed : (f : Flowing) → too_many f ≡ true → is_closed f ≡ true
many_closed f h = or_true (has_fault f) (too_many f) h

-- ---- faults

pub fault_later : (f g : Flowing) → ((x : Fault) → Contains f.faults x → Contains g.faults x) → (a b : Option Fault) → IsFaultOf f a → IsFaultOf g b → IsFaultOf g (earlier a b)
fault_later f g within (Some x) b h k = within x h
fault_later f g within None b h k = k

earlier_met : (a b : Option Fault) → is_some (earlier a b) ≡ (is_some a || is_some b)
earlier_met (Some a) b = refl
earlier_met None b = refl

met_later : (over : List Entry → Flowing) (done es : List Entry) (e : Entry) → met_after over done (es ++ e ∷ []) ≡ (met_after over done es || shows_fault (over (done ++ (es ++ e ∷ []))))
met_later over done [] e = refl
met_later over done (x ∷ es) e =
    ap (λ b. shows_fault (over done) || b) (met_later over (done ++ x ∷ []) es e)
    ∙ sym (or_assoc (shows_fault (over done)) (met_after over (done ++ x ∷ []) es) (shows_fault (over ((done ++ x ∷ []) ++ (es ++ e ∷ [])))))
    ∙ ap (λ (l : List Entry). met_after over done (x ∷ es) || shows_fault (over l)) (append_assoc done (x ∷ []) (es ++ e ∷ []))

pub fault_met : (over : List Entry → Flowing) (es : List Entry) (e : Entry) (a b : Option Fault) → is_some a ≡ met_after over [] es → is_some b ≡ shows_fault (over (es ++ e ∷ []))
    → is_some (earlier a b) ≡ met_after over [] (es ++ e ∷ [])
fault_met over es e a b h k =
    earlier_met a b ∙ ap (λ x. x || is_some b) h ∙ ap (λ x. met_after over [] es || x) k ∙ sym (met_later over [] es e)

pub faults_stay : FaultsStay
faults_stay s t e h met =
    ap has_met_fault h.after ∙ met_later (flow_at s.origin) [] s.journal e ∙ or_left (has_met_fault s) (shows_fault (flow_at s.origin (s.journal ++ e ∷ []))) met

-- ---- what comes of a flow

pub past_sight : (c : Checked) (g : Flowing) (t : Turn) → too_many g ≡ true → IsPastLimits t → IsSight c g t
past_sight c g t many h =
    record {
      even = λ k. absurd (false≢true (sym k ∙ many));
      closed = λ k. h.ready;
      fault = subst (IsFaultOf g) (sym h.fault) (inr many);
      shows = ap is_some h.fault ∙ sym (ap (λ b. not b && has_fault g) many);
      many = h.many ∙ sym many;
      outcome = h.outcome ∙ sym (ap (λ b. cond b None (outputs_if_clean c g)) many);
    }

pub past_next : (o : Origin) (j : List Entry) (e : Entry) (t : Turn) → too_many (flow_at o (j ++ e ∷ [])) ≡ true → IsPastLimits t → IsNext o j e t
past_next o j e t many h =
    record {
      sight = past_sight o.checked (flow_at o (j ++ e ∷ [])) t many h;
      frees = λ open_. absurd (false≢true (sym open_ ∙ many_closed (flow_at o (j ++ e ∷ [])) many));
    }

none_if : (xs : List Fault) → count_by (λ x. true) xs ≡ 0 → xs ≡ []
none_if [] h = refl
none_if (x ∷ xs) h = absurd (omega (arith, h, count_cons (λ (y : Fault). true) x xs))

pub some_if : (xs : List Fault) (x : Fault) → Contains xs x → not (is_empty xs) ≡ true
some_if [] x c = absurd (none_within x c)
some_if (y ∷ ys) x c = refl

-- The first of the faults that a plan has is one of the flow.
first_of : (g : Flowing) (w : List Fault) → ((is : Fault → Bool) → count_by is w ≡ count_by is g.faults) → IsFaultOf g (first_fault w) × (is_some (first_fault w) ≡ has_fault g)
first_of g [] h =
    let none : g.faults ≡ [] = none_if g.faults (sym (h (λ x. true))) in
    (inl none, sym (ap (λ (l : List Fault). not (is_empty l)) none))
first_of g (x ∷ xs) h =
    let c = faults_within (x ∷ xs) g.faults (λ is. omega (arith, h is)) x (contains_first x xs) in
    (c, sym (some_if g.faults x c))

unless_some : (o : Option Fault) (jobs : List TakenJob) → is_some o ≡ true → unless_fault o jobs ≡ []
unless_some (Some x) jobs h = refl
unless_some None jobs h = absurd (false≢true h)

pub unless_none : (o : Option Fault) (jobs : List TakenJob) → is_some o ≡ false → unless_fault o jobs ≡ jobs
unless_none (Some x) jobs h = absurd (false≢true (sym h))
unless_none None jobs h = refl

closed_fault : (a b : Bool) → b ≡ false → (a || b) ≡ true → a ≡ true
closed_fault true b h k = refl
closed_fault false b h k = absurd (false≢true (sym h ∙ k))

pub seen_sight : (p : Plan) (g : Flowing) (from : ℕ) (t : Turn) → too_many g ≡ false → length g.codes ≡ length g.jobs → ((is : Fault → Bool) → count_by is (faults_in p) ≡ count_by is g.faults)
    → outputs_in p ≡ outputs_if_clean (checked_in p) g → IsShownBy p from t → IsSight (checked_in p) g t
seen_sight p g from t few even faults outputs shown =
    let first = first_of g (faults_in p) faults in
    let some : is_some t.fault ≡ has_fault g = ap is_some shown.fault ∙ first.1 in
    record {
      even = λ k. even;
      closed = λ k. shown.ready ∙ unless_some t.fault (map job_in (drop from (ready_in p))) (some ∙ closed_fault (has_fault g) (too_many g) few k);
      fault = subst (IsFaultOf g) (sym shown.fault) first.0;
      shows = some ∙ sym (ap (λ b. not b && has_fault g) few);
      many = shown.many ∙ sym few;
      outcome = shown.outcome ∙ outputs ∙ sym (ap (λ b. cond b None (outputs_if_clean (checked_in p) g)) few);
    }

-- ---- flows that grow

pub no_fault_before : (xs ys : List Fault) → IsWithin xs ys → not (is_empty ys) ≡ false → not (is_empty xs) ≡ false
no_fault_before [] ys within h = refl
no_fault_before (x ∷ xs) ys within h = absurd (false≢true (sym h ∙ some_if ys x (within x (contains_first x xs))))

pub few_before : (f g : Flowing) → IsBelow f g → too_many g ≡ false → too_many f ≡ false
few_before f g below h = false_from_ne_true (too_many f) (λ m. by_case (or_cases (nat_lt 20000 (length f.jobs)) (nat_lt 1000000 f.count) m))
  where
    by_case : (nat_lt 20000 (length f.jobs) ≡ true) ⊎ (nat_lt 1000000 f.count ≡ true) → ⊥
    by_case (inl k) = omega (arith, ltb-true 20000 (length f.jobs) k, below.size, ltb-false 20000 (length g.jobs) (or_parts (nat_lt 20000 (length g.jobs)) (nat_lt 1000000 g.count) h).0)
    by_case (inr k) =
        omega (arith, ltb-true 1000000 f.count k, below.count, ltb-false 1000000 g.count (or_parts (nat_lt 20000 (length g.jobs)) (nat_lt 1000000 g.count) h).1)

-- Past its limits a flow stays past them.
pub many_after : (f g : Flowing) → IsBelow f g → too_many f ≡ true → too_many g ≡ true
many_after f g below h = by_test (too_many g) refl
  where
    by_test : (b : Bool) → too_many g ≡ b → b ≡ true
    by_test true e = refl
    by_test false e = absurd (false≢true (sym (few_before f g below e) ∙ h))
