-- What is found of the call of a step, and what its answer makes.
use Rattle.std.proofs.Common.{◌≡◌, ℕ, ◌+◌, List, Some, Result, Ok, Err, OnOk, slice_get, ap, sym, subst, ◌∙◌}
use Rattle.wdl_base.specs.declared.answer.Answer.{Answer}
use Rattle.wdl_base.specs.declared.fault.Fault.{Fault}
use Rattle.wdl_value.specs.Fits.{Structs}
use Rattle.wdl_typed.specs.declared.checked.Checked.{Checked}
use Rattle.wdl_typed.specs.declared.task.TaskDef.{TaskDef}
use Rattle.wdl_typed.specs.Requests.{is_success, tells}
use Rattle.wdl_typed.specs.Statuses.{successes_of}
use Rattle.wdl_task.specs.declared.request.Prepared.{Prepared}
use Rattle.wdl_task.specs.Readiness.{IsTold}
use Rattle.wdl_task.specs.Views.{asked_of}
use Rattle.plan_layout.specs.declared.layout.Layout.{Layout}
use Rattle.plan_layout.specs.declared.layout.StatementLayout.{StatementLayout}
use Rattle.plan_room.specs.Room.{HasRuns}
use Rattle.plan_growth.specs.declared.rule.Rule.{Rule}
use Rattle.plan_growth.specs.declared.rule.Rule.TheVariants as rule
use Rattle.plan_growth.specs.Entering.{Sown, with_net}
use Rattle.plan_steps.specs.Arriving.{Answered, CanConclude, IsTaken, concluded, ended_faults, ended_net}
use Rattle.plan_steps.specs.Doing.{Asks, Field}
use Rattle.plan_bodies.specs.Bases.{last_base}

pub on_both : {A E : Type 0} (P Q R : Type 0) (r : Result A E) → (P → Q → R) → OnOk r P → OnOk r Q → OnOk r R
on_both P Q R (Ok a) f p q = f p q
on_both P Q R (Err e) f p q = tt

pub statement_same : (i k j l : ℕ) → rule.Statement i k ≡ rule.Statement j l → (i ≡ j) × (k ≡ l)
statement_same i k j l e = (let a : i ≡ j = cc in a, let b : k ≡ l = cc in b)

pub told_as : (structs : Structs) (t2 t : TaskDef) (p : Prepared) → t2 ≡ t → IsTold structs t p → IsTold structs t2 p
told_as structs t2 t p e h = subst (λ (x : TaskDef). IsTold structs x p) (sym e) h

pub runs_as : (n b2 b : ℕ) (l2 l : StatementLayout) → b2 ≡ b → l2 ≡ l → HasRuns n b l → HasRuns n b2 l2
runs_as n b2 b l2 l e f h = subst (λ (x : StatementLayout). HasRuns n b2 x) (sym f) (subst (λ (x : ℕ). HasRuns n x l) (sym e) h)

pub concluded_is : (f : Field) (net2 : Sown) (fs2 : List Fault) (p : Prepared) (bases : List ℕ) (b2 : ℕ) (l2 l : StatementLayout) (t2 t : TaskDef) (structs : Structs) (answer : Answer) → b2 ≡ last_base bases → l2 ≡ l → t2 ≡ t
    → net2 ≡ ended_net (b2 + l2.first_name) (b2 + l2.done) f.plot.net (tells structs t2 (asked_of p) p.request.dir answer) → fs2 ≡ ended_faults p f.faults (tells structs t2 (asked_of p) p.request.dir answer)
    → (let new : Field = record { plot = with_net f.plot net2; faults = fs2; count = f.count } in new ≡ concluded f bases l p (tells structs t (asked_of p) p.request.dir answer))
concluded_is f net2 fs2 p bases b2 l2 l t2 t structs answer base line task net faults =
    ap (λ (n : Sown). let new : Field = record { plot = with_net f.plot n; faults = fs2; count = f.count } in new) net
    ∙ ap (λ (fs : List Fault). let new : Field = record { plot = with_net f.plot (ended_net (b2 + l2.first_name) (b2 + l2.done) f.plot.net (tells structs t2 (asked_of p) p.request.dir answer)); faults = fs; count = f.count } in new) faults
    ∙ ap (λ (x : TaskDef). let new : Field = record { plot = with_net f.plot (ended_net (b2 + l2.first_name) (b2 + l2.done) f.plot.net (tells structs x (asked_of p) p.request.dir answer)); faults = ended_faults p f.faults (tells structs x (asked_of p) p.request.dir answer); count = f.count } in new) task
    ∙ ap (λ (x : StatementLayout). let new : Field = record { plot = with_net f.plot (ended_net (b2 + x.first_name) (b2 + x.done) f.plot.net (tells structs t (asked_of p) p.request.dir answer)); faults = ended_faults p f.faults (tells structs t (asked_of p) p.request.dir answer); count = f.count } in new) line
    ∙ ap (λ (b : ℕ). let new : Field = record { plot = with_net f.plot (ended_net (b + l.first_name) (b + l.done) f.plot.net (tells structs t (asked_of p) p.request.dir answer)); faults = ended_faults p f.faults (tells structs t (asked_of p) p.request.dir answer); count = f.count } in new) base

-- the same of an attempt that is equal
module _ (checked : Checked) (layout : Layout) where
  pub can_as : (f : Field) (rules : List Rule) (n2 n : ℕ) (p : Prepared) → n2 ≡ n → ((i : ℕ) × (k : ℕ) × (slice_get rules n ≡ Some (rule.Statement i k)) × CanConclude checked layout f i k p) → (i : ℕ) × (k : ℕ) × (slice_get rules n2 ≡ Some (rule.Statement i k)) × CanConclude checked layout f i k p
  can_as f rules n2 n p e h = subst (λ (x : ℕ). (i : ℕ) × (k : ℕ) × (slice_get rules x ≡ Some (rule.Statement i k)) × CanConclude checked layout f i k p) (sym e) h

  pub answered_as : (site : List ℕ) (i k : ℕ) (r p : Prepared) (answer : Answer) (f : Field) (between : Asks) (new : Field) (after : Asks) → r ≡ p
      → Answered checked layout site i k r answer f between new after (is_success (successes_of r.codes) answer.status) → Answered checked layout site i k p answer f between new after (is_success (successes_of p.codes) answer.status)
  answered_as site i k r p answer f between new after e h = subst (λ (x : Prepared). Answered checked layout site i k x answer f between new after (is_success (successes_of x.codes) answer.status)) e h

pub taken_as : (at2 at : ℕ) (r p : Prepared) (old new : Asks) → at ≡ at2 → r ≡ p → IsTaken at r old new → IsTaken at2 p old new
taken_as at2 at r p old new e f h = subst (λ (x : Prepared). IsTaken at2 x old new) f (subst (λ (n : ℕ). IsTaken n r old new) e h)
