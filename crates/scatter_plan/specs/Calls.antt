-- What the calls of a plan do.
use Rattle.std.specs.Prelude.{◌≡◌, ◌≤◌, ℕ, ◌+◌, Bool, true, List, [], ◌∷◌, ◌++◌, cond, count_by, length}
use Rattle.std.specs.List.{list_any}
use Rattle.wdl_base.specs.declared.answer.Answer.{Answer}
use Rattle.wdl_base.specs.declared.entry.Entry.{Entry}
use Rattle.wdl_base.specs.declared.place.Segment.{Segment}
use Rattle.wdl_value.specs.declared.env.Bind.{Bind}
use Rattle.wdl_value.specs.Tables.{Row, table}
use Rattle.wdl_typed.specs.declared.checked.Checked.{Checked}
use Rattle.wdl_typed.specs.Flow.{too_many}
use Rattle.wdl_typed.specs.Journal.{fed_after}
use Rattle.wdl_task.specs.declared.request.Prepared.{Prepared}
use Rattle.flow_laws.specs.Jobs.{is_job_at}
use Rattle.scatter_plan.specs.declared.fault.Unplanned.{Unplanned}
use Rattle.scatter_plan.specs.declared.fault.Unplanned.TheVariants as unplanned
use Rattle.scatter_plan.specs.declared.plan.Plan.{Plan}
use Rattle.scatter_plan.specs.Plans.{IsMade, IsTold, checked_in, flow_of, flow_with, inputs_in, ready_in, site_in}

-- what a plan is of stays
pub record IsOfSame (a b : Plan) : Type 0 where
  pub checked : checked_in b ≡ checked_in a
  pub inputs : inputs_in b ≡ inputs_in a
  pub site : site_in b ≡ site_in a

-- a plan of these before any answer, while the counter of evaluations went from the one to the other
pub record IsNew (c : Checked) (given : List Bind) (root : List ℕ) (old new : ℕ) (p : Plan) : Type 0 where
  pub checked : checked_in p ≡ c
  pub inputs : inputs_in p ≡ given
  pub site : site_in p ≡ root
  pub made : IsMade p
  pub told : IsTold p []
  pub paid : new ≤ old + told.paid

-- What was given comes back where the flow is past its limits; nothing is said of want of memory.
abbrev pub GivesBack : Checked → List Bind → List ℕ → Unplanned → Type 0
GivesBack c given site (unplanned.TooMany checked inputs root) =
    (checked ≡ c) × (inputs ≡ given) × (root ≡ site) × (too_many (flow_with c given site []) ≡ true)
GivesBack c given site unplanned.NoMemory = Unit {0}

-- an attempt of that number waits at that place
abbrev pub is_waiting : List Prepared → List Segment → ℕ → Bool
is_waiting ready place attempt = list_any (λ (p : Prepared). is_job_at place attempt p.request) ready

-- The attempt that was answered no longer waits, and behind those that waited before stands what its answer made ready.
pub record Answers (a b : List Prepared) (place : List Segment) (attempt : ℕ) : Type 0 where
  pub one : Prepared
  pub is_one : is_job_at place attempt one.request ≡ true
  pub left : List Prepared
  pub fresh : List Prepared
  pub length : length left + 1 ≡ length a
  pub others : (is : Prepared → Bool) → count_by is left + cond (is one) 1 0 ≡ count_by is a
  pub ready : b ≡ left ++ fresh

-- It was told of some answers.
abbrev pub HasTold : Plan → Type 0
HasTold p = (answers : List Row) × IsTold p answers

-- one answer more
pub record Arrives (a : Plan) (before : List Row) (was : IsTold a before) (r : Row) (b : Plan) (old new : ℕ) : Type 0 where
  pub told : IsTold b (before ++ r ∷ [])
  pub paid : new + was.paid ≤ old + told.paid
  pub answers : Answers (ready_in a) (ready_in b) r.place r.attempt

-- made anew over these answers
pub record IsRenewed (before : List Row) (old new : ℕ) (p : Plan) : Type 0 where
  pub told : IsTold p before
  pub paid : new ≤ old + told.paid

abbrev pub row : List Segment → ℕ → Answer → Row
row place attempt answer = record { place = place; attempt = attempt; answer = answer }

-- the journal is fed for what the plan is of
abbrev pub is_fed_for : Plan → List Entry → Bool
is_fed_for p journal = fed_after (λ (j : List Entry). flow_of p (table j)) [] journal
