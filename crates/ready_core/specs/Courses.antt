-- The plan of a run, beside its journal.
use Rattle.std.specs.Prelude.{◌≡◌, ℕ, ◌+◌, ◌≤◌, Bool, true, false, List, Contains, Option, Some, None, if◌then◌else◌}
use Rattle.wdl_base.specs.declared.entry.Entry.{Entry}
use Rattle.wdl_base.specs.declared.request.Request.{Request}
use Rattle.wdl_value.specs.Tables.{Row, has_row, table}
use Rattle.wdl_typed.specs.Flow.{Flowing}
use Rattle.scatter_plan.specs.declared.plan.Plan.{Plan}
use Rattle.scatter_plan.specs.Plans.{IsMade, IsTold}
use Rattle.ready_core.specs.declared.course.Course.{Course}
use Rattle.ready_core.specs.declared.course.Course.TheVariants.{Planned, Past}
use Rattle.ready_core.specs.Cores.{Origin, origin_in}

-- what a run is of
abbrev pub origin_of : Course → Origin
origin_of (Planned plan stale) = origin_in plan
origin_of (Past o) = record { checked = o.checked; inputs = o.inputs; site = o.site }

-- The plan was told of another journal than the run's.
abbrev pub is_stale : Course → Bool
is_stale (Planned plan stale) = stale
is_stale (Past o) = false

-- the plan, where it was told of the run's journal and of no other answer
abbrev pub plan_of : Course → Option Plan
plan_of (Planned plan stale) = if stale then None else Some plan
plan_of (Past o) = None

-- the same, with a plan that was told of the run's journal
abbrev pub kept : Course → Course
kept (Planned plan stale) = Planned plan false
kept (Past o) = Past o

-- Within the limits there is a plan, which was told of the journal unless it is stale.
abbrev pub IsOnCourse : Course → Bool → List Entry → Type 0
IsOnCourse (Planned plan stale) many journal = IsMade plan × (many ≡ false → stale ≡ false → IsTold plan (table journal))
IsOnCourse (Past o) many journal = many ≡ true

-- The answers of the journal paid for all that was evaluated since the counter stood at `start`.
abbrev pub IsPaidUp : ℕ → ℕ → Course → Bool → List Entry → Type 0
IsPaidUp start now (Planned plan stale) many journal = many ≡ false → stale ≡ false → (told : IsTold plan (table journal)) × (now ≤ start + told.paid)
IsPaidUp start now (Past o) many journal = many ≡ true

-- The request is a job of the flow, and no entry has its place and attempt.
pub record IsAwaited (f : Flowing) (journal : List Entry) (r : Request) : Type 0 where
  pub job : Contains f.jobs r
  pub fresh : has_row (table journal) r.place r.attempt ≡ false

-- What an answer let be evaluated is paid for, and nothing was evaluated again unless the plan was stale.
pub record IsPaid (old new : ℕ) (a : Course) (many : Bool) (journal : List Entry) (b : Course) (more : Bool) (longer : List Entry) : Type 0 where
  pub once : is_stale a ≡ false → (start : ℕ) → IsPaidUp start old a many journal → IsPaidUp start new b more longer
  pub all : IsPaidUp old new b more longer

abbrev pub planned_by : Plan → Course
planned_by p = Planned p false

-- The plan `b` was told of the longer rows: all of it is paid for by them, and, unless the plan `a` was stale, together with what it
-- had paid for.
pub record IsFurther (stale : Bool) (rows longer : List Row) (a : Plan) (old new : ℕ) (b : Plan) : Type 0 where
  pub once : stale ≡ false → (was : IsTold a rows) → (told : IsTold b longer) × (new + was.paid ≤ old + told.paid)
  pub all : (told : IsTold b longer) × (new ≤ old + told.paid)
