-- The steps of a run that leaves no worker idle without need.
use Rattle.std.specs.Prelude.{◌≡◌, ℕ, ◌+◌, ◌<◌, ◌⊎◌, List, [], ◌∷◌, ◌++◌, length, true, false}
use Rattle.wdl_base.specs.declared.entry.Entry.{Entry}
use Rattle.wdl_base.specs.declared.entry.Source.TheVariants.{Launched}
use Rattle.wdl_base.specs.declared.place.Segment.{Segment}
use Rattle.wdl_base.specs.declared.step.Step.{Step}
use Rattle.wdl_base.specs.declared.step.Step.TheVariants.{Took, Settled, Stopped}
use Rattle.ready_core.specs.Cores.{CoreState, Origin, flow_at, idle, MayTake, WasOut}
use Rattle.ready_core.specs.Rows.{TakenJob}

-- as many places are out as there are workers, or nothing more is to be taken
abbrev pub Busy : Origin → ℕ → List Entry → List TakenJob → Type 0
Busy o n entries taken = (length taken ≡ length entries + n) ⊎ (idle (flow_at o entries) taken ≡ true)

-- one Took, after these entries and takings
abbrev pub TookWell : Origin → ℕ → List Entry → List TakenJob → TakenJob → List Segment → Type 0
TookWell o n entries taken j place =
    (j.request.place ≡ place) × (idle (flow_at o entries) taken ≡ false) × MayTake (flow_at o entries) taken j × (length taken < length entries + n)

-- one Settled, of a place that is out
abbrev pub SettledWell : List Entry → List TakenJob → Entry → List Segment → Type 0
SettledWell entries taken e place = (e.request.place ≡ place) × WasOut entries taken e.request

-- the steps behind a stop, after these entries and takings: they settle `rest`, and take nothing
abbrev pub settles_from : List Entry → List Entry → List TakenJob → List Step → Type 0
settles_from entries rest taken [] = rest ≡ []
settles_from entries rest taken (Took p ∷ ss) = ⊥
settles_from entries rest taken (Settled p ∷ ss) =
    (e : Entry) × (later : List Entry)
    × (rest ≡ e ∷ later) × SettledWell entries taken e p
    × settles_from (entries ++ e ∷ []) later taken ss
settles_from entries rest taken (Stopped ∷ ss) = ⊥

-- the steps behind these entries and takings, which settle `rest` and take `coming`
abbrev pub greedy_from : Origin → ℕ → List Entry → List Entry → List TakenJob → List TakenJob → List Step → Type 0
greedy_from o n entries rest taken coming [] = (rest ≡ []) × (coming ≡ [])
greedy_from o n entries rest taken coming (Took p ∷ ss) =
    (j : TakenJob) × (more : List TakenJob)
    × (coming ≡ j ∷ more) × TookWell o n entries taken j p
    × greedy_from o n entries rest (taken ++ j ∷ []) more ss
greedy_from o n entries rest taken coming (Settled p ∷ ss) =
    (e : Entry) × (later : List Entry)
    × (rest ≡ e ∷ later) × SettledWell entries taken e p × (e.source ≡ Launched → Busy o n entries taken)
    × greedy_from o n (entries ++ e ∷ []) later taken coming ss
greedy_from o n entries rest taken coming (Stopped ∷ ss) = (coming ≡ []) × settles_from entries rest taken ss

-- Never more than n places are out. Each Took is of a job of the flow over the entries so far whose place and attempt were not
-- taken, and comes where something is to be taken. Each Settled is of a place that is out, and with an answer that was launched
-- it comes where n places are out or nothing more is to be taken, unless the run stopped before it. Stopped stands once at most,
-- and behind it nothing is taken.
abbrev pub greedy : Origin → ℕ → List Entry → List TakenJob → List Step → Type 0
greedy o n journal taken steps = greedy_from o n [] journal [] taken steps

-- ---- the moment of the stop

-- the entries that were settled before the stop, and all of them where there is none
abbrev pub before_stop : List Step → List Entry → List Entry
before_stop [] es = es
before_stop (Took p ∷ ss) es = before_stop ss es
before_stop (Settled p ∷ ss) [] = []
before_stop (Settled p ∷ ss) (e ∷ es) = e ∷ before_stop ss es
before_stop (Stopped ∷ ss) es = []

-- the core with the entries that it had when the run stopped
abbrev pub at_stop : CoreState → CoreState
at_stop c = record c { journal = before_stop c.steps c.journal }
