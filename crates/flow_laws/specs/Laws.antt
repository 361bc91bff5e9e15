-- The laws of flows, each the promise of a function in `laws`.
use Rattle.std.specs.Prelude.{◌≡◌, ℕ, Bool, true, false, ◌⊎◌, List, [], ◌∷◌, ◌++◌, Option, Contains, is_some, length}
use Rattle.std.specs.List.{list_all}
use Rattle.wdl_base.specs.declared.entry.Entry.{Entry}
use Rattle.wdl_base.specs.declared.place.Segment.{Segment}
use Rattle.wdl_base.specs.declared.request.Request.{Request}
use Rattle.wdl_value.specs.declared.env.Bind.{Bind}
use Rattle.wdl_value.specs.Tables.{Row, answer_at, has_row, is_journal, is_table, table}
use Rattle.wdl_typed.specs.Bodies.{Library}
use Rattle.wdl_typed.specs.Flow.{Flowing, Run, flow, is_clean, too_many}
use Rattle.wdl_typed.specs.Journal.{fed, flow_over, is_asked}
use Rattle.wdl_typed.specs.Kept.{is_checked}
use Rattle.flow_laws.specs.Below.{AnswersStay, IsBelow, IsWithin}
use Rattle.flow_laws.specs.Jobs.{jobs_differ}

abbrev pub run_with : Library → List ℕ → List Row → Run
run_with lib site table = record { library = lib; site = site; table = table }

-- what holds of each checked form
abbrev pub OfChecked : (Library → Type 0) → Type 0
OfChecked P = (lib : Library) (main : Option ℕ) → is_checked lib main ≡ true → P lib

-- what holds of the flow of each workflow, to any depth, at any place and for any inputs
abbrev pub OfFlows : Run → (Flowing → Type 0) → Type 0
OfFlows r P = (depth k : ℕ) (given : List Bind) (place : List Segment) → P (flow r depth k given place)

-- ---- tables

-- Over a table that gives each answer of another one, every flow gives no less. The names of a checked form differ, those of items
-- among them, and so do the outputs of each target. Where two names of a flow were equal, a missing name would let the value of
-- the later one through, until it is known itself.
abbrev pub LongerTables : Type 0
LongerTables =
    OfChecked (λ lib. (site : List ℕ) (a b : List Row) → AnswersStay a b → (depth k : ℕ) (given : List Bind) (place : List Segment)
    → IsBelow (flow (run_with lib site a) depth k given place) (flow (run_with lib site b) depth k given place))

-- A table that has each row of another one gives each answer of it.
abbrev pub LongerRows : Type 0
LongerRows = (a b : List Row) → is_table b ≡ true → IsWithin a b → AnswersStay a b

-- What is too many stays too many.
abbrev pub TooManyStay : Type 0
TooManyStay = (f g : Flowing) → IsBelow f g → too_many f ≡ true → too_many g ≡ true

-- ---- jobs

-- No two jobs of a flow have one place and attempt.
abbrev pub JobsDiffer : Type 0
JobsDiffer = OfChecked (λ lib. (site : List ℕ) (a : List Row) → OfFlows (run_with lib site a) (λ f. jobs_differ f.jobs ≡ true))

-- The table answers a job.
abbrev pub is_answered : List Row → Request → Bool
is_answered table x = is_some (answer_at table x.place x.attempt)

-- Each job is answered, or its place waits; each place that waits is that of a job that is not answered.
pub record IsAnswered (table : List Row) (f : Flowing) : Type 0 where
  pub jobs : (x : Request) → Contains f.jobs x → (is_answered table x ≡ true) ⊎ Contains f.waits x.place
  pub waits : (place : List Segment) → Contains f.waits place → (x : Request) × Contains f.jobs x × (x.place ≡ place) × (is_answered table x ≡ false)

abbrev pub JobsAreAnswered : Type 0
JobsAreAnswered = OfChecked (λ lib. (site : List ℕ) (a : List Row) → OfFlows (run_with lib site a) (IsAnswered a))

-- ---- journals

-- what holds of each checked form with a main workflow, inputs and a site
abbrev pub OfRuns : (Library → ℕ → List Bind → List ℕ → Type 0) → Type 0
OfRuns P = OfChecked (λ lib. (main : ℕ) (given : List Bind) (site : List ℕ) → P lib main given site)

-- As a journal grows, its flow gives no less.
abbrev pub JournalsGrow : Type 0
JournalsGrow = OfRuns (λ lib main given site. (journal more : List Entry) → IsBelow (flow_over lib main given site journal) (flow_over lib main given site (journal ++ more)))

-- A fed journal has no two entries of one place and attempt.
abbrev pub FedAreJournals : Type 0
FedAreJournals = (lib : Library) (main : ℕ) (given : List Bind) (site : List ℕ) (journal : List Entry) → fed lib main given site journal ≡ true → is_journal journal ≡ true

-- Each entry of a fed journal has a request that is a job of the flow over all of the journal.
abbrev pub FedAreJobs : Type 0
FedAreJobs =
    OfRuns (λ lib main given site. (journal : List Entry) → fed lib main given site journal ≡ true → (e : Entry) → Contains journal e
    → Contains (flow_over lib main given site journal).jobs e.request)

-- An entry more, for a job whose place and attempt no entry has, leaves a fed journal fed.
abbrev pub FedByOne : Type 0
FedByOne =
    (lib : Library) (main : ℕ) (given : List Bind) (site : List ℕ) (journal : List Entry) (e : Entry) → fed lib main given site journal ≡ true
    → is_asked e.request (flow_over lib main given site journal) ≡ true → has_row (table journal) e.request.place e.request.attempt ≡ false
    → fed lib main given site (journal ++ e ∷ []) ≡ true

-- Entries for jobs that were all there before, each of a place and attempt of its own, leave a fed journal fed, whatever they answer.
abbrev pub FedByMany : Type 0
FedByMany =
    OfRuns (λ lib main given site. (journal more : List Entry) → fed lib main given site journal ≡ true
    → list_all (λ (e : Entry). is_asked e.request (flow_over lib main given site journal)) more ≡ true → is_journal (journal ++ more) ≡ true
    → fed lib main given site (journal ++ more) ≡ true)

-- A journal that answers all of its flow's jobs: each is the request of an entry, and there are as many jobs as entries.
pub record IsDone (journal : List Entry) (f : Flowing) : Type 0 where
  pub entries : (x : Request) → Contains f.jobs x → (e : Entry) × Contains journal e × (e.request ≡ x)
  pub count : length f.jobs ≡ length journal

-- Where the flow over a fed journal is clean, the journal answers all of its jobs.
abbrev pub CleanAreDone : Type 0
CleanAreDone =
    OfRuns (λ lib main given site. (journal : List Entry) → fed lib main given site journal ≡ true → is_clean (flow_over lib main given site journal) ≡ true
    → IsDone journal (flow_over lib main given site journal))

-- ---- schedules

-- Requests that are equal have equal answers.
abbrev pub AnswersAgree : List Entry → List Entry → Type 0
AnswersAgree j k = (d e : Entry) → Contains j d → Contains k e → d.request ≡ e.request → d.answer ≡ e.answer

-- Where a flow is clean, the other one gives no more, and so has no fault; where that one is clean too, they are one flow, with
-- one list of jobs and the same outputs.
pub record IsSettled (f g : Flowing) : Type 0 where
  pub below : IsBelow g f
  pub no_fault : g.faults ≡ []
  pub same : is_clean g ≡ true → g ≡ f

abbrev pub Schedules : Type 0
Schedules =
    OfRuns (λ lib main given site. (j k : List Entry) → fed lib main given site j ≡ true → fed lib main given site k ≡ true → AnswersAgree j k
    → is_clean (flow_over lib main given site j) ≡ true → IsSettled (flow_over lib main given site j) (flow_over lib main given site k))
