-- The laws of what a plan lists, each the promise of a function in `laws`.
use Rattle.std.specs.Prelude.{◌≡◌, ℕ, suc, ◌+◌, Bool, true, nat_lt, ◌||◌, List, [], ◌++◌, Option, Some, count_by, length, slice_get, if◌then◌else◌}
use Rattle.wdl_base.specs.declared.fault.Fault.{Fault}
use Rattle.wdl_base.specs.declared.place.Segment.{Segment}
use Rattle.wdl_value.specs.declared.env.Bind.{Bind}
use Rattle.wdl_value.specs.Tables.{Row}
use Rattle.wdl_typed.specs.declared.flow.FlowDef.{FlowDef}
use Rattle.wdl_typed.specs.Bodies.{Library}
use Rattle.wdl_typed.specs.Flow.{Flowing, flow, is_clean, too_many, value_in}
use Rattle.wdl_typed.specs.Journal.{keys_distinct}
use Rattle.wdl_typed.specs.Kept.{is_checked}
use Rattle.wdl_typed.specs.Requests.{Asked, request}
use Rattle.wdl_base.specs.declared.name.Key.{Key}
use Rattle.flow_laws.specs.Laws.{run_with}
use Rattle.value_net.specs.Nets.{AllStuck, value_at}
use Rattle.net_laws.specs.Growing.{whole}
use Rattle.net_laws.specs.Net.{Given, Work, find, slot_keys}
use Rattle.net_laws.specs.Works.{work_of}
use Rattle.plan_moves.specs.Sheets.{Grown, Sheet, rules_of, state_of}
use Rattle.plan_moves.specs.Telling.{work_after}
use Rattle.plan_lists.specs.Lists.{Adds, JobTest, Listed, Same, Swaps, any_job, jobs_in, unanswered}

abbrev pub StepsList : Type 0
StepsList =
    (w x added : Work) (jobs : JobTest → ℕ) (faults : List Fault) (count : ℕ) → Listed w jobs faults count → Adds w x added
    → Listed x (λ is. jobs is + jobs_in added is) (faults ++ added.faults) (count + added.count)

-- The lists of a work that weighs the same tell of it.
abbrev pub WorksList : Type 0
WorksList = (w x : Work) → Same w x → Listed w (jobs_in x) x.faults x.count

-- The work of a call after one attempt more has one job more.
abbrev pub AttemptsList : Type 0
AttemptsList =
    (site : List ℕ) (place : List Segment) (a : Asked) (k : ℕ) (faults more : List Fault) (waits others : List (List Segment)) (is : JobTest)
    → jobs_in (work_after site place a (k + 1) more others) is ≡ jobs_in (work_after site place a k faults waits) is + (if is (request site place (k + 1) a) a.codes then 1 else 0)

-- The call's work before had no fault, and counted as much.
abbrev pub AnswersList : Type 0
AnswersList =
    (w x v now : Work) (jobs later : JobTest → ℕ) (faults : List Fault) (count : ℕ) → Listed w jobs faults count → Swaps w x v now → v.faults ≡ [] → v.count ≡ now.count
    → ((is : JobTest) → later is + jobs_in v is ≡ jobs is + jobs_in now is) → Listed x later (faults ++ now.faults) count

-- What is waiting and what was answered tell of the flow: these are its jobs without an answer, its faults and its count.
pub record TellsFlow (f : Flowing) (rows : List Row) (waiting answered : JobTest → ℕ) (faults : List Fault) (count : ℕ) : Type 0 where
  pub even : length f.codes ≡ length f.jobs
  pub jobs_are : length f.jobs ≡ waiting any_job + answered any_job
  pub ready : (is : JobTest) → waiting is ≡ jobs_in (record { jobs = f.jobs; codes = f.codes; faults = []; waits = []; count = 0 }) (unanswered rows is)
  pub faults_are : (is : Fault → Bool) → count_by is faults ≡ count_by is f.faults
  pub count_is : f.count ≡ count
  pub clean : (is_clean f ≡ true → (faults ≡ []) × (waiting any_job ≡ 0)) × (faults ≡ [] → waiting any_job ≡ 0 → is_clean f ≡ true)

-- where no step is ready
pub record IsAtEnd (b : Sheet) (rows : List Row) (waiting answered : JobTest → ℕ) : Type 0 where
  pub pairs : length b.rules ≡ length b.steps
  pub stuck : AllStuck b
  pub waits : (is : JobTest) → waiting (unanswered rows is) ≡ waiting is
  pub over : (is : JobTest) → answered (unanswered rows is) ≡ 0

pub record Ended (f : Flowing) (rows : List Row) (waiting answered : JobTest → ℕ) (faults : List Fault) (count : ℕ) (b : Sheet) (g : Given) : Type 0 where
  pub tells : TellsFlow f rows waiting answered faults count
  pub values : (key : Key) (c : ℕ) → find g.names key ≡ Some c → value_in key f ≡ value_at b.values c

abbrev pub ListsEnd : Type 0
ListsEnd =
    (lib : Library) (main : Option ℕ) → is_checked lib main ≡ true → (site : List ℕ) (rows : List Row) (b : Sheet) (owners : List ℕ) (depth k : ℕ) (f : FlowDef) → slice_get lib.flows k ≡ Some f
    → (given : List Bind) (place : List Segment) (g : Given) (ds : List ℕ) → keys_distinct (slot_keys g.names) ≡ true → (p : Grown lib site rows b owners depth (whole f given place g ds))
    → (waiting answered : JobTest → ℕ) (faults : List Fault) (count : ℕ) → Listed (work_of lib site rows (rules_of b) (state_of b owners) p) (λ is. waiting is + answered is) faults count
    → IsAtEnd b rows waiting answered → Ended (flow (run_with lib site rows) (suc depth) k given place) rows waiting answered faults count b g

abbrev pub TooManyEarly : Type 0
TooManyEarly =
    (lib : Library) (site : List ℕ) (rows : List Row) (b : Sheet) (owners : List ℕ) (depth k : ℕ) (f : FlowDef) → slice_get lib.flows k ≡ Some f → (given : List Bind) (place : List Segment) (g : Given) (ds : List ℕ)
    (p : Grown lib site rows b owners depth (whole f given place g ds)) (jobs : JobTest → ℕ) (faults : List Fault) (count : ℕ) → Listed (work_of lib site rows (rules_of b) (state_of b owners) p) jobs faults count
    → nat_lt 20000 (jobs any_job) || nat_lt 1000000 count ≡ true → too_many (flow (run_with lib site rows) (suc depth) k given place) ≡ true
