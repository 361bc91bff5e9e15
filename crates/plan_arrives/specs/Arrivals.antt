-- What an answer makes of a plan: it goes on growing, over one row more.
use Rattle.std.specs.Prelude.{◌≡◌, ◌<◌, ◌≤◌, ◌+◌, ℕ, true, false, List, [], ◌∷◌, ◌++◌, Some, Ok, Err, length, slice_get}
use Rattle.wdl_base.specs.declared.answer.Answer.{Answer}
use Rattle.wdl_base.specs.declared.place.Segment.{Segment}
use Rattle.wdl_value.specs.declared.env.Bind.{Bind}
use Rattle.wdl_value.specs.declared.value.Value.{Value}
use Rattle.wdl_value.specs.Tables.{Row}
use Rattle.wdl_typed.specs.Bodies.{Library}
use Rattle.wdl_typed.specs.Flow.{failing_at}
use Rattle.wdl_typed.specs.Requests.{Asked, Failing, asks, bad_status, is_success, job_dir, tells}
use Rattle.net_laws.specs.Cost.{TaskCost}
use Rattle.net_laws.specs.Growing.{Form}
use Rattle.net_laws.specs.Moving.{IsEven}
use Rattle.net_laws.specs.Net.{Work}
use Rattle.plan_moves.specs.Telling.{HasOutputs, IsWaiting, work_after}
use Rattle.plan_lists.specs.Lists.{Swaps}
use Rattle.plan_layout.specs.declared.layout.Layout.{Layout}
use Rattle.plan_growth.specs.declared.instance.Instance.{Instance}
use Rattle.plan_growth.specs.Entering.{Sown}
use Rattle.plan_growth.specs.Growth.{AskedCall, IsAsker, IsGrowing, sheet_of}

-- Cells of the step alone have changed: those that were set have kept their values.
pub record SetsCells (v : Sown) (owners : List ℕ) (t : ℕ) (w : Sown) : Type 0 where
  pub rules : w.rules ≡ v.rules
  pub steps : w.steps ≡ v.steps
  pub cells : length w.values ≡ length v.values
  pub others : (c u : ℕ) → slice_get owners c ≡ Some u → (u ≡ t → ⊥) → slice_get w.values c ≡ slice_get v.values c
  pub kept : (c : ℕ) (x : Value) → slice_get v.values c ≡ Some (Some x) → slice_get w.values c ≡ Some (Some x)

-- Each of the later calls is one of those that were asked.
abbrev pub AreAmong : List AskedCall → List AskedCall → Type 0
AreAmong later asked = (i : ℕ) (d : AskedCall) → slice_get later i ≡ Some d → (j : ℕ) × (slice_get asked j ≡ Some d)

-- None is of that step.
abbrev pub NoneOf : List AskedCall → ℕ → Type 0
NoneOf later t = (i : ℕ) (d : AskedCall) → slice_get later i ≡ Some d → d.step ≡ t → ⊥

-- The plan goes on growing over these rows: the work `was` went from its lists, and `now` came in its place.
pub record HasArrived (lib : Library) (layout : Layout) (site : List ℕ) (rows : List Row) (depth : ℕ) (form : Form) (w : Sown) (is : List Instance) (listed : Work) (later : List AskedCall) (paid : TaskCost → ℕ) (was now : Work) : Type 0 where
  pub lists : Work
  pub even : IsEven lists
  pub swaps : Swaps listed lists was now
  pub growing : IsGrowing lib layout site rows depth form w is lists later paid

abbrev pub row_at : List Segment → ℕ → Answer → Row
row_at place attempt answer = record { place = place; attempt = attempt; answer = answer }

-- An attempt that waits is answered.
module _ (lib : Library) (layout : Layout) (site : List ℕ) (rows : List Row) (depth : ℕ) (form : Form) (v : Sown) (is : List Instance) (listed : Work) (asked : List AskedCall) (paid : TaskCost → ℕ)
    (growing : IsGrowing lib layout site rows depth form v is listed asked paid) (j : ℕ) (c : AskedCall) (at : slice_get asked j ≡ Some c) (a : Asked) (k : ℕ) (answer : Answer) where
  abbrev pub asker : IsAsker lib layout site rows growing.growth c
  asker = growing.asks j c at

  abbrev pub rows_now : List Row
  rows_now = rows ++ row_at c.place k answer ∷ []

  abbrev pub was_waiting : Work
  was_waiting = work_after site c.place a k [] (c.place ∷ [])

  abbrev pub Arrived : Sown → List AskedCall → Work → Type 0
  Arrived w later now = HasArrived lib layout site rows_now depth form w is listed later paid was_waiting now

  pub record Goes : Type 0 where
    -- it had a status of success, and there are outputs, or one failed
    pub done : is_success a.codes answer.status ≡ true → (outs : List Bind) → tells lib.structs c.task a (job_dir site c.place k) answer ≡ Ok outs → (w : Sown) → SetsCells v growing.growth.owners c.step w
        → HasOutputs (sheet_of w growing.growth.rules) asker.call asker.given outs → (later : List AskedCall) → AreAmong later asked → NoneOf later c.step → Arrived w later (work_after site c.place a k [] [])
    pub failed : is_success a.codes answer.status ≡ true → (e : Failing) → tells lib.structs c.task a (job_dir site c.place k) answer ≡ Err e → (later : List AskedCall) → AreAmong later asked
        → Arrived v later (work_after site c.place a k (failing_at c.place e ∷ []) [])
    -- it had none, and was the last one, or the next one waits
    pub refused : is_success a.codes answer.status ≡ false → a.retries ≤ k → (later : List AskedCall) → AreAmong later asked
        → Arrived v later (work_after site c.place a k (failing_at c.place (bad_status answer.status) ∷ []) [])
    pub again : is_success a.codes answer.status ≡ false → k < a.retries → (later : List AskedCall) → AreAmong later asked
        → Arrived v later (work_after site c.place a (k + 1) [] (c.place ∷ [])) × IsWaiting rows_now c.place a (k + 1)

abbrev pub AnswersGoOn : Type 0
AnswersGoOn =
    (lib : Library) (layout : Layout) (site : List ℕ) (rows : List Row) (depth : ℕ) (form : Form) (v : Sown) (is : List Instance) (listed : Work) (asked : List AskedCall) (paid : TaskCost → ℕ)
    (growing : IsGrowing lib layout site rows depth form v is listed asked paid) (j : ℕ) (c : AskedCall) (at : slice_get asked j ≡ Some c) (a : Asked) (k : ℕ) (answer : Answer) → asks c.task c.args ≡ Ok a
    → IsWaiting rows c.place a k → Goes lib layout site rows depth form v is listed asked paid growing j c at a k answer
