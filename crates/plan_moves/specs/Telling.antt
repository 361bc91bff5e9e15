-- What a call tells, by its arguments, by what its task asks, and by the answers at its place.
use Rattle.std.specs.Prelude.{◌≡◌, ◌<◌, ◌≤◌, ℕ, zero, suc, ◌+◌, true, false, List, [], ◌∷◌, ◌++◌, All, Some, None, Ok, Err, map, slice_get}
use Rattle.std.specs.List.{list_all}
use Rattle.wdl_base.specs.declared.answer.Answer.{Answer}
use Rattle.wdl_base.specs.declared.fault.Fault.{Fault}
use Rattle.wdl_base.specs.declared.place.Segment.{Segment}
use Rattle.wdl_base.specs.declared.place.Segment.TheVariants as segment
use Rattle.wdl_base.specs.declared.request.Request.{Request}
use Rattle.wdl_value.specs.declared.env.Bind.{Bind}
use Rattle.wdl_value.specs.Tables.{Row, answer_at}
use Rattle.wdl_typed.specs.declared.flow.TCall.{TCall}
use Rattle.wdl_typed.specs.declared.flow.Target.TheVariants as target
use Rattle.wdl_typed.specs.declared.task.TaskDef.{TaskDef}
use Rattle.wdl_typed.specs.Bodies.{Library}
use Rattle.wdl_typed.specs.Flow.{args_known, args_met, bound_output, env_of, failing_at, has_ended}
use Rattle.wdl_typed.specs.Requests.{Asked, Failing, Successes, asks, bad_status, is_success, job_dir, request, tells}
use Rattle.value_net.specs.Nets.{value_at}
use Rattle.net_laws.specs.Growing.{IsNamed, mark_cell, slot_cell}
use Rattle.net_laws.specs.Net.{Given, Mark, Scope, Slot, Work, ended_in, known_in}
use Rattle.net_laws.specs.Planned.{ArgsMet, CallNeeds, call_names}
use Rattle.plan_moves.specs.Laws.{TellsCall}
use Rattle.plan_moves.specs.Sheets.{Sheet}

-- ---- attempts

-- the requests of so many attempts from one on, and the statuses of success of each
abbrev pub requests_from : List ℕ → List Segment → Asked → ℕ → ℕ → List Request
requests_from site place a i zero = []
requests_from site place a i (suc n) = request site place i a ∷ requests_from site place a (i + 1) n

abbrev pub codes_of : Asked → ℕ → List Successes
codes_of a zero = []
codes_of a (suc n) = a.codes ∷ codes_of a n

-- the work of a call whose last attempt has this number, with these faults, which waits at these places
abbrev pub work_after : List ℕ → List Segment → Asked → ℕ → List Fault → List (List Segment) → Work
work_after site place a k faults waits =
    record { jobs = requests_from site place a 0 (suc k); codes = codes_of a (suc k); faults = faults; waits = waits; count = 0 }

-- the work of a call that failed before it asked
abbrev pub work_failed : List Segment → Failing → Work
work_failed place e = record { jobs = []; codes = []; faults = failing_at place e ∷ []; waits = []; count = 0 }

-- The attempts before this one were answered, each by a status that is no success.
pub record IsTried (rows : List Row) (place : List Segment) (a : Asked) (k : ℕ) : Type 0 where
  pub refused : (j : ℕ) → j < k → (answer : Answer) × (answer_at rows place j ≡ Some answer) × (is_success a.codes answer.status ≡ false)
  pub within : k ≤ a.retries

-- This one was not answered, nor was a later one.
pub record IsWaiting (rows : List Row) (place : List Segment) (a : Asked) (k : ℕ) : Type 0 where
  pub tried : IsTried rows place a k
  pub unanswered : (j : ℕ) → k ≤ j → answer_at rows place j ≡ None

-- This one was answered, and no later one was.
pub record IsAnswered (rows : List Row) (place : List Segment) (a : Asked) (k : ℕ) (answer : Answer) : Type 0 where
  pub tried : IsTried rows place a k
  pub there : answer_at rows place k ≡ Some answer
  pub last : (j : ℕ) → k < j → answer_at rows place j ≡ None

-- ---- calls

abbrev pub place_of : Scope → TCall → List Segment
place_of s x = s.place ++ segment.Call x.name ∷ []

-- a call of a task whose arguments have these values
pub record CallsTask (lib : Library) (b : Sheet) (x : TCall) (s : Scope) (g : Given) (args : List Bind) (t : TaskDef) : Type 0 where
  pub slots : List Slot
  pub marks : List Mark
  pub needs : CallNeeds s x slots marks
  pub met : ArgsMet (value_at b.values) x slots marks args
  pub number : ℕ
  pub is : x.target ≡ target.Task number
  pub found : slice_get lib.tasks number ≡ Some t
  pub named : IsNamed (call_names lib x) g

-- a call of which an argument failed
pub record ArgFails (lib : Library) (b : Sheet) (x : TCall) (s : Scope) (g : Given) (e : Failing) : Type 0 where
  pub slots : List Slot
  pub marks : List Mark
  pub needs : CallNeeds s x slots marks
  pub known : args_known (map (known_in (value_at b.values)) slots) x.args ≡ true
  pub ended : list_all (has_ended (map (ended_in (value_at b.values)) marks)) x.after ≡ true
  pub fails : args_met (env_of (map (known_in (value_at b.values)) slots)) x.args ≡ Err e
  pub named : IsNamed (call_names lib x) g

-- No cell of the call is set.
pub record IsUnset (b : Sheet) (g : Given) : Type 0 where
  pub names : All (λ c. value_at b.values c ≡ None) (map slot_cell g.names)
  pub calls : All (λ c. value_at b.values c ≡ None) (map mark_cell g.calls)

-- They have the outputs, and the call has ended.
pub record HasOutputs (b : Sheet) (x : TCall) (g : Given) (outs : List Bind) : Type 0 where
  pub names : map (bound_output x.name) outs ≡ map (known_in (value_at b.values)) g.names
  pub calls : record { call = x.name; ended = true } ∷ [] ≡ map (ended_in (value_at b.values)) g.calls

-- what calls tell
pub record CallsTell : Type 0 where
  pub arg_failed : (lib : Library) (site : List ℕ) (rows : List Row) (b : Sheet) (x : TCall) (s : Scope) (g : Given) (e : Failing) → ArgFails lib b x s g e → IsUnset b g
      → TellsCall lib site rows b x s g (work_failed (place_of s x) e)
  pub not_asked : (lib : Library) (site : List ℕ) (rows : List Row) (b : Sheet) (x : TCall) (s : Scope) (g : Given) (args : List Bind) (t : TaskDef) (e : Failing) → CallsTask lib b x s g args t → asks t args ≡ Err e → IsUnset b g
      → TellsCall lib site rows b x s g (work_failed (place_of s x) e)
  pub waits : (lib : Library) (site : List ℕ) (rows : List Row) (b : Sheet) (x : TCall) (s : Scope) (g : Given) (args : List Bind) (t : TaskDef) (a : Asked) (k : ℕ) → CallsTask lib b x s g args t → asks t args ≡ Ok a
      → IsWaiting rows (place_of s x) a k → IsUnset b g → TellsCall lib site rows b x s g (work_after site (place_of s x) a k [] (place_of s x ∷ []))
  pub done : (lib : Library) (site : List ℕ) (rows : List Row) (b : Sheet) (x : TCall) (s : Scope) (g : Given) (args : List Bind) (t : TaskDef) (a : Asked) (k : ℕ) (answer : Answer) (outs : List Bind)
      → CallsTask lib b x s g args t → asks t args ≡ Ok a → IsAnswered rows (place_of s x) a k answer → is_success a.codes answer.status ≡ true
      → tells lib.structs t a (job_dir site (place_of s x) k) answer ≡ Ok outs → HasOutputs b x g outs → TellsCall lib site rows b x s g (work_after site (place_of s x) a k [] [])
  pub failed : (lib : Library) (site : List ℕ) (rows : List Row) (b : Sheet) (x : TCall) (s : Scope) (g : Given) (args : List Bind) (t : TaskDef) (a : Asked) (k : ℕ) (answer : Answer) (e : Failing)
      → CallsTask lib b x s g args t → asks t args ≡ Ok a → IsAnswered rows (place_of s x) a k answer → is_success a.codes answer.status ≡ true
      → tells lib.structs t a (job_dir site (place_of s x) k) answer ≡ Err e → IsUnset b g
      → TellsCall lib site rows b x s g (work_after site (place_of s x) a k (failing_at (place_of s x) e ∷ []) [])
  pub refused : (lib : Library) (site : List ℕ) (rows : List Row) (b : Sheet) (x : TCall) (s : Scope) (g : Given) (args : List Bind) (t : TaskDef) (a : Asked) (k : ℕ) (answer : Answer)
      → CallsTask lib b x s g args t → asks t args ≡ Ok a → IsAnswered rows (place_of s x) a k answer → is_success a.codes answer.status ≡ false → k ≡ a.retries → IsUnset b g
      → TellsCall lib site rows b x s g (work_after site (place_of s x) a k (failing_at (place_of s x) (bad_status answer.status) ∷ []) [])

-- One row more answers the attempt that waits at its place, and nothing elsewhere.
pub record RowsArrive : Type 0 where
  pub answers : (rows : List Row) (r : Row) (a : Asked) → IsWaiting rows r.place a r.attempt → IsAnswered (rows ++ r ∷ []) r.place a r.attempt r.answer
  pub next : (rows : List Row) (place : List Segment) (a : Asked) (k : ℕ) (answer : Answer) → IsAnswered rows place a k answer → is_success a.codes answer.status ≡ false → k < a.retries
      → IsWaiting rows place a (k + 1)
  pub others : (rows : List Row) (r : Row) (place : List Segment) (a : Asked) (k : ℕ) → (place ≡ r.place → ⊥) → IsWaiting rows place a k → IsWaiting (rows ++ r ∷ []) place a k
  pub elsewhere : (rows : List Row) (r : Row) (place : List Segment) → (place ≡ r.place → ⊥) → (attempt : ℕ) → answer_at rows place attempt ≡ answer_at (rows ++ r ∷ []) place attempt
