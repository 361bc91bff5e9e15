-- What the answer to an attempt makes of what has grown, and of the attempts that wait.
use Rattle.std.specs.Prelude.{◌≡◌, ℕ, ◌+◌, ◌<◌, Bool, true, false, List, [], ◌∷◌, ◌++◌, Some, Ok, Err, length, nat_lt, slice_get}
use Rattle.wdl_base.specs.declared.answer.Answer.{Answer}
use Rattle.wdl_base.specs.declared.fault.Fault.{Fault}
use Rattle.wdl_value.specs.declared.env.Bind.{Bind}
use Rattle.wdl_value.specs.declared.value.Value.TheVariants as v
use Rattle.wdl_typed.specs.declared.checked.Checked.{Checked}
use Rattle.wdl_typed.specs.declared.flow.FlowDef.{FlowDef}
use Rattle.wdl_typed.specs.declared.flow.Statement.{Statement}
use Rattle.wdl_typed.specs.declared.flow.Statement.TheVariants as stmt
use Rattle.wdl_typed.specs.declared.flow.Target.TheVariants as target
use Rattle.wdl_typed.specs.declared.flow.TCall.{TCall}
use Rattle.wdl_typed.specs.declared.task.TaskDef.{TaskDef}
use Rattle.wdl_typed.specs.Flow.{failing_at}
use Rattle.wdl_typed.specs.Requests.{Tried, bad_status, tells}
use Rattle.wdl_task.specs.declared.request.Prepared.{Prepared}
use Rattle.wdl_task.specs.Readiness.{IsTold}
use Rattle.wdl_task.specs.Views.{asked_of, next_of}
use Rattle.value_net.specs.Nets.{with_value}
use Rattle.plan_layout.specs.declared.layout.BodyLayout.{BodyLayout}
use Rattle.plan_layout.specs.declared.layout.Layout.{Layout}
use Rattle.plan_layout.specs.declared.layout.StatementLayout.{StatementLayout}
use Rattle.plan_room.specs.Room.{HasRuns}
use Rattle.plan_growth.specs.declared.instance.Instance.{Instance}
use Rattle.plan_growth.specs.Entering.{Sown, with_net}
use Rattle.plan_growth.specs.Keeps.{IsAt}
use Rattle.plan_steps.specs.Askings.{IsAnswered, IsTakenFrom}
use Rattle.plan_steps.specs.Doing.{Asks, Field}
use Rattle.plan_bodies.specs.Bases.{last_base}
use Rattle.plan_steps.specs.Stepping.{library_in}

-- the net with these outputs in the cells from the first on
abbrev pub with_outputs : ℕ → List Bind → Sown → Sown
with_outputs first [] net = net
with_outputs first (b ∷ bs) net = with_value (with_outputs (first + 1) bs net) first b.value

-- the net with the outputs of a call, and the call's own cell
abbrev pub with_ended : ℕ → ℕ → List Bind → Sown → Sown
with_ended first done outs net = with_value (with_outputs first outs net) done v.Absent

-- the net after an attempt that had a status of success
abbrev pub ended_net : ℕ → ℕ → Sown → Tried (List Bind) → Sown
ended_net first done net (Ok outs) = with_ended first done outs net
ended_net first done net (Err f) = net

abbrev pub ended_faults : Prepared → List Fault → Tried (List Bind) → List Fault
ended_faults p faults (Ok outs) = faults
ended_faults p faults (Err f) = faults ++ failing_at p.request.place f ∷ []

-- The attempt had no status of success: the next one waits, or the call has a fault.
abbrev pub goes_on : Prepared → Bool
goes_on p = nat_lt p.request.attempt p.retries

abbrev pub IsRefused : List ℕ → Prepared → ℕ → List Fault → Asks → List Fault → Asks → Bool → Type 0
IsRefused site p status faults asks after more true = (after ≡ faults) × (more ≡ record { ready = asks.ready ++ next_of site p ∷ []; calls = asks.calls; jobs = asks.jobs + 1 })
IsRefused site p status faults asks after more false = (after ≡ faults ++ failing_at p.request.place (bad_status status) ∷ []) × (more ≡ asks)

-- ---- the call of a step

-- the state with what the outputs of a call told
abbrev pub concluded : Field → List ℕ → StatementLayout → Prepared → Tried (List Bind) → Field
concluded f bases l p o =
    record {
      plot = with_net f.plot (ended_net (last_base bases + l.first_name) (last_base bases + l.done) f.plot.net o);
      faults = ended_faults p f.faults o;
      count = f.count;
    }

-- The statement of that number of the instance is the call of a task, which may be told what the attempt's answer is.
pub record CanConclude (checked : Checked) (layout : Layout) (f : Field) (i k : ℕ) (p : Prepared) : Type 0 where
  pub instance : Instance
  pub body : BodyLayout
  pub flow : FlowDef
  pub line : StatementLayout
  pub statement : Statement
  pub here : IsAt (library_in checked) layout f.plot.instances i k instance body flow line statement
  pub call : TCall
  pub is_call : statement ≡ stmt.Call call
  pub number : ℕ
  pub target_is : call.target ≡ target.Task number
  pub task : TaskDef
  pub found : slice_get checked.tasks number ≡ Some task
  pub told : IsTold checked.structs task p
  pub names : line.names ≡ length task.outputs
  pub some : 0 < length instance.bases
  pub runs : HasRuns (length f.plot.net.values) (last_base instance.bases) line

-- what an answer with a status of success makes of the state
abbrev pub Concluded : Checked → Layout → Field → ℕ → ℕ → Prepared → Answer → Field → Type 0
Concluded checked layout f i k p answer new =
    (h : CanConclude checked layout f i k p) → new ≡ concluded f h.instance.bases h.line p (tells checked.structs h.task (asked_of p) p.request.dir answer)

-- The attempt that waited was taken out, and its call has this attempt as its last one.
pub record IsTaken (at : ℕ) (p : Prepared) (old new : Asks) : Type 0 where
  pub ready : IsTakenFrom old.ready p new.ready
  pub calls : IsAnswered old.calls at p.request.attempt new.calls
  pub jobs : new.jobs ≡ old.jobs

-- what an answer makes of the state: by whether its status is a success of the attempt
abbrev pub Answered : Checked → Layout → List ℕ → ℕ → ℕ → Prepared → Answer → Field → Asks → Field → Asks → Bool → Type 0
Answered checked layout site i k p answer f between new after true = Concluded checked layout f i k p answer new × (after ≡ between)
Answered checked layout site i k p answer f between new after false =
    (new.plot ≡ f.plot) × (new.count ≡ f.count) × IsRefused site p answer.status f.faults between new.faults after (goes_on p)
