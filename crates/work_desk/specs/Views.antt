-- The state under the lock.
use Rattle.std.specs.Prelude.{◌≡◌, ℕ, ◌≤◌, ◌+◌, List, length, Bool, All, ⊤}
use Rattle.wdl_base.specs.declared.answer.Answer.{Answer}
use Rattle.wdl_base.specs.declared.entry.Source.TheVariants.{Launched}
use Rattle.wdl_base.specs.declared.request.Request.{Request}
use Rattle.wdl_base.specs.declared.step.Counts.{Counts}
use Rattle.wdl_port.specs.declared.fault.LaunchFault.{LaunchFault}
use Rattle.wdl_port.specs.declared.fault.LaunchFault.TheVariants as launch
use Rattle.ready_core.specs.Rows.{TakenJob}
use Rattle.work_desk.specs.declared.state.Finished.{Finished}
use Rattle.work_desk.specs.declared.state.Finished.TheVariants.{Done, Undone}

pub record DeskView : Type 0 where
  pub waiting : List TakenJob
  pub running : ℕ
  pub answers : List Finished
  pub closed : Bool
  pub put : ℕ
  pub picked : ℕ
  pub finished : ℕ
  pub collected : ℕ

abbrev pub desk_view : List TakenJob → ℕ → List Finished → Bool → ℕ → ℕ → ℕ → ℕ → DeskView
desk_view w r a b p k f c =
    record { waiting = w; running = r; answers = a; closed = b; put = p; picked = k; finished = f; collected = c }

abbrev pub counts : DeskView → Counts
counts d = record { put = d.put; picked = d.picked; finished = d.finished; collected = d.collected }

abbrev pub AllEqual : Counts → ℕ → Type 0
AllEqual c k = (c.put ≡ k) × (c.picked ≡ k) × (c.finished ≡ k) × (c.collected ≡ k)

-- the waiting jobs, the jobs being run and the waiting answers
abbrev pub out_of : DeskView → ℕ
out_of d = length d.waiting + d.running + length d.answers

-- a refused request is one that the launcher refuses
abbrev pub Refusal : LaunchFault → Type 0 → Type 0
Refusal launch.Refused p = p
Refusal launch.NoMemory p = ⊤

-- what waits is the launcher's answer for its own request, or a request that it refuses
abbrev pub Good : (Request → Answer → Type 0) → (Request → Type 0) → Finished → Type 0
Good gives refuses (Done e) = (e.source ≡ Launched) × gives e.request e.answer
Good gives refuses (Undone u) = Refusal u.fault (refuses u.job.request)

-- the five facts of the lock
pub record IsDesk (workers : ℕ) (gives : Request → Answer → Type 0) (refuses : Request → Type 0) (d : DeskView) : Type 0 where
  pub within : out_of d ≤ workers
  pub few : d.put ≤ 20000
  pub small : workers ≤ 64
  pub put : d.put ≡ d.picked + length d.waiting
  pub picked : d.picked ≡ d.finished + d.running
  pub finished : d.finished ≡ d.collected + length d.answers
  pub good : All (Good gives refuses) d.answers

abbrev pub HasRoom : ℕ → ℕ → ℕ → Type 0
HasRoom workers waiting answers = (workers ≤ waiting) × (workers ≤ answers)
