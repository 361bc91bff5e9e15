-- Where every read of the shelf succeeded: its count of faults is that of before.
use Rattle.std.specs.Prelude.{◌≡◌, ℕ, Bool, true, false, Result, Ok, Err}
use Rattle.report_text.specs.declared.status.Status.{Status}
use Rattle.report_text.specs.declared.status.Status.TheVariants as status
use Rattle.workflow_stages.specs.declared.ended.CommandStop.{CommandStop}
use Rattle.workflow_stages.specs.declared.ended.Work.{Work}
use Rattle.workflow_stages.specs.declared.ended.Work.TheVariants as work

-- a status that comes only where every read succeeded: each but Read, Write and NoMemory
abbrev pub is_read : Status → Bool
is_read (status.Read path) = false
is_read status.Write = false
is_read status.NoMemory = false
is_read s = true

-- with such a status the count is as it was
abbrev pub StatusCounts : Status → ℕ → ℕ → Type 0
StatusCounts s before now = is_read s ≡ true → now ≡ before

-- the same of a stage that answers a status
abbrev pub ReadCounts : {A : Type 0} → Result A Status → ℕ → ℕ → Type 0
ReadCounts (Ok a) before now = now ≡ before
ReadCounts (Err s) before now = StatusCounts s before now

-- of a stage that answers a stop
abbrev pub StopCounts : {A : Type 0} → Result A CommandStop → ℕ → ℕ → Type 0
StopCounts (Ok a) before now = now ≡ before
StopCounts (Err stop) before now = StatusCounts stop.status before now

-- and of the work of a command
abbrev pub WorkCounts : Work → ℕ → ℕ → Type 0
WorkCounts (work.Text text) before now = now ≡ before
WorkCounts (work.Stop stop) before now = StatusCounts stop.status before now
