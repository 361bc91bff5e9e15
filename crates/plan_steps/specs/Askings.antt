-- The calls of tasks that were asked, and their attempts that wait.
use Rattle.std.specs.Prelude.{◌≡◌, ℕ, List, Option, Some, None, length, map, slice_get, swap_remove}
use Rattle.wdl_base.specs.declared.place.Segment.{Segment}
use Rattle.wdl_task.specs.declared.request.Prepared.{Prepared}
use Rattle.wdl_flow.specs.Marks.{place_mark}
use Rattle.plan_steps.specs.declared.asking.Asked.{Asked}
use Rattle.plan_steps.specs.declared.asking.Asking.{Asking}

-- a call of a task that was asked: its place, its step, and the last attempt that was answered
pub record Call : Type 0 where
  pub place : List Segment
  pub step : ℕ
  pub last : Option ℕ

abbrev pub call_of : Asked → Call
call_of a = record { place = a.place; step = a.step; last = a.last }

abbrev pub calls : Asking → List Call
calls q = map call_of q.asked.items

abbrev pub place_in : Call → List Segment
place_in c = c.place

abbrev pub new_call : List Segment → ℕ → Call
new_call place step = record { place = place; step = step; last = None }

-- ---- what waits

-- the attempt that waits at k is of the call that stands there
pub record IsOwned (ready : List Prepared) (asked : List Asked) (k at : ℕ) : Type 0 where
  pub call : Asked
  pub there : slice_get asked at ≡ Some call
  pub waits : call.waits_at ≡ k
  pub prepared : Prepared
  pub is_ready : slice_get ready k ≡ Some prepared
  pub place : prepared.request.place ≡ call.place

abbrev pub mark_of : Asked → ℕ
mark_of a = place_mark 0 a.place

pub record AreAsking (ready : List Prepared) (owners : List ℕ) (asked : List Asked) (marks : List ℕ) : Type 0 where
  pub marks_are : marks ≡ map mark_of asked
  pub pairs : length owners ≡ length ready
  pub owned : (k at : ℕ) → slice_get owners k ≡ Some at → IsOwned ready asked k at
  pub distinct : (i j : ℕ) (a b : Asked) → slice_get asked i ≡ Some a → slice_get asked j ≡ Some b → a.place ≡ b.place → i ≡ j

abbrev pub IsAsking : Asking → Type 0
IsAsking q = AreAsking q.ready.items q.owners.items q.asked.items q.marks

-- ---- what is asked of it

-- No call has that place.
abbrev pub IsNew : List Call → List Segment → Type 0
IsNew cs place = (i : ℕ) (c : Call) → slice_get cs i ≡ Some c → c.place ≡ place → ⊥

abbrev pub IsFoundAt : List Call → List Segment → Option ℕ → Type 0
IsFoundAt cs place None = IsNew cs place
IsFoundAt cs place (Some at) = (c : Call) × (slice_get cs at ≡ Some c) × (c.place ≡ place)

-- An attempt of the call waits.
abbrev pub IsWaiting : Asking → ℕ → Type 0
IsWaiting q at = (k : ℕ) × (slice_get q.owners.items k ≡ Some at)

-- No attempt of the call waits.
abbrev pub IsIdle : Asking → ℕ → Type 0
IsIdle q at = (k : ℕ) → slice_get q.owners.items k ≡ Some at → ⊥

-- One element was taken out, whose place the last one took.
pub record IsTakenFrom {A : Type 0} (old : List A) (taken : A) (new : List A) : Type 0 where
  pub at : ℕ
  pub there : slice_get old at ≡ Some taken
  pub rest : new ≡ swap_remove old at taken

-- the same call, whose last answered attempt is this one
pub record IsAnswered (old : List Call) (at attempt : ℕ) (new : List Call) : Type 0 where
  pub count : length new ≡ length old
  pub here : (c : Call) → slice_get old at ≡ Some c → slice_get new at ≡ Some (record { place = c.place; step = c.step; last = Some attempt })
  pub others : (i : ℕ) → (i ≡ at → ⊥) → slice_get new i ≡ slice_get old i
