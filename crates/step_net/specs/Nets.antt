-- Nets of steps and cells: which steps are ready, and what keeps each other step from being forgotten.
use Rattle.std.specs.Prelude.{◌≡◌, ◌≢◌, ◌<◌, ◌≤◌, ◌+◌, ◌⊎◌, ℕ, Bool, true, false, List, Some, Contains, length, slice_get, get_or}
use Rattle.std.specs.Global.{Global}
use Rattle.std.specs.declared.collections.VecDeque.{VecDeque}
use Rattle.step_net.specs.declared.net.Step.{Step}
use Rattle.step_net.specs.declared.net.StepNet.{StepNet}

-- the steps that wait at one cell, first the one that has waited longest
abbrev pub Watchers : Type 0
Watchers = VecDeque ℕ Global

abbrev pub set_at : List Bool → ℕ → Bool
set_at is_set c = get_or is_set c false

abbrev pub need_is_set : List Bool → List ℕ → ℕ → Bool
need_is_set is_set needs k = set_at is_set (get_or needs k 0)

-- All needs of the step are set.
abbrev pub IsReady : List Bool → List ℕ → Step → Type 0
IsReady is_set needs x = (k : ℕ) → x.start ≤ k → k < x.end → need_is_set is_set needs k ≡ true

-- Some need of the step is not set.
abbrev pub IsStuck : List Bool → List ℕ → Step → Type 0
IsStuck is_set needs x = (k : ℕ) × (x.start ≤ k) × (k < x.end) × (need_is_set is_set needs k ≡ false)

-- The step watches a need that is not set.
pub record IsWatching (is_set : List Bool) (watchers : List Watchers) (needs : List ℕ) (t : ℕ) (x : Step) : Type 0 where
  pub need : ℕ
  pub low : x.start ≤ need
  pub high : need < x.end
  pub missing : need_is_set is_set needs need ≡ false
  pub list : Watchers
  pub there : slice_get watchers (get_or needs need 0) ≡ Some list
  pub watched : Contains list.items t

abbrev pub Waits : List Bool → List Watchers → List ℕ → List Step → List ℕ → ℕ → Type 0
Waits is_set watchers needs steps queue t =
    (x : Step) → slice_get steps t ≡ Some x → x.is_taken ≡ false → Contains queue t ⊎ IsWatching is_set watchers needs t x

pub record Spans (is_set : List Bool) (needs : List ℕ) (x : Step) : Type 0 where
  pub low : x.start ≤ x.next
  pub high : x.next ≤ x.end
  pub end : x.end ≤ length needs
  pub passed : (k : ℕ) → x.start ≤ k → k < x.next → need_is_set is_set needs k ≡ true

-- The net's parts fit each other.
pub record IsFitting (is_set : List Bool) (watchers : List Watchers) (needs : List ℕ) (steps : List Step) (queue : List ℕ) : Type 0 where
  pub same : length watchers ≡ length is_set
  pub within : (k : ℕ) → k < length needs → get_or needs k 0 < length is_set
  pub spans : (t : ℕ) (x : Step) → slice_get steps t ≡ Some x → Spans is_set needs x
  pub queued : (t : ℕ) → Contains queue t → t < length steps
  pub watching : (c : ℕ) (w : Watchers) → slice_get watchers c ≡ Some w → (t : ℕ) → Contains w.items t → t < length steps

pub record IsSound (is_set : List Bool) (watchers : List Watchers) (needs : List ℕ) (steps : List Step) (queue : List ℕ) : Type 0 where
  pub fitting : IsFitting is_set watchers needs steps queue
  pub waits : (t : ℕ) → Waits is_set watchers needs steps queue t

-- Only this step may be forgotten.
pub record IsSoundBut (s : ℕ) (is_set : List Bool) (watchers : List Watchers) (needs : List ℕ) (steps : List Step) (queue : List ℕ) : Type 0 where
  pub fitting : IsFitting is_set watchers needs steps queue
  pub waits : (t : ℕ) → t ≢ s → Waits is_set watchers needs steps queue t

abbrev pub AreSound : StepNet → Type 0
AreSound n = IsSound n.is_set.items n.watchers.items n.needs.items n.steps.items n.queue.items

-- a new step, whose needs come behind so many
abbrev pub step_of : ℕ → ℕ → Step
step_of start count = record { start = start; next = start; end = start + count; is_taken = false }
