-- What is evaluated along a run is paid for.
use Rattle.std.specs.Prelude.{◌≡◌, ℕ, Option, None}
use Rattle.ready_core.specs.Cores.{CoreState, IsPaidFor}
use Rattle.work_desk.specs.declared.stop.Stop.{Stop}

-- unless the run stopped, each expression was evaluated once at most since the counter stood at `start`
abbrev pub IsPaidUnless : Option Stop → ℕ → ℕ → CoreState → Type 0
IsPaidUnless stop start now c = stop ≡ None → IsPaidFor start now c

-- what was so before is so after, wherever the counter began
unfoldable pub StaysPaid : CoreState → Option Stop → ℕ → CoreState → Option Stop → ℕ → Type 0
StaysPaid c s old d t new = (start : ℕ) → IsPaidUnless s start old c → IsPaidUnless t start new d

-- Where a run ends without a stop, it evaluated nothing again: what was paid for before it is paid for with all that it evaluated.
pub record EndsPaid (c : CoreState) (old : ℕ) (d : CoreState) (stop : Option Stop) (new : ℕ) : Type 0 where
  pub paid : stop ≡ None → (start : ℕ) → IsPaidFor start old c → IsPaidFor start new d
