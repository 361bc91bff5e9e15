-- What an answer makes of what holds.
use Rattle.std.specs.Prelude.{◌≡◌, ℕ, ◌+◌, ◌≤◌, true, List, [], ◌∷◌, ◌++◌, Option, Result, Ok, Err}
use Rattle.wdl_value.specs.declared.env.Bind.{Bind}
use Rattle.wdl_value.specs.Tables.{Row}
use Rattle.wdl_typed.specs.declared.checked.Checked.{Checked}
use Rattle.wdl_typed.specs.Flow.{too_many}
use Rattle.plan_layout.specs.declared.layout.Layout.{Layout}
use Rattle.plan_steps.specs.declared.fault.PlanFault.{PlanFault}
use Rattle.plan_steps.specs.declared.fault.PlanFault.TheVariants.{TooMany, NoMemory}
use Rattle.scatter_plan.specs.Calls.{Answers}
use Rattle.plan_steps.specs.Doing.{State}
use Rattle.scatter_plan.specs.Holding.{IsHolding, paid_of}
use Rattle.plan_steps.specs.Passes.{Passes}
use Rattle.scatter_plan.specs.Settling.{IsSettled, is_over, main_flow, outputs_when}

module _ (c : Checked) (layout : Layout) (main : ℕ) (given : List Bind) (site : List ℕ) (rows : List Row) where
  -- The answer of a row arrived; some steps may be ready then.
  pub record Answered (s : State) (was : IsHolding c layout main given site rows s) (r : Row) (after : State) (old new : ℕ) : Type 0 where
    pub holding : IsHolding c layout main given site (rows ++ r ∷ []) after
    pub answers : Answers s.asks.ready after.asks.ready r.place r.attempt
    pub paid : new + paid_of c layout main given site rows was ≤ old + paid_of c layout main given site (rows ++ r ∷ []) holding

  abbrev pub TakesAnswer : {A : Type 0} (s : State) → IsHolding c layout main given site rows s → Row → State → ℕ → ℕ → Result A PlanFault → Type 0
  TakesAnswer s was r after old new result = Passes (Answered s was r after old new) (too_many (main_flow c main given site (rows ++ r ∷ [])) ≡ true) result

  -- The same, and each step that was ready then was done.
  pub record Settled (s : State) (was : IsHolding c layout main given site rows s) (r : Row) (after : State) (old new : ℕ) : Type 0 where
    pub settled : IsSettled c layout main given site (rows ++ r ∷ []) after
    pub answers : Answers s.asks.ready after.asks.ready r.place r.attempt
    pub paid : new + paid_of c layout main given site rows was ≤ old + paid_of c layout main given site (rows ++ r ∷ []) settled.holding

  -- with the outputs now
  abbrev pub Settles : (s : State) → IsHolding c layout main given site rows s → Row → State → ℕ → ℕ → Result (Option (List Bind)) PlanFault → Type 0
  Settles s was r after old new (Ok o) =
      (t : Settled s was r after old new) × (o ≡ outputs_when (is_over after) after.field.plot.net.values t.settled.holding.line.first_output t.settled.holding.flow.outputs)
  Settles s was r after old new (Err TooMany) = too_many (main_flow c main given site (rows ++ r ∷ [])) ≡ true
  Settles s was r after old new (Err NoMemory) = Unit {0}
