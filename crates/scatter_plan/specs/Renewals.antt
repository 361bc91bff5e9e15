-- A plan that is being made anew.
use Rattle.std.specs.Prelude.{◌≤◌, ℕ, ◌+◌, List, take}
use Rattle.wdl_base.specs.declared.entry.Entry.{Entry}
use Rattle.wdl_value.specs.Tables.{table}
use Rattle.scatter_plan.specs.declared.plan.Plan.{Plan}
use Rattle.scatter_plan.specs.Calls.{IsOfSame}
use Rattle.scatter_plan.specs.Plans.{IsMade, IsTold}

-- It was told of the first entries, and all that was evaluated is paid for.
pub record IsRenewing (a : Plan) (journal : List Entry) (k old now : ℕ) (b : Plan) : Type 0 where
  pub same : IsOfSame a b
  pub made : IsMade b
  pub told : IsTold b (table (take k journal))
  pub paid : now ≤ old + told.paid
