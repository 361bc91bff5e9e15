-- The flow of one statement, with callees to a depth.
use Rattle.std.specs.Prelude.{ℕ}
use Rattle.wdl_typed.specs.declared.flow.Statement.{Statement, fold-Statement}
use Rattle.wdl_typed.specs.Flow.{Part, Run, Runner, flow, run_of_part, statement_step}

abbrev pub part_of : Run → ℕ → Statement → Part
part_of r depth = fold-Statement Part (statement_step r (flow r depth))

abbrev pub statement_flow : Run → ℕ → Statement → Runner
statement_flow r depth st = run_of_part (part_of r depth st)
