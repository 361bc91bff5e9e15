use Rattle.std.proofs.Common.{◌≡◌, true}
use Rattle.wdl_port.specs.Rows.{are_kept}
use Rattle.keeper_sql.proofs.database.read_all.Given as goal

abbrev pub invariant-loop : goal.invariant-loop
invariant-loop l = are_kept l.all ≡ true
