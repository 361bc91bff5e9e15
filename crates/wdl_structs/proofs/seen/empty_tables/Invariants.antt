use Rattle.std.proofs.Common.{◌≡◌, length}
use Rattle.wdl_structs.proofs.seen.empty_tables.Given as goal

abbrev pub invariant-loop : goal.invariant-loop
invariant-loop l = length l.tables ≡ l.counter
