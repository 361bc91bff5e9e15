use Rattle.std.proofs.Common.{◌≡◌, take}
use Rattle.library_calls.specs.Renewals.{AreRenewed}
use Rattle.library_calls.proofs.migration.migrate.Given as goal

abbrev pub invariant-loop-row : goal.invariant-loop-row
invariant-loop-row l = record {
  index : l.index ≡ l.row-index;
  renewed : AreRenewed (take l.row-index l.rows) l.all;
}
