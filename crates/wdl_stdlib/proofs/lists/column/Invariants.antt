use Rattle.std.proofs.Common.{◌≡◌, ◌++◌, drop}
use Rattle.wdl_value.specs.Functions.{column}
use Rattle.wdl_stdlib.proofs.lists.column.Given as goal

abbrev pub invariant-loop-row : goal.invariant-loop-row
invariant-loop-row l = l.items ++ column (drop l.row-index l.rows) l.k ≡ column l.rows l.k
