use Rattle.std.proofs.Common.{◌≡◌, drop}
use Rattle.wdl_value.specs.Functions.{have_length}
use Rattle.wdl_stdlib.proofs.lists.have_length.Given as goal

abbrev pub invariant-loop-row : goal.invariant-loop-row
invariant-loop-row l = have_length l.n (drop l.row-index l.rows) ≡ have_length l.n l.rows
