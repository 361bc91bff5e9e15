use Rattle.std.proofs.Common.{◌≡◌, ◌++◌, drop, map}
use Rattle.wdl_value.specs.Reads.{row_read}
use Rattle.wdl_stdlib.proofs.reads.read_tsv.Given as goal

abbrev pub invariant-loop-line : goal.invariant-loop-line
invariant-loop-line l = l.rows ++ map row_read (drop l.line-index l.line-items) ≡ map row_read l.line-items
