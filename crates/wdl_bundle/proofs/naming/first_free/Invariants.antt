use Rattle.std.proofs.Common.{◌≡◌, ◌-◌, length}
use Rattle.wdl_bundle.specs.TaskNames.{free_from}
use Rattle.wdl_bundle.proofs.naming.first_free.Given as goal

abbrev pub invariant-loop-n : goal.invariant-loop-n
invariant-loop-n l = free_from (length l.taken - l.n) l.taken l.doc l.number l.n ≡ free_from (length l.taken) l.taken l.doc l.number 0
