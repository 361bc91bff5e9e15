use Rattle.wdl_task.proofs.GivenFiles.{Distinct}
use Rattle.wdl_task.proofs.given_files.distinct.Given as goal

abbrev pub invariant-loop-path : goal.invariant-loop-path
invariant-loop-path l = Distinct l.files l.paths l.seen.keys l.distinct l.path-index
