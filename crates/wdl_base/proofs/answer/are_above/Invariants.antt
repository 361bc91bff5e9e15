use Rattle.std.proofs.Common.{◌≡◌, length}
use Rattle.wdl_base.specs.Answers.{is_below}
use Rattle.wdl_base.proofs.answer.are_above.Given as goal

abbrev pub invariant-loop-files : goal.invariant-loop-files
invariant-loop-files l = is_below l.last l.files ≡ is_below l.name l.fn.files

abbrev pub decreases-loop-files : goal.decreases-loop-files
decreases-loop-files l = length l.files
