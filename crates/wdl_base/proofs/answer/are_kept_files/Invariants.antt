use Rattle.std.proofs.Common.{◌≡◌, drop}
use Rattle.wdl_base.specs.Answers.{are_files}
use Rattle.wdl_base.proofs.answer.are_kept_files.Given as goal

abbrev pub invariant-loop-file : goal.invariant-loop-file
invariant-loop-file l = are_files (drop l.file-index l.files) ≡ are_files l.files
