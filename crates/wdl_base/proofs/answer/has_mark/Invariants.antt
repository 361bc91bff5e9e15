use Rattle.std.proofs.Common.{◌≡◌, drop}
use Rattle.wdl_base.specs.Answers.{is_cut}
use Rattle.wdl_base.proofs.answer.has_mark.Given as goal

abbrev pub invariant-loop-file : goal.invariant-loop-file
invariant-loop-file l = is_cut (drop l.file-index l.files) ≡ is_cut l.files
