use Rattle.std.proofs.Common.{◌≡◌, ◌<◌, ◌+◌, ◌^◌, drop, min}
use Rattle.wdl_base.specs.Answers.{files_size}
use Rattle.wdl_base.proofs.answer.size_of_files.Given as goal

abbrev pub invariant-loop-file : goal.invariant-loop-file
invariant-loop-file l =
    (l.total < 2 ^ 64)
    × (min (l.total + files_size (drop l.file-index l.files)) 18446744073709551615 ≡ min (files_size l.files) 18446744073709551615)
