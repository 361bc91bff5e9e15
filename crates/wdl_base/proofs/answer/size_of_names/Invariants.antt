use Rattle.std.proofs.Common.{◌≡◌, ◌<◌, ◌+◌, ◌^◌, drop, min}
use Rattle.wdl_base.specs.Answers.{names_size}
use Rattle.wdl_base.proofs.answer.size_of_names.Given as goal

abbrev pub invariant-loop-file : goal.invariant-loop-file
invariant-loop-file l =
    (l.total < 2 ^ 64)
    × (min (l.total + names_size (drop l.file-index l.files)) 18446744073709551615 ≡ min (names_size l.files) 18446744073709551615)
