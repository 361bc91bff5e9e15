use Rattle.std.proofs.Common.{◌≡◌, ◌++◌, drop}
use Rattle.wdl_value.specs.Paths.{matching}
use Rattle.wdl_stdlib.proofs.wildcard.matching.Given as goal

abbrev pub invariant-loop-file : goal.invariant-loop-file
invariant-loop-file l = l.found ++ matching l.dir l.pattern (drop l.file-index l.files) ≡ matching l.dir l.pattern l.files
