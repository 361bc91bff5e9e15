use Rattle.std.proofs.Common.{◌≡◌, drop}
use Rattle.wdl_value.specs.Files.{seen_body}
use Rattle.wdl_stdlib.proofs.files.seen_body.Given as goal

abbrev pub invariant-loop-file : goal.invariant-loop-file
invariant-loop-file l = seen_body l.name (drop l.file-index l.files) ≡ seen_body l.name l.files
