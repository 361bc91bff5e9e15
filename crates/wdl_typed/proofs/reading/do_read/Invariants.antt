use Rattle.std.proofs.Common.{◌≡◌, drop}
use Rattle.wdl_typed.specs.Requests.{reads_any}
use Rattle.wdl_typed.proofs.reading.do_read.Given as goal

abbrev pub invariant-loop-decl : goal.invariant-loop-decl
invariant-loop-decl l = reads_any (drop l.decl-index l.decls) ≡ reads_any l.decls
