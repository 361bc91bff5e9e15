use Rattle.std.proofs.Common.{◌≡◌, ◌++◌, drop}
use Rattle.wdl_check_doc.proofs.checked.copy_structs.Given as goal

abbrev pub invariant-loop-known : goal.invariant-loop-known
invariant-loop-known l = l.copies ++ drop l.known-index l.structs ≡ l.structs
