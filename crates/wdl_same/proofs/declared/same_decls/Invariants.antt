use Rattle.std.proofs.Common.{◌≡◌, drop}
use Rattle.wdl_same.specs.Tasks.{same_decls}
use Rattle.wdl_same.proofs.declared.same_decls.Given as goal

abbrev pub invariant-loop-x : goal.invariant-loop-x
invariant-loop-x l = same_decls (drop l.x-index l.xs) l.left ≡ same_decls l.xs l.ys
