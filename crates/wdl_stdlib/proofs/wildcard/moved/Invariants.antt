use Rattle.std.proofs.Common.{◌≡◌, ◌++◌, ◌∷◌, drop, false}
use Rattle.wdl_stdlib.specs.Glob.{moved}
use Rattle.wdl_stdlib.proofs.wildcard.moved.Given as goal

abbrev pub invariant-loop-c : goal.invariant-loop-c
invariant-loop-c l = l.next.items ++ moved l.p l.left (drop l.c-index l.name) ≡ false ∷ moved l.p l.row l.name
