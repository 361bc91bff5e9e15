use Prim.Native.Nat.{max}
use denote.Param.Weighed.{most}
use Rattle.std.proofs.Common.{◌≤◌, length}
use Rattle.wdl_ast.specs.declared.workflow.Statement.{size-Statement}
use Rattle.wdl_ast.proofs.workflow.Statement.+drop.Given as goal

abbrev pub invariant-loop-self : goal.invariant-loop-self
invariant-loop-self l = size-Statement l.self ≤ size-Statement l.fn.self

abbrev pub invariant-loop-statement : goal.invariant-loop-statement
invariant-loop-statement l = max (size-Statement l.widest) (most size-Statement l.body) ≤ max (size-Statement l.initial.widest) (most size-Statement l.initial.body)

abbrev pub decreases-loop-statement : goal.decreases-loop-statement
decreases-loop-statement l = length l.body
