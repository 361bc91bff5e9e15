use Rattle.std.proofs.Common.{◌≡◌, ◌++◌, drop}
use Rattle.wdl_typed.specs.Bodies.{all_declared}
use Rattle.struct_leaves.proofs.taken.+declared.Given as goal

abbrev pub invariant-enter_body-loop-statement : goal.invariant-enter_body-loop-statement
invariant-enter_body-loop-statement l = l.names ++ all_declared (drop l.statement-index l.body) ≡ l.initial.names ++ all_declared l.body
