use Rattle.std.proofs.Common.{◌≡◌, length}
use Rattle.wdl_ast.specs.Spelled.{unclosed}
use Rattle.wdl_lex.proofs.open.Open.unclosed.Given as goal

abbrev pub invariant-loop-token : goal.invariant-loop-token
invariant-loop-token l = unclosed l.initial.self ≡ unclosed l.self

abbrev pub decreases-loop-token : goal.decreases-loop-token
decreases-loop-token l = length l.self
