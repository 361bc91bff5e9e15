use Rattle.std.proofs.Common.{◌≡◌, ◌++◌, drop, map}
use Rattle.wdl_check_flow.proofs.body.refs_of.Given as goal

abbrev pub invariant-loop-statement : goal.invariant-loop-statement
invariant-loop-statement l = map (λ s. s.now) l.refs.items ++ drop l.statement-index l.body ≡ l.body
