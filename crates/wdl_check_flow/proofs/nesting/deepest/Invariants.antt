use Rattle.std.proofs.Common.{◌≡◌, drop, map}
use Rattle.wdl_check_flow.specs.Nesting.{first_deep, too_deep}
use Rattle.wdl_check_flow.proofs.nesting.deepest.Given as goal

abbrev pub invariant-loop-statement : goal.invariant-loop-statement
invariant-loop-statement l =
    first_deep (map too_deep (map (λ s. s.now) (drop l.statement-index l.statements))) 24 ≡ first_deep (map too_deep (map (λ s. s.now) l.statements)) 24
