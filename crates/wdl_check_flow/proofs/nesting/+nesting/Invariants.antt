use Rattle.std.proofs.Common.{◌≡◌, drop, map}
use Rattle.wdl_check_flow.specs.Nesting.{first_deep, too_deep}
use Rattle.wdl_check_flow.proofs.nesting.+nesting.Given as goal

abbrev pub invariant-first_too_deep-loop-statement : goal.invariant-first_too_deep-loop-statement
invariant-first_too_deep-loop-statement l = first_deep (map too_deep (drop l.statement-index l.body)) l.most ≡ first_deep (map too_deep l.body) l.most
