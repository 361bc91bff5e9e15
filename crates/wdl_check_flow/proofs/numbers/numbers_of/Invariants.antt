use Rattle.std.proofs.Common.{◌≡◌, ◌++◌, drop, map}
use Rattle.wdl_check_flow.specs.Numbers.{numbers_after, numbers_of}
use Rattle.wdl_check_flow.proofs.numbers.numbers_of.Given as goal

abbrev pub invariant-loop-statement : goal.invariant-loop-statement
invariant-loop-statement l =
    l.numbers ++ numbers_after l.counts (map (λ s. s.now) (drop l.statement-index l.body)) ≡ numbers_of (map (λ s. s.now) l.body)
