use Rattle.std.proofs.Common.{◌≡◌, ◌++◌, drop}
use Rattle.wdl_well_typed.specs.Numbers.{scatter_numbers}
use Rattle.wdl_well_typed.proofs.numbered.scatter_numbers.Given as goal

abbrev pub invariant-loop-statement : goal.invariant-loop-statement
invariant-loop-statement l = l.numbers ++ scatter_numbers (drop l.statement-index l.body) ≡ scatter_numbers l.body
