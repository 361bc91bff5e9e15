use Rattle.std.proofs.Common.{◌≡◌, ◌++◌, drop}
use Rattle.wdl_well_typed.specs.Numbers.{condition_numbers}
use Rattle.wdl_well_typed.proofs.numbered.condition_numbers.Given as goal

abbrev pub invariant-loop-statement : goal.invariant-loop-statement
invariant-loop-statement l = l.numbers ++ condition_numbers (drop l.statement-index l.body) ≡ condition_numbers l.body
