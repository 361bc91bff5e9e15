use Rattle.std.proofs.Common.{◌≡◌, [], drop}
use Rattle.wdl_well_typed.specs.Numbers.{fresh_numbers}
use Rattle.wdl_well_typed.proofs.numbered.numbers_differ.Given as goal

abbrev pub invariant-loop-number : goal.invariant-loop-number
invariant-loop-number l = fresh_numbers l.seen (drop l.number-index l.numbers) ≡ fresh_numbers [] l.numbers
