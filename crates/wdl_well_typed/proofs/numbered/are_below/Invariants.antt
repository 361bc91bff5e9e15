use Rattle.std.proofs.Common.{◌≡◌, drop}
use Rattle.wdl_typed.specs.Lists.{are_below}
use Rattle.wdl_well_typed.proofs.numbered.are_below.Given as goal

abbrev pub invariant-loop-number : goal.invariant-loop-number
invariant-loop-number l = are_below l.most (drop l.number-index l.numbers) ≡ are_below l.most l.numbers
