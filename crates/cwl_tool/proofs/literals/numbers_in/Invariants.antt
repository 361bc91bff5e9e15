use Rattle.std.proofs.Common.{◌≡◌, map, take}
use Rattle.wdl_value.specs.Parts.{int_in}
use Rattle.cwl_tool.proofs.literals.numbers_in.Given as goal

abbrev pub invariant-loop-value : goal.invariant-loop-value
invariant-loop-value l = l.numbers ≡ map int_in (take l.value-index l.values)
