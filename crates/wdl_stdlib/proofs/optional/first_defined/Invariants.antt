use Rattle.std.proofs.Common.{◌≡◌, drop}
use Rattle.wdl_value.specs.Functions.{first_defined}
use Rattle.wdl_stdlib.proofs.optional.first_defined.Given as goal

abbrev pub invariant-loop-item : goal.invariant-loop-item
invariant-loop-item l = first_defined (drop l.item-index l.items) ≡ first_defined l.items
