use Rattle.std.proofs.Common.{◌≡◌, ◌++◌, drop}
use Rattle.std.specs.List.{filter}
use Rattle.wdl_value.specs.Functions.{is_defined}
use Rattle.wdl_stdlib.proofs.optional.select_all.Given as goal

abbrev pub invariant-loop-item : goal.invariant-loop-item
invariant-loop-item l = l.defined ++ filter is_defined (drop l.item-index l.items) ≡ filter is_defined l.items
