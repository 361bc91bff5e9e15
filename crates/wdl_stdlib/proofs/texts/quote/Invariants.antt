use Rattle.std.proofs.Common.{◌≡◌, ◌++◌, drop, map}
use Rattle.wdl_value.specs.Functions.{quoted}
use Rattle.wdl_stdlib.proofs.texts.quote.Given as goal

abbrev pub invariant-loop-item : goal.invariant-loop-item
invariant-loop-item l = l.texts ++ map (quoted l.mark) (drop l.item-index l.items) ≡ map (quoted l.mark) l.items
