use Rattle.std.proofs.Common.{◌≡◌, ◌++◌, drop}
use Rattle.std.specs.List.{flat_map}
use Rattle.wdl_value.specs.Parts.{items_in}
use Rattle.wdl_stdlib.proofs.lists.flatten.Given as goal

abbrev pub invariant-loop-list : goal.invariant-loop-list
invariant-loop-list l = l.all ++ flat_map items_in (drop l.list-index l.lists) ≡ flat_map items_in l.lists
