use Rattle.std.proofs.Common.{◌≡◌, ◌++◌, drop}
use Rattle.std.specs.List.{flat_map}
use Rattle.wdl_order.specs.Names.{givers_of}
use Rattle.wdl_order.proofs.givers.givers_of_each.Given as goal

abbrev pub invariant-loop-name : goal.invariant-loop-name
invariant-loop-name l = l.members.items ++ flat_map (givers_of l.givers) (drop l.name-index l.names) ≡ flat_map (givers_of l.givers) l.names
