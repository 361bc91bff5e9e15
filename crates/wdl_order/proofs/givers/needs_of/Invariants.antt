use Rattle.std.proofs.Common.{◌≡◌, map, take}
use Rattle.std.specs.List.{flat_map}
use Rattle.wdl_order.specs.Names.{givers_of}
use Rattle.wdl_order.specs.declared.uses.Uses.{Uses}
use Rattle.wdl_order.proofs.givers.needs_of.Given as goal

abbrev pub invariant-loop-uses : goal.invariant-loop-uses
invariant-loop-uses l = l.rows.items ≡ map (λ (u : Uses). flat_map (givers_of l.givers) u.refers) (take l.uses-index l.all)
