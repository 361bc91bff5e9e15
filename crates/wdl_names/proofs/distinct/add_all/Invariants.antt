use Rattle.std.proofs.Common.{◌≡◌, ◌++◌, map, drop}
use Rattle.wdl_names.specs.Fresh.{fresh}
use Rattle.wdl_names.proofs.distinct.add_all.Given as goal

abbrev pub invariant-loop-item : goal.invariant-loop-item
invariant-loop-item g l =
    (l.names ++ map g.T.Named.named (drop l.item-index l.items) ≡ l.initial.names ++ map g.T.Named.named l.items)
    × (fresh l.names (map g.T.Named.named (drop l.item-index l.items)) ≡ fresh l.initial.names (map g.T.Named.named l.items))
