use Rattle.std.proofs.Common.{◌≡◌, ◌++◌, drop, map}
use Rattle.wdl_value.specs.declared.value.Value.TheVariants as v
use Rattle.wdl_stdlib.proofs.lists.with_pairs.Given as goal

abbrev pub invariant-loop-y : goal.invariant-loop-y
invariant-loop-y l = l.pairs.items ++ map (λ y. v.Pair l.x y) (drop l.y-index l.ys) ≡ l.initial.pairs.items ++ map (λ y. v.Pair l.x y) l.ys
