use Rattle.std.proofs.Common.{◌≡◌, ◌++◌, drop, map}
use Rattle.wdl_swaps.specs.Strays.{all_outside}
use Rattle.wdl_swaps.proofs.strays.add_keys.Given as goal

abbrev pub invariant-loop-key : goal.invariant-loop-key
invariant-loop-key l =
    l.strays ++ all_outside l.path (map (λ k. k.now) (drop l.key-index l.keys)) ≡ l.initial.strays ++ all_outside l.path (map (λ k. k.now) l.keys)
