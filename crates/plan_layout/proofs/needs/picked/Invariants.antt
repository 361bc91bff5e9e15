use Rattle.std.proofs.Common.{◌≡◌, [], drop, map}
use Rattle.plan_layout.specs.Spots.{picks}
use Rattle.plan_layout.proofs.needs.picked.Given as goal

abbrev pub invariant-loop-key : goal.invariant-loop-key
invariant-loop-key l = picks l.seen l.needs (map (λ k. k.now) (drop l.key-index l.keys)) ≡ picks l.seen [] (map (λ k. k.now) l.keys)
