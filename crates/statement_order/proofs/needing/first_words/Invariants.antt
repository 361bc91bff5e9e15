use Rattle.std.proofs.Common.{◌≡◌, ◌++◌, drop, map}
use Rattle.statement_order.proofs.needing.first_words.Given as goal

abbrev pub invariant-loop-key : goal.invariant-loop-key
invariant-loop-key l = l.names ++ map (λ k. k.first) (map (λ k. k.now) (drop l.key-index l.keys)) ≡ map (λ k. k.first) (map (λ k. k.now) l.keys)
