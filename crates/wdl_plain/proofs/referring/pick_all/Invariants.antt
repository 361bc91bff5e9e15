use Rattle.std.proofs.Common.{◌≡◌, drop, map}
use Rattle.wdl_plain.specs.Referring.{picks}
use Rattle.wdl_plain.proofs.referring.pick_all.Given as goal

abbrev pub invariant-loop-key : goal.invariant-loop-key
invariant-loop-key l = picks l.names l.env (map (λ k. k.now) (drop l.key-index l.keys)) ≡ picks l.names l.initial.env (map (λ k. k.now) l.keys)
