use Rattle.std.proofs.Common.{◌≡◌, drop, map}
use Rattle.std.specs.List.{list_all}
use Rattle.wdl_plain.specs.Views.{knowns_of}
use Rattle.wdl_typed.specs.Flow.{is_known}
use Rattle.wdl_plain.proofs.referring.are_known.Given as goal

abbrev pub invariant-loop-key : goal.invariant-loop-key
invariant-loop-key l =
    list_all (is_known (knowns_of l.names)) (map (λ k. k.now) (drop l.key-index l.keys)) ≡ list_all (is_known (knowns_of l.names)) (map (λ k. k.now) l.keys)
