use Rattle.std.proofs.Common.{◌≡◌, ◌++◌, drop, Ok}
use Rattle.std.specs.List.{flat_map, join_by}
use Rattle.wdl_typed.specs.Evaluation.{texts_met, then_}
use Rattle.wdl_eval.proofs.placeholder.joined.Given as goal

abbrev pub invariant-loop-item : goal.invariant-loop-item
invariant-loop-item l =
    then_ (texts_met (drop l.item-index l.rest)) (λ ss. Ok (l.text ++ flat_map (λ s. l.sep ++ s) ss))
    ≡ then_ (texts_met l.items) (λ ss. Ok (join_by (λ s. s) l.sep ss))
