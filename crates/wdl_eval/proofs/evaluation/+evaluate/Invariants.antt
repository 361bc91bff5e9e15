use Rattle.std.proofs.Common.{◌≡◌, ◌++◌, drop, Ok}
use Rattle.wdl_typed.specs.Evaluation.{then_}
use Rattle.wdl_eval.specs.Nodes.{fields_met, rows_met, setting_of, text_met, values_met}
use Rattle.wdl_eval.proofs.evaluation.+evaluate.Given as goal

abbrev pub invariant-values-loop-e : goal.invariant-values-loop-e
invariant-values-loop-e l = then_ (values_met (setting_of l.setting) (drop l.e-index l.es)) (λ rest. Ok (l.values ++ rest)) ≡ values_met (setting_of l.setting) l.es

abbrev pub invariant-rows-loop-pair : goal.invariant-rows-loop-pair
invariant-rows-loop-pair l = then_ (rows_met (setting_of l.setting) (drop l.pair-index l.pairs)) (λ rest. Ok (l.rows ++ rest)) ≡ rows_met (setting_of l.setting) l.pairs

abbrev pub invariant-fields-loop-member : goal.invariant-fields-loop-member
invariant-fields-loop-member l = then_ (fields_met (setting_of l.setting) (drop l.member-index l.members)) (λ rest. Ok (l.fields ++ rest)) ≡ fields_met (setting_of l.setting) l.members

abbrev pub invariant-text-loop-part : goal.invariant-text-loop-part
invariant-text-loop-part l = then_ (text_met (setting_of l.setting) (drop l.part-index l.parts)) (λ rest. Ok (l.text ++ rest)) ≡ text_met (setting_of l.setting) l.parts
