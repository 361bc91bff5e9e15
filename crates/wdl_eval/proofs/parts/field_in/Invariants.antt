use Rattle.std.proofs.Common.{◌≡◌, drop}
use Rattle.wdl_typed.specs.Evaluation.{field_among}
use Rattle.wdl_eval.proofs.parts.field_in.Given as goal

abbrev pub invariant-loop-field : goal.invariant-loop-field
invariant-loop-field l = field_among (drop l.field-index l.fields) l.name ≡ field_among l.fields l.name
