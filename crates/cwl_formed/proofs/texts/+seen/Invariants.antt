use Rattle.std.proofs.Common.{◌≡◌, true, take}
use Rattle.cwl_formed.specs.Plain.{values_plain}
use Rattle.cwl_formed.proofs.texts.+seen.Given as goal

abbrev pub invariant-see_values-loop-value : goal.invariant-see_values-loop-value
invariant-see_values-loop-value l = values_plain (take l.value-index l.values) ≡ true
