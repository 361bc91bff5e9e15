use Rattle.std.proofs.Common.{◌≡◌, true, take}
use Rattle.std.specs.List.{list_all}
use Rattle.cwl_formed.specs.Plain.{input_plain}
use Rattle.cwl_formed.proofs.texts.see_inputs.Given as goal

abbrev pub invariant-loop-input : goal.invariant-loop-input
invariant-loop-input l = list_all input_plain (take l.input-index l.inputs) ≡ true
