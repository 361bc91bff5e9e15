use Rattle.std.proofs.Common.{◌≡◌, true, take}
use Rattle.wdl_typed.specs.Declarations.{input_names}
use Rattle.cwl_image.specs.Named.{are_names}
use Rattle.cwl_rules.proofs.named.see_inputs.Given as goal

abbrev pub invariant-loop-input : goal.invariant-loop-input
invariant-loop-input l = are_names (input_names (take l.input-index l.inputs)) ≡ true
