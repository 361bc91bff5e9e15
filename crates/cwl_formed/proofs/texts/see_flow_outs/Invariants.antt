use Rattle.std.proofs.Common.{◌≡◌, true, take}
use Rattle.std.specs.List.{list_all}
use Rattle.cwl_formed.specs.Plain.{flow_out_plain}
use Rattle.cwl_formed.proofs.texts.see_flow_outs.Given as goal

abbrev pub invariant-loop-output : goal.invariant-loop-output
invariant-loop-output l = list_all flow_out_plain (take l.output-index l.outputs) ≡ true
