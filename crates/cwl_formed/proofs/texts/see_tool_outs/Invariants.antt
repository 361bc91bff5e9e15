use Rattle.std.proofs.Common.{◌≡◌, true, take}
use Rattle.std.specs.List.{list_all}
use Rattle.cwl_emit.specs.Formed.{tool_out_formed}
use Rattle.cwl_formed.proofs.texts.see_tool_outs.Given as goal

abbrev pub invariant-loop-output : goal.invariant-loop-output
invariant-loop-output l = list_all tool_out_formed (take l.output-index l.outputs) ≡ true
