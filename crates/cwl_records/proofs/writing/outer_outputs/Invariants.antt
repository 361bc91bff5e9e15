use Rattle.std.proofs.Common.{◌≡◌, map, take}
use Rattle.cwl_records.specs.WideWriting.{outer_out}
use Rattle.cwl_records.proofs.writing.outer_outputs.Given as goal

abbrev pub invariant-loop-output : goal.invariant-loop-output
invariant-loop-output l = l.all ≡ map outer_out (take l.output-index l.outputs)
