use Rattle.std.proofs.Common.{◌≡◌, map, take}
use Rattle.cwl_records.specs.WideWriting.{flow_out_id}
use Rattle.cwl_records.proofs.writing.ids_of.Given as goal

abbrev pub invariant-loop-output : goal.invariant-loop-output
invariant-loop-output l = l.ids ≡ map flow_out_id (take l.output-index l.outputs)
