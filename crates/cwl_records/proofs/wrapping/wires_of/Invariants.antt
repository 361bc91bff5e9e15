use Rattle.std.proofs.Common.{◌≡◌, map, take}
use Rattle.cwl_records.specs.Wrapping.{wire_in}
use Rattle.cwl_records.proofs.wrapping.wires_of.Given as goal

abbrev pub invariant-loop-input : goal.invariant-loop-input
invariant-loop-input l = l.wires ≡ map (wire_in l.records) (take l.input-index l.inputs)
