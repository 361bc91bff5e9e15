use Rattle.std.proofs.Common.{◌≡◌, map, take}
use Rattle.cwl_records.specs.Wrapping.{wide_in}
use Rattle.cwl_records.proofs.wrapping.wide_inputs.Given as goal

abbrev pub invariant-loop-input : goal.invariant-loop-input
invariant-loop-input l = l.inputs ≡ map (wide_in l.structs) (take l.input-index l.source)
