use Rattle.std.proofs.Common.{◌≡◌, map, take}
use Rattle.wdl_typed.specs.Bodies.{output_bound}
use Rattle.given_types.proofs.given.outputs_of.Given as goal

abbrev pub invariant-loop-output : goal.invariant-loop-output
invariant-loop-output l = l.names ≡ map (output_bound l.call) (take l.output-index l.outputs)
