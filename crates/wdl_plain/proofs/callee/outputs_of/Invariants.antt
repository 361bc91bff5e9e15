use Rattle.std.proofs.Common.{◌≡◌, take, map}
use Rattle.wdl_typed.specs.Flow.{output_of}
use Rattle.wdl_plain.specs.Views.{knowns_of}
use Rattle.wdl_plain.proofs.callee.outputs_of.Given as goal

abbrev pub invariant-loop-output : goal.invariant-loop-output
invariant-loop-output l = knowns_of l.knowns ≡ map (output_of (knowns_of l.names) l.call) (take l.output-index l.outputs)
