use Rattle.std.proofs.Common.{◌≡◌, ◌++◌, drop}
use Rattle.wdl_typed.specs.Flow.{output_keys}
use Rattle.wdl_flow.proofs.yielded.push_outputs.Given as goal

abbrev pub invariant-loop-output : goal.invariant-loop-output
invariant-loop-output l = l.keys ++ output_keys l.call (drop l.output-index l.outputs) ≡ l.initial.keys ++ output_keys l.call l.outputs
