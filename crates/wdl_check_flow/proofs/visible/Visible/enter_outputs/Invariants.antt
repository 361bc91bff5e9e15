use Rattle.std.proofs.Common.{◌≡◌, ◌++◌, drop, map}
use Rattle.wdl_check_flow.specs.Given.{output_bound}
use Rattle.wdl_check_flow.proofs.visible.Visible.enter_outputs.Given as goal

abbrev pub invariant-loop-output : goal.invariant-loop-output
invariant-loop-output l = record {
  names : l.self.names ++ map (output_bound l.call) (drop l.output-index l.outputs) ≡ l.initial.self.names ++ map (output_bound l.call) l.outputs;
  calls : l.self.calls ≡ l.initial.self.calls;
}
