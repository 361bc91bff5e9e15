use Rattle.std.proofs.Common.{◌≡◌, ◌++◌, [], drop}
use Rattle.plan_layout.specs.Laid.{output_needs}
use Rattle.plan_layout.proofs.flows.lay_outputs.Given as goal

abbrev pub invariant-loop-output : goal.invariant-loop-output
invariant-loop-output l = (l.laid ++ output_needs l.scope.names (drop l.output-index l.outputs) ≡ output_needs l.initial.scope.names l.outputs) × (l.scope.path ≡ [])
