use Rattle.std.proofs.Common.{◌≡◌, ◌++◌, [], drop}
use Rattle.plan_layout.specs.Laid.{input_needs, with_inputs}
use Rattle.plan_layout.proofs.flows.lay_inputs.Given as goal

abbrev pub invariant-loop-input : goal.invariant-loop-input
invariant-loop-input l =
    (l.laid ++ input_needs l.scope.names (drop l.input-index l.inputs) ≡ input_needs l.initial.scope.names l.inputs)
    × (with_inputs l.scope.names (drop l.input-index l.inputs) ≡ with_inputs l.initial.scope.names l.inputs)
    × (l.scope.calls ≡ l.initial.scope.calls)
    × (l.scope.path ≡ [])
