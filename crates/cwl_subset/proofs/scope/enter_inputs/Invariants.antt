use Rattle.std.proofs.Common.{◌≡◌, ◌++◌, drop}
use Rattle.wdl_typed.specs.Declarations.{inputs_bound}
use Rattle.cwl_subset.proofs.scope.enter_inputs.Given as goal

abbrev pub invariant-loop-input : goal.invariant-loop-input
invariant-loop-input l = l.names ++ inputs_bound (drop l.input-index l.inputs) ≡ l.initial.names ++ inputs_bound l.inputs
