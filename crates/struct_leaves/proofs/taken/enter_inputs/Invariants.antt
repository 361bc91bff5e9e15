use Rattle.std.proofs.Common.{◌≡◌, ◌++◌, take}
use Rattle.wdl_typed.specs.Declarations.{input_names}
use Rattle.struct_leaves.proofs.taken.enter_inputs.Given as goal

abbrev pub invariant-loop-input : goal.invariant-loop-input
invariant-loop-input l = l.names ≡ l.initial.names ++ input_names (take l.input-index l.inputs)
