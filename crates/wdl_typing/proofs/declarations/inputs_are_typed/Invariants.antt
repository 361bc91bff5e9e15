use Rattle.std.proofs.Common.{◌≡◌, ◌++◌, drop}
use Rattle.wdl_typed.specs.Declarations.{inputs_bound, inputs_typed}
use Rattle.wdl_typing.proofs.declarations.inputs_are_typed.Given as goal

abbrev pub invariant-loop-input : goal.invariant-loop-input
invariant-loop-input l =
    (l.names ++ inputs_bound (drop l.input-index l.inputs) ≡ l.initial.names ++ inputs_bound l.inputs)
    × (inputs_typed l.structs l.names (drop l.input-index l.inputs) ≡ inputs_typed l.structs l.initial.names l.inputs)
