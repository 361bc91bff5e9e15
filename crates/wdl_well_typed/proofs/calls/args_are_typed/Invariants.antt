use Rattle.std.proofs.Common.{◌≡◌, drop}
use Rattle.wdl_typed.specs.Bodies.{args_typed}
use Rattle.wdl_well_typed.proofs.calls.args_are_typed.Given as goal

abbrev pub invariant-loop-arg : goal.invariant-loop-arg
invariant-loop-arg l = args_typed l.structs l.names l.inputs (drop l.arg-index l.args) ≡ args_typed l.structs l.names l.inputs l.args
