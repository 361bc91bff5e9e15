use Rattle.std.proofs.Common.{◌≡◌, take}
use Rattle.wdl_typed.specs.Bodies.{optional}
use Rattle.given_types.specs.Types.{retyped_names}
use Rattle.given_types.proofs.given.optionals.Given as goal

abbrev pub invariant-loop-bound : goal.invariant-loop-bound
invariant-loop-bound l = l.optionals ≡ retyped_names optional (take l.bound-index l.names)
