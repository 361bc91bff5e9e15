use Rattle.std.proofs.Common.{◌≡◌, true, take}
use Rattle.wdl_typed.specs.Bodies.{arg_names}
use Rattle.cwl_image.specs.Named.{are_names}
use Rattle.cwl_rules.proofs.named.see_args.Given as goal

abbrev pub invariant-loop-arg : goal.invariant-loop-arg
invariant-loop-arg l = are_names (arg_names (take l.arg-index l.args)) ≡ true
