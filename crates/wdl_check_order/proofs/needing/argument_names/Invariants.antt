use Rattle.std.proofs.Common.{◌≡◌, ◌++◌, drop}
use Rattle.wdl_check_order.specs.Needs.{arguments_names}
use Rattle.wdl_check_order.proofs.needing.argument_names.Given as goal

abbrev pub invariant-loop-argument : goal.invariant-loop-argument
invariant-loop-argument l = l.names ++ arguments_names (drop l.argument-index l.arguments) ≡ arguments_names l.arguments
