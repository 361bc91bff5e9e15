use Rattle.std.proofs.Common.{◌≡◌, ◌++◌, drop, map}
use Rattle.wdl_check_rules.specs.Locals.{stands_for}
use Rattle.wdl_copies.specs.Calls.{argument_item}
use Rattle.wdl_copies.proofs.call.copy_call_inputs.Given as goal

abbrev pub invariant-loop-argument : goal.invariant-loop-argument
invariant-loop-argument l = l.arguments ++ map (argument_item (stands_for l.locals)) (drop l.argument-index l.inputs.arguments) ≡ map (argument_item (stands_for l.locals)) l.inputs.arguments
