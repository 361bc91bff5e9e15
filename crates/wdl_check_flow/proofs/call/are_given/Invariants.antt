use Rattle.std.proofs.Common.{◌≡◌, drop}
use Rattle.wdl_typed.specs.Bodies.{all_given}
use Rattle.wdl_check_flow.proofs.call.are_given.Given as goal

abbrev pub invariant-loop-input : goal.invariant-loop-input
invariant-loop-input l = all_given (drop l.input-index l.inputs) l.given ≡ all_given l.inputs l.given
