use Rattle.std.proofs.Common.{◌≡◌, take, map}
use Rattle.wdl_typed.specs.Flow.{bound_output}
use Rattle.wdl_plain.specs.Views.{knowns_of}
use Rattle.wdl_plain.proofs.attempt.bound_outputs.Given as goal

abbrev pub invariant-loop-bind : goal.invariant-loop-bind
invariant-loop-bind l = knowns_of l.knowns ≡ map (bound_output l.call) (take l.bind-index l.outs)
