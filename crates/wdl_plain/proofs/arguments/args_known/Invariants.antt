use Rattle.std.proofs.Common.{◌≡◌, drop}
use Rattle.wdl_typed.specs.Flow.{args_known}
use Rattle.wdl_plain.specs.Views.{knowns_of}
use Rattle.wdl_plain.proofs.arguments.args_known.Given as goal

abbrev pub invariant-loop-arg : goal.invariant-loop-arg
invariant-loop-arg l = args_known (knowns_of l.names) (drop l.arg-index l.args) ≡ args_known (knowns_of l.names) l.args
