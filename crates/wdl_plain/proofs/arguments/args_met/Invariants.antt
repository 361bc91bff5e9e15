use Rattle.wdl_plain.specs.Views.{knowns_of}
use Rattle.wdl_plain.proofs.ArgLoop.{Going}
use Rattle.wdl_plain.proofs.arguments.args_met.Given as goal

abbrev pub invariant-loop-arg : goal.invariant-loop-arg
invariant-loop-arg g l = Going (knowns_of l.names) l.args l.arg-index l.env
