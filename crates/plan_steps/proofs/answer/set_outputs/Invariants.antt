use Rattle.std.proofs.Common.{◌+◌, length}
use Rattle.value_net.specs.Nets.{IsSound, view}
use Rattle.plan_steps.proofs.Setting.{IsSet}
use Rattle.plan_steps.proofs.answer.set_outputs.Given as goal

abbrev pub invariant-loop-bind : goal.invariant-loop-bind
invariant-loop-bind l = IsSound l.net × IsSet l.initial.outs l.outs (l.base + l.first) (view l.initial.net) (view l.net)

abbrev pub decreases-loop-bind : goal.decreases-loop-bind
decreases-loop-bind l = length l.outs
