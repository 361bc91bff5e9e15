use Rattle.std.proofs.Common.{◌≡◌, length}
use Rattle.step_net.specs.Nets.{AreSound}
use Rattle.step_net.specs.Views.{view}
use Rattle.step_net.proofs.net.StepNet.pop.Given as goal

abbrev pub invariant-loop-s : goal.invariant-loop-s
invariant-loop-s l = AreSound l.self × (view l.self ≡ view l.initial.self)

abbrev pub decreases-loop-s : goal.decreases-loop-s
decreases-loop-s l = length l.self.queue.items
