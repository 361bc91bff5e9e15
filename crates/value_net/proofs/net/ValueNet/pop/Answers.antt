use Rattle.step_net.specs.Views as step
use Rattle.value_net.specs.Nets.{AreSound, IsSound, view}
use Rattle.value_net.proofs.Seen.{popped}
use Rattle.value_net.proofs.net.ValueNet.pop.Goals as goal

pub returns-clause-popped : goal.returns-clause-popped
unfolding IsSound view
returns-clause-popped g c =
    let old = c.args.self.now in
    let h : AreSound old = c.requires in
    popped old.values.items old.rules.items (step.view old.net) (step.view c.pop.new.self) c.in_ok-step.step h.cells c.in_ok-step.ensures.popped
