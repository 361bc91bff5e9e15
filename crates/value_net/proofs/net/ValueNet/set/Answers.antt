use Rattle.std.proofs.Common.{ap, length, sym, ◌∙◌}
use Rattle.step_net.specs.Views as step
use Rattle.step_net.specs.Views.{View}
use Rattle.value_net.specs.Nets.{AreSound, IsSound}
use Rattle.value_net.proofs.Seen.{set_now}
use Rattle.value_net.proofs.net.ValueNet.set.Goals as goal

pub returns-clause-sound : goal.returns-clause-sound
unfolding IsSound
returns-clause-sound g c =
    let old = c.args.self.now in
    let h : AreSound old = c.requires.sound in
    record {
      net = c.in_ok-set.ensures.sound;
      cells = ap (λ (v : View). v.cells) c.in_ok-set.ensures.set ∙ set_now old.values.items (step.view old.net).cells c.args.cell c.args.value h.cells;
      rules = h.rules ∙ ap (λ (v : View). length v.steps) (sym c.in_ok-set.ensures.set);
    }
