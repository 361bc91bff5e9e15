use Rattle.std.proofs.Common.{arith}
use Rattle.plan_bodies.specs.Plots.{plot}
use Rattle.plan_bodies.proofs.Counts.{entered_count}
use Rattle.plan_bodies.proofs.items.enter_item.Goals as goal

pub set-requires-clause-there : goal.set-requires-clause-there
set-requires-clause-there c =
    omega (arith, entered_count c.args.body c.args.outer.now c.args.place c.args.layout.now (plot c.args.entered.now) (plot c.add_instance.new.entered) c.in_ok-first.ensures.entered, c.in_ok-first.ensures.first, c.requires.some)
