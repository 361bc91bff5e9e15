use Rattle.std.proofs.Common.{◌≡◌, ◌+◌, length, arith}
use Rattle.value_net.specs.Nets.{view}
use Rattle.plan_bodies.specs.Plots.{plot}
use Rattle.plan_bodies.proofs.Counts.{entered_count}
use Rattle.plan_bodies.proofs.Rooms.{runs_later}
use Rattle.plan_bodies.proofs.blocks.enter_body.Goals as goal

pub copy_block-requires-clause-first : goal.copy_block-requires-clause-first
copy_block-requires-clause-first c =
    omega (arith, entered_count c.args.line.now.inner c.args.bases.now c.args.place c.args.inner.now (plot c.args.entered.now) (plot c.add_instance.new.entered) c.in_ok-first.ensures.entered, c.in_ok-first.ensures.first)

pub copy_block-requires-clause-runs : goal.copy_block-requires-clause-runs
copy_block-requires-clause-runs c =
    let more : length (view c.add_instance.new.entered.net).values ≡ length (view c.args.entered.now.net).values + c.args.inner.now.cells =
    entered_count c.args.line.now.inner c.args.bases.now c.args.place c.args.inner.now (plot c.args.entered.now) (plot c.add_instance.new.entered) c.in_ok-first.ensures.entered in
    runs_later (length (view c.args.entered.now.net).values) (length (view c.add_instance.new.entered.net).values) _ c.last_base-base.result c.args.line.now c.last_base-base.ensures (omega (arith, more)) c.requires.runs
