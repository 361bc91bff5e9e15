use Rattle.std.proofs.Common.{◌<◌, ◌^◌, length, refl, arith}
use Rattle.value_net.specs.Nets.{view}
use Rattle.plan_bodies.proofs.Counts.{cells_few}
use Rattle.plan_bodies.proofs.Reach.{reached_as}
use Rattle.plan_steps.proofs.declaration.declare.Goals as goal

pub overflow_add-cell : goal.overflow_add-cell
overflow_add-cell g c = omega (arith, cells_few c.args.growth.now.entered.net, c.last_base.ensures, c.requires.cell)

pub end_of-requires-clause-reached : goal.end_of-requires-clause-reached
end_of-requires-clause-reached g c =
    let few : length (view c.args.growth.now.entered.net).values < 2 ^ 64 = cells_few c.args.growth.now.entered.net in
    reached_as (length (view c.args.growth.now.entered.net).values) (2 ^ 64) c.args.bases.now c.args.needs.now c.args.needs.now (omega (arith, few)) refl c.requires.reached
