use Rattle.std.proofs.Common.{◌<◌, ◌^◌, length, arith}
use Rattle.value_net.specs.Nets.{view}
use Rattle.plan_bodies.proofs.Counts.{cells_few}
use Rattle.plan_bodies.proofs.Reach.{reached_as}
use Rattle.plan_steps.proofs.scatter.scatter.Goals as goal

pub end_of-requires-clause-reached : goal.end_of-requires-clause-reached
end_of-requires-clause-reached g c =
    let few : length (view c.args.growth.now.entered.net).values < 2 ^ 64 = cells_few c.args.growth.now.entered.net in
    reached_as (length (view c.args.growth.now.entered.net).values) (2 ^ 64) c.args.bases.now c.args.line.now.needs c.as_slice-needs.result.now (omega (arith, few)) c.as_slice-needs.ensures c.requires.reached
