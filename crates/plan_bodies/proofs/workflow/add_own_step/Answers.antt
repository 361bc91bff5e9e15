use Rattle.std.proofs.Common.{◌<◌, ◌^◌, [], ◌∷◌, length, ◌∙◌, arith}
use Rattle.value_net.specs.Nets.{view}
use Rattle.plan_bodies.proofs.Counts.{cells_few}
use Rattle.plan_bodies.proofs.Reach.{cells_there, none_reached, reached_wide}
use Rattle.plan_bodies.proofs.workflow.add_own_step.Goals as goal

pub cells_of-requires-clause-needs : goal.cells_of-requires-clause-needs
cells_of-requires-clause-needs c =
    let few : length (view c.args.net.now).values < 2 ^ 64 = cells_few c.args.net.now in
    reached_wide (length (view c.args.net.now).values) (2 ^ 64) (c.args.first ∷ []) c.args.needs.now (omega (arith, few)) c.requires.reached

pub add_step-requires-clause-there : goal.add_step-requires-clause-there
add_step-requires-clause-there c =
    cells_there (length (view c.args.net.now).values) (c.args.first ∷ []) c.args.needs.now [] c.as_slice.result.now (c.as_slice.ensures ∙ c.in_ok-cells.ensures) c.requires.reached (none_reached (length (view c.args.net.now).values) (c.args.first ∷ []))
