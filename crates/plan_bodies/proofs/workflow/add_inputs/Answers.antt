use Rattle.std.proofs.Common.{arith}
use Rattle.plan_bodies.proofs.Counts.{cells_few}
use Rattle.plan_bodies.proofs.workflow.add_inputs.Goals as goal

pub overflow_add-first : goal.overflow_add-first
overflow_add-first c = omega (arith, cells_few c.args.net.now)
