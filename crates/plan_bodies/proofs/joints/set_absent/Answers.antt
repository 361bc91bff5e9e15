use Rattle.std.proofs.Common.{◌≡◌, ◌<◌, ◌+◌, length, arith}
use Rattle.value_net.specs.Nets.{view}
use Rattle.plan_bodies.proofs.Counts.{absent_count, cells_few}
use Rattle.plan_bodies.proofs.joints.set_absent.Goals as goal

pub set-requires-clause-there : goal.set-requires-clause-there
set-requires-clause-there c =
    let some : 0 < c.args.count = omega arith in
    let same : length (view c.loop-k.net).values ≡ length (view c.args.net.now).values = absent_count (c.args.base + c.args.first) c.loop-k.k (view c.args.net.now) (view c.loop-k.net) c.loop-k.invariant.1 in
    omega (arith, same, c.requires.cells some)

pub overflow_add-base : goal.overflow_add-base
overflow_add-base c = let some : 0 < c.args.count = omega arith in omega (arith, cells_few c.args.net.now, c.requires.cells some)

pub overflow_add-base-in-loop-k : goal.overflow_add-base-in-loop-k
overflow_add-base-in-loop-k c = let some : 0 < c.args.count = omega arith in omega (arith, cells_few c.args.net.now, c.requires.cells some)
