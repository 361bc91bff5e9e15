use Rattle.std.proofs.Common.{◌≡◌, ◌<◌, ◌+◌, length, arith}
use Rattle.value_net.specs.Nets.{view}
use Rattle.plan_bodies.proofs.Counts.{cells_few, copied_count, one_there}
use Rattle.plan_bodies.proofs.joints.copy_cells.Goals as goal

pub overflow_add-into : goal.overflow_add-into
overflow_add-into c = let some : 0 < c.args.count = omega arith in omega (arith, cells_few c.args.net.now, c.requires.outer some)

pub add_step-requires-clause-there : goal.add_step-requires-clause-there
add_step-requires-clause-there c =
    let some : 0 < c.args.count = omega arith in
    let same : length (view c.loop-k.net).values ≡ length (view c.args.net.now).values =
    copied_count (c.args.first + c.args.inner) (c.args.base + c.args.outer) c.loop-k.k (view c.args.net.now) (view c.loop-k.net) c.loop-k.invariant.1 in
    one_there (c.args.first + c.args.inner + c.loop-k.k) (length (view c.loop-k.net).values) (omega (arith, same, c.requires.inner some))

pub overflow_add-into-in-loop-k : goal.overflow_add-into-in-loop-k
overflow_add-into-in-loop-k c = let some : 0 < c.args.count = omega arith in omega (arith, cells_few c.args.net.now, c.requires.outer some)

pub overflow_add-first : goal.overflow_add-first
overflow_add-first c = let some : 0 < c.args.count = omega arith in omega (arith, cells_few c.args.net.now, c.requires.inner some)

pub overflow_add-first-in-loop-k : goal.overflow_add-first-in-loop-k
overflow_add-first-in-loop-k c = let some : 0 < c.args.count = omega arith in omega (arith, cells_few c.args.net.now, c.requires.inner some)
