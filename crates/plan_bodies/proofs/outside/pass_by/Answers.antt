use Rattle.std.proofs.Common.{◌≡◌, ◌+◌, length, arith}
use Rattle.value_net.specs.Nets.{view}
use Rattle.plan_bodies.proofs.Counts.{absent_count, cells_few}
use Rattle.plan_bodies.proofs.outside.pass_by.Goals as goal

pub set_absent-requires-2-clause-cells : goal.set_absent-requires-2-clause-cells
set_absent-requires-2-clause-cells c = λ some.
    let one : length (view c.set_absent.new.net).values ≡ length (view c.args.net.now).values = absent_count (c.args.base + c.args.layout.now.first_name) c.args.layout.now.names (view c.args.net.now) (view c.set_absent.new.net) c.in_ok-set_absent.ensures.absent in
    omega (arith, one, c.requires.runs.calls some)

pub overflow_add-base : goal.overflow_add-base
overflow_add-base c = omega (arith, cells_few c.args.net.now, c.requires.runs.done)

pub set-requires-clause-there : goal.set-requires-clause-there
set-requires-clause-there c =
    let one : length (view c.set_absent.new.net).values ≡ length (view c.args.net.now).values = absent_count (c.args.base + c.args.layout.now.first_name) c.args.layout.now.names (view c.args.net.now) (view c.set_absent.new.net) c.in_ok-set_absent.ensures.absent in
    let two : length (view c.set_absent-2.new.net).values ≡ length (view c.set_absent.new.net).values = absent_count (c.args.base + c.args.layout.now.first_call) c.args.layout.now.calls (view c.set_absent.new.net) (view c.set_absent-2.new.net) c.in_ok-set_absent-2.ensures.absent in
    omega (arith, one, two, c.requires.runs.done)
