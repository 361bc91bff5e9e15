use Rattle.std.proofs.Common.{◌≡◌, ◌<◌, ◌+◌, length, arith}
use Rattle.value_net.specs.Nets.{view}
use Rattle.plan_bodies.proofs.Counts.{cells_few}
use Rattle.plan_steps.proofs.Setting.{popped_count, set_count}
use Rattle.plan_steps.proofs.answer.set_outputs.Goals as goal

pub overflow_add-base : goal.overflow_add-base
overflow_add-base c =
    let less : length c.pop.new.self < length c.args.outs = popped_count c.args.outs c.loop-bind.outs c.pop.new.self c.in-Some.bind (c.args.base + c.args.first) (view c.args.net.now) (view c.loop-bind.net) c.loop-bind.invariant.1 c.in-Some.ensures in
    let some : 0 < length c.args.outs = omega (arith, less) in
    omega (arith, cells_few c.args.net.now, c.requires.first some)

pub overflow_add-base-in-Some : goal.overflow_add-base-in-Some
overflow_add-base-in-Some c =
    let less : length c.pop.new.self < length c.args.outs = popped_count c.args.outs c.loop-bind.outs c.pop.new.self c.in-Some.bind (c.args.base + c.args.first) (view c.args.net.now) (view c.loop-bind.net) c.loop-bind.invariant.1 c.in-Some.ensures in
    let some : 0 < length c.args.outs = omega (arith, less) in
    omega (arith, cells_few c.args.net.now, c.requires.first some, less, c.len.ensures)

pub set-requires-clause-there : goal.set-requires-clause-there
set-requires-clause-there c =
    let less : length c.pop.new.self < length c.args.outs = popped_count c.args.outs c.loop-bind.outs c.pop.new.self c.in-Some.bind (c.args.base + c.args.first) (view c.args.net.now) (view c.loop-bind.net) c.loop-bind.invariant.1 c.in-Some.ensures in
    let some : 0 < length c.args.outs = omega (arith, less) in
    let same : length (view c.loop-bind.net).values ≡ length (view c.args.net.now).values = set_count c.args.outs c.loop-bind.outs (c.args.base + c.args.first) (view c.args.net.now) (view c.loop-bind.net) c.loop-bind.invariant.1 in
    omega (arith, same, c.requires.first some, less, c.len.ensures)

pub overflow_add-base-2 : goal.overflow_add-base-2
overflow_add-base-2 c = omega (arith, cells_few c.args.net.now, c.requires.done)

pub set-requires-2-clause-there : goal.set-requires-2-clause-there
set-requires-2-clause-there c =
    let same : length (view c.loop-bind.net).values ≡ length (view c.args.net.now).values = set_count c.args.outs c.loop-bind.outs (c.args.base + c.args.first) (view c.args.net.now) (view c.loop-bind.net) c.loop-bind.invariant.1 in
    omega (arith, same, c.requires.done)
