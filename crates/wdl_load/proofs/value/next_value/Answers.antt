use Rattle.std.proofs.Common.{◌<◌, ◌-◌, ◌/◌, arith}
use Rattle.wdl_load.proofs.Values.{below, count, first_is, half_below, later, value_at}
use Rattle.wdl_load.proofs.value.next_value.Goals as goal

pub returns-then-number-eq0 : goal.returns-then-number-eq0
returns-then-number-eq0 c = record { value = first_is c.args.number c.if-number-eq0.true }

pub bounds-values-number : goal.bounds-values-number
bounds-values-number c =
    let some : 0 < c.args.number = omega arith in
    omega (arith, count c.args.values.now c.args.number c.requires.before, half_below c.args.number some)

pub overflow_add-result : goal.overflow_add-result
overflow_add-result c =
    let some : 0 < c.args.number = omega arith in
    let low = half_below c.args.number some in
    omega (arith, value_at c.args.values.now c.args.number c.requires.before ((c.args.number - 1) / 2) low, below ((c.args.number - 1) / 2))

pub returns : goal.returns
returns c =
    let some : 0 < c.args.number = omega arith in
    let low = half_below c.args.number some in
    record { value = later c.args.number _ some (value_at c.args.values.now c.args.number c.requires.before ((c.args.number - 1) / 2) low) }
