use Rattle.std.proofs.Common.{◌+◌, [], drop, get_or}
use Rattle.wdl_well_typed.specs.Numbers.{fresh_numbers}
use Rattle.wdl_well_typed.proofs.NumberLemmas.{differ_go, differ_stop, drop_number}
use Rattle.wdl_well_typed.proofs.numbered.numbers_differ.Goals as goal

pub returns-then-place-len : goal.returns-then-place-len
returns-then-place-len c =
    differ_stop c.loop-number.seen (get_or c.args.numbers.now c.loop-number.number-index 0) (drop (c.loop-number.number-index + 1) c.args.numbers.now)
    (drop c.loop-number.number-index c.args.numbers.now) (fresh_numbers [] c.args.numbers.now) c.place.result c.len.result
    (drop_number c.args.numbers.now c.loop-number.number-index c.loop-number-test.true) c.place.ensures.place c.len.ensures c.if-place-len.true c.loop-number.invariant

pub loop-number-preserved : goal.loop-number-preserved
loop-number-preserved c =
    differ_go c.loop-number.seen c.push.new.self (get_or c.args.numbers.now c.loop-number.number-index 0) (drop (c.loop-number.number-index + 1) c.args.numbers.now)
    (drop c.loop-number.number-index c.args.numbers.now) (fresh_numbers [] c.args.numbers.now) c.place.result c.len.result
    (drop_number c.args.numbers.now c.loop-number.number-index c.loop-number-test.true) c.place.ensures.place c.len.ensures c.if-place-len.false
    c.in_ok-push.ensures.ok c.loop-number.invariant
