use Rattle.std.proofs.Common.{arith}
use Rattle.wdl_load.proofs.Rows.{more_rows}
use Rattle.wdl_load.proofs.Values.{count, value_at}
use Rattle.wdl_load.proofs.table.rows_of.Goals as goal

pub bounds-values-number : goal.bounds-values-number
bounds-values-number c = omega (arith, count c.args.values.now c.args.count c.requires.are_values)

pub row_of-requires-clause-is_value : goal.row_of-requires-clause-is_value
row_of-requires-clause-is_value c = value_at c.args.values.now c.args.count c.requires.are_values c.loop-number.number (omega arith)

pub loop-number-preserved : goal.loop-number-preserved
loop-number-preserved c =
    more_rows c.loop-number.number c.loop-number.rows c.push.new.self c.in_ok-row.row c.in_ok-push.ensures.ok c.loop-number.invariant c.in_ok-row.ensures.value
