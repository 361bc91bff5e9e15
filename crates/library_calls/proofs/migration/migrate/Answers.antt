use Rattle.std.proofs.Common.{◌≡◌, Err, ap, arith}
use Rattle.library_calls.proofs.Renewals.{renewed_more, first_bad}
use Rattle.library_calls.proofs.migration.migrate.Goals as goal

pub returns-in-Err-NotARow-clause-refused : goal.returns-in-Err-NotARow-clause-refused
returns-in-Err-NotARow-clause-refused c = λ index same.
    let l = c.loop-row in
    let at : l.row-index ≡ index = grind (arith, same, l.invariant.index) in
    first_bad c.args.rows.now l.all l.row-index index c.row-item.result at c.loop-row-test.true c.row-item.is l.invariant.renewed
    (c.in-Err-NotARow.ensures.refused (ap Err c.in-Err-NotARow.field-0-is))

pub loop-row-preserved : goal.loop-row-preserved
loop-row-preserved c =
    let l = c.loop-row in
    record {
      index = omega (arith, l.invariant.index);
      renewed = renewed_more c.args.rows.now l.all c.push.new.self l.row-index c.row-item.result c.in-Ok.text c.loop-row-test.true c.row-item.is l.invariant.renewed
          c.in-Ok.ensures.row c.in_ok-push-in-Ok.ensures.ok;
    }
