use Rattle.std.proofs.Common.{◌+◌, drop, rules}
use Rattle.wdl_check_doc.proofs.Lists.{all_end, all_err, all_on, drop_end}
use Rattle.wdl_check_doc.proofs.nesting.check_body.Goals as goal
use Rattle.wdl_check_rules.proofs.MemberLaws.{at_front as drop_at}

pub returns-in_err-check_statement : goal.returns-in_err-check_statement
returns-in_err-check_statement c =
    let h = all_err _ (drop c.loop-statement.statement-index c.args.body.now) c.statement-item.result (drop (c.loop-statement.statement-index + 1) c.args.body.now) _ c.in_err-check_statement.field-0.0
    (drop_at c.args.body.now c.loop-statement.statement-index c.statement-item.result c.loop-statement-test.true c.statement-item.is) c.loop-statement.invariant c.in_err-check_statement.ensures in
    search rules

pub loop-statement-preserved : goal.loop-statement-preserved
loop-statement-preserved c =
    all_on _ (drop c.loop-statement.statement-index c.args.body.now) c.statement-item.result (drop (c.loop-statement.statement-index + 1) c.args.body.now) _
    (drop_at c.args.body.now c.loop-statement.statement-index c.statement-item.result c.loop-statement-test.true c.statement-item.is) c.loop-statement.invariant c.in_ok-check_statement.ensures

pub returns : goal.returns
returns c = all_end _ _ _ (drop_end c.args.body.now c.loop-statement.statement-index c.loop-statement-test.false) c.loop-statement.invariant
