use Rattle.std.proofs.Common.{◌+◌, ◌++◌, drop}
use Rattle.wdl_typed.specs.Bodies.{all_declared}
use Rattle.wdl_names.specs.Fresh.{fresh}
use Rattle.wdl_well_typed.proofs.DistinctLemmas.{declared_go, declared_stop}
use Rattle.wdl_well_typed.proofs.ListLemmas.{drop_item}
use Rattle.wdl_well_typed.proofs.declared.+declared.Goals as goal

pub add_declared-returns-then-not-branch-clause-fresh : goal.add_declared-returns-then-not-branch-clause-fresh
add_declared-returns-then-not-branch-clause-fresh t c =
    declared_stop c.loop-statement.words c.statement-item.result (drop (c.loop-statement.statement-index + 1) c.args.body.now) (drop c.loop-statement.statement-index c.args.body.now)
    c.in_ok-add_statement.field-0 (fresh c.args.words.now (all_declared c.args.body.now))
    (drop_item c.args.body.now c.loop-statement.statement-index c.statement-item.result c.loop-statement-test.true c.statement-item.is)
    c.in_ok-add_statement.ensures.fresh c.if-not-branch.true c.loop-statement.invariant.1

pub add_declared-loop-statement-preserved : goal.add_declared-loop-statement-preserved
add_declared-loop-statement-preserved t c =
    declared_go c.loop-statement.words c.add_statement.new.words c.statement-item.result (drop (c.loop-statement.statement-index + 1) c.args.body.now)
    (drop c.loop-statement.statement-index c.args.body.now) c.in_ok-add_statement.field-0 (fresh c.args.words.now (all_declared c.args.body.now))
    (c.args.words.now ++ all_declared c.args.body.now)
    (drop_item c.args.body.now c.loop-statement.statement-index c.statement-item.result c.loop-statement-test.true c.statement-item.is)
    c.in_ok-add_statement.ensures.fresh c.if-not-branch.false (c.in_ok-add_statement.ensures.words c.if-not-branch.false)
    c.loop-statement.invariant.0 c.loop-statement.invariant.1
