use Rattle.std.proofs.Common.{◌≡◌, List, Option, length, ap}
use Rattle.wdl_value.specs.declared.value.Value.{Value}
use Rattle.value_net.specs.Nets.{view}
use Rattle.plan_room.specs.Reached.{IsStatementReached}
use Rattle.plan_bodies.proofs.Reach.{statement_reached}
use Rattle.plan_bodies.proofs.entering.add_statements.Goals as goal

pub add_statement-requires-clause-needs : goal.add_statement-requires-clause-needs
add_statement-requires-clause-needs c =
    let same : length (view c.loop-statement.net).values ≡ length (view c.args.net.now).values = ap (λ (xs : List (Option Value)). length xs) c.loop-statement.invariant.1 in
    let here : IsStatementReached (length (view c.loop-statement.net).values) c.args.bases.now c.index-statements-statement.result =
    statement_reached (length (view c.loop-statement.net).values) (length (view c.args.net.now).values) c.args.bases.now c.args.statements.now c.loop-statement.statement c.index-statements-statement.result c.loop-statement-test.true c.index-statements-statement.is same c.requires.reached in
    here.needs

pub add_statement-requires-clause-after : goal.add_statement-requires-clause-after
add_statement-requires-clause-after c =
    let same : length (view c.loop-statement.net).values ≡ length (view c.args.net.now).values = ap (λ (xs : List (Option Value)). length xs) c.loop-statement.invariant.1 in
    let here : IsStatementReached (length (view c.loop-statement.net).values) c.args.bases.now c.index-statements-statement.result =
    statement_reached (length (view c.loop-statement.net).values) (length (view c.args.net.now).values) c.args.bases.now c.args.statements.now c.loop-statement.statement c.index-statements-statement.result c.loop-statement-test.true c.index-statements-statement.is same c.requires.reached in
    here.after
