use Rattle.std.proofs.Common.{◌≡◌, ◌++◌, drop, map}
use Rattle.wdl_check_rules.specs.Locals.{stands_for}
use Rattle.wdl_bundle.specs.Bodies.{statement_with}
use Rattle.wdl_bundle.specs.Called.{reach_of}
use Rattle.wdl_bundle.specs.TaskNames.{name_of}
use Rattle.wdl_bundle.proofs.body.+body.Given as goal

abbrev pub invariant-copy_body-loop-statement : goal.invariant-copy_body-loop-statement
invariant-copy_body-loop-statement l = l.copies ++ map (statement_with (stands_for l.locals) (name_of (reach_of l.names.reach) l.names.names.now)) (drop l.statement-index l.body)
    ≡ map (statement_with (stands_for l.locals) (name_of (reach_of l.names.reach) l.names.names.now)) l.body
