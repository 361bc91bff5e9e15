use Rattle.std.proofs.Common.{◌+◌}
use Rattle.wdl_check_flow.specs.Given.{seen_of}
use Rattle.wdl_check_flow.specs.Targets.{place_of}
use Rattle.wdl_check_flow.proofs.BodyLaws.{Runs, in_order}
use Rattle.wdl_check_flow.proofs.Depths.{inside, inside_all}
use Rattle.wdl_check_flow.proofs.body.+bodies.Given as goal

abbrev pub decreases-check_statement : goal.decreases-check_statement
decreases-check_statement l = inside l.statement.now

abbrev pub decreases-check_scatter : goal.decreases-check_scatter
decreases-check_scatter l = 2 + inside_all l.body.now

abbrev pub decreases-check_conditional : goal.decreases-check_conditional
decreases-check_conditional l = 2 + inside_all l.body.now

abbrev pub decreases-check_block : goal.decreases-check_block
decreases-check_block l = 1 + inside_all l.body.now

abbrev pub invariant-check_block-loop-position : goal.invariant-check_block-loop-position
invariant-check_block-loop-position l =
    Runs (place_of l.context) l.body l.numbers l.position-items (seen_of l.initial.visible) l.position-index (seen_of l.visible) l.done
    (in_order (place_of l.context) l.body l.numbers (seen_of l.initial.visible) l.position-items)
