use Rattle.std.proofs.Common.{◌+◌, ◌++◌, drop, ap, ◌∙◌}
use Rattle.cwl_rules.proofs.ListLemmas.{drop_item}
use Rattle.cwl_records.specs.Aliases.{walk_body}
use Rattle.cwl_records.specs.Scenes.{scene_of, walked}
use Rattle.cwl_records.proofs.WalkLaws.{walk_goes}
use Rattle.cwl_records.proofs.walk.+walk.Goals as goal

pub body_walk-loop-statement-preserved : goal.body_walk-loop-statement-preserved
body_walk-loop-statement-preserved t c =
    let scene = scene_of c.args.stage.now in
    let body = c.args.body.now in
    let whole = walk_body scene body c.args.names.now c.args.swaps.now in
    walk_goes scene c.statement-item.result (drop (c.loop-statement.statement-index + 1) body) (drop c.loop-statement.statement-index body)
    c.args.names.now c.loop-statement.names c.enter_names.new.names c.loop-statement.swaps c.statement_walk.new.swaps (c.args.swaps.now ++ whole.added)
    c.loop-statement.walked c.append.new.self c.in_ok-next.next (walked whole)
    (drop_item body c.loop-statement.statement-index c.statement-item.result c.loop-statement-test.true c.statement-item.is)
    c.in_ok-next.ensures.walked c.in_ok-next.ensures.swaps
    (c.in_ok-enter_names.ensures
    ∙ ap (λ ns. ns ++ c.as_slice.result.now) c.in_ok-next.ensures.names
    ∙ ap (λ ns. c.loop-statement.names ++ ns) c.as_slice.ensures)
    c.in_ok-append.ensures c.loop-statement.invariant
