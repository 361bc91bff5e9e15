use Rattle.std.proofs.Common.{◌≡◌, ◌++◌, drop}
use Rattle.cwl_records.specs.Aliases.{walk_body}
use Rattle.cwl_records.specs.Scenes.{joined, scene_of, walked}
use Rattle.cwl_records.proofs.walk.+walk.Given as goal

abbrev pub invariant-body_walk-loop-statement : goal.invariant-body_walk-loop-statement
invariant-body_walk-loop-statement l =
    (l.names ≡ l.initial.names ++ l.walked.given)
    × (joined l.walked (walked (walk_body (scene_of l.stage) (drop l.statement-index l.body) l.names l.swaps))
    ≡ walked (walk_body (scene_of l.stage) l.body l.initial.names l.initial.swaps))
    × (l.swaps ++ (walk_body (scene_of l.stage) (drop l.statement-index l.body) l.names l.swaps).added
    ≡ l.initial.swaps ++ (walk_body (scene_of l.stage) l.body l.initial.names l.initial.swaps).added)
