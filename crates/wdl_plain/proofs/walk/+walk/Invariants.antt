use Rattle.std.proofs.Common.{◌≡◌, ◌+◌, ◌*◌, false, drop, take, map}
use Rattle.wdl_typed.specs.Flow as flow
use Rattle.wdl_plain.specs.Gathers.{IsGathered}
use Rattle.flow_soundness.specs.Readiness.{IsBodyReady}
use Rattle.wdl_plain.specs.Views.{flowing_of, run_of, sight_of}
use Rattle.wdl_plain.specs.Walk as spec
use Rattle.wdl_plain.proofs.Turns.{Going}
use Rattle.wdl_plain.proofs.walk.+walk.Given as goal

-- ---- blocks and calls in one another

abbrev pub decreases-flow_of : goal.decreases-flow_of
decreases-flow_of g l = 10 * l.reach.levels + 12

abbrev pub decreases-body_flow : goal.decreases-body_flow
decreases-body_flow g l = 10 * l.reach.levels + 9

abbrev pub decreases-statement_flow : goal.decreases-statement_flow
decreases-statement_flow g l = 10 * l.reach.levels + 8

abbrev pub decreases-call_flow : goal.decreases-call_flow
decreases-call_flow g l = 10 * l.reach.levels + 7

abbrev pub decreases-called : goal.decreases-called
decreases-called g l = 10 * l.reach.levels + 6

abbrev pub decreases-flow_called : goal.decreases-flow_called
decreases-flow_called g l = 10 * l.reach.levels + 5

abbrev pub decreases-flow_in : goal.decreases-flow_in
decreases-flow_in g l = 10 * l.reach.levels + 11

abbrev pub decreases-scatter_flow : goal.decreases-scatter_flow
decreases-scatter_flow g l = 10 * l.reach.levels + 7

abbrev pub decreases-scattered : goal.decreases-scattered
decreases-scattered g l = 10 * l.reach.levels + 6

abbrev pub decreases-item_flow : goal.decreases-item_flow
decreases-item_flow g l = 10 * l.reach.levels + 5

abbrev pub decreases-if_flow : goal.decreases-if_flow
decreases-if_flow g l = 10 * l.reach.levels + 7

abbrev pub decreases-chosen : goal.decreases-chosen
decreases-chosen g l = 10 * l.reach.levels + 6

-- ---- loops

abbrev pub invariant-body_flow-loop-statement : goal.invariant-body_flow-loop-statement
invariant-body_flow-loop-statement g l =
    Going (flowing_of l.total) (map flow.run_of_part (spec.parts_of (run_of l.ground) l.reach.calls (drop l.statement-index l.body)))
    (sight_of l.sight) (sight_of l.initial.sight) (spec.body_flow (run_of l.ground) l.reach.calls l.body (sight_of l.initial.sight))
    × IsBodyReady (run_of l.ground).library l.reach.levels (drop l.statement-index l.body) (sight_of l.sight)

abbrev pub invariant-scattered-loop-i : goal.invariant-scattered-loop-i
invariant-scattered-loop-i g l =
    IsGathered l.gathering
    (flow.each_item (spec.body_flow (run_of l.ground) l.reach.calls l.scatter.body) (sight_of l.initial.sight) l.scatter.number l.scatter.item 0 (take l.i l.items))
    × (flow.too_many (flowing_of l.gathering.total) ≡ false)
    × (sight_of l.sight ≡ sight_of l.initial.sight)
