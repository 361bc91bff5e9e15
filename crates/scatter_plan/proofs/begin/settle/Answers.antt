use Rattle.std.proofs.Common.{[], ◌∷◌, ◌++◌}
use Rattle.scatter_plan.specs.Calls.{row}
use Rattle.plan_steps.specs.Doing.{state}
use Rattle.scatter_plan.proofs.Told.{settles, takes_past, turns_past}
use Rattle.scatter_plan.proofs.begin.settle.Goals as goal

pub returns-in-Err-clause-settles : goal.returns-in-Err-clause-settles
returns-in-Err-clause-settles g c given rows was attempt waits =
    let form = c.args.ground.now.checked.now in
    let laid = c.args.ground.now.layout.now in
    let site = c.args.ground.now.site.now in
    let old = state c.args.growth.now c.args.asking.now in
    let mid = state c.answer_call.new.growth c.answer_call.new.asking in
    takes_past form laid c.args.main given site rows old was (row c.args.place.now attempt c.args.answer.now) (Unit {0}) mid c.args.steps.now c.answer_call.new.steps c.in-Err.fault
    (c.in-Err.ensures.takes c.args.main given rows was attempt waits) mid c.answer_call.new.steps

pub turn-requires-clause-holds : goal.turn-requires-clause-holds
turn-requires-clause-holds g c =
    let given = c.requires.holds.0 in
    let rows = c.requires.holds.1 in
    let attempt = c.requires.waits.0 in
    let a = c.in-Ok.ensures.takes c.args.main given rows c.requires.holds.2 attempt c.requires.waits.1 in
    (c.args.main, given, rows ++ row c.args.place.now attempt c.args.answer.now ∷ [], a.holding)

pub returns-in-Err-turn-clause-settles : goal.returns-in-Err-turn-clause-settles
returns-in-Err-turn-clause-settles g c given rows was attempt waits =
    let form = c.args.ground.now.checked.now in
    let laid = c.args.ground.now.layout.now in
    let site = c.args.ground.now.site.now in
    let old = state c.args.growth.now c.args.asking.now in
    let mid = state c.answer_call.new.growth c.answer_call.new.asking in
    let after = state c.turn.new.growth c.turn.new.asking in
    let r = row c.args.place.now attempt c.args.answer.now in
    let a = c.in-Ok.ensures.takes c.args.main given rows was attempt waits in
    turns_past form laid c.args.main given site rows old was r mid c.args.steps.now c.answer_call.new.steps a (Unit {0}) after c.turn.new.steps c.in-Err-turn.fault
    (c.in-Err-turn.ensures.turns c.args.main given (rows ++ r ∷ []) a.holding)

pub returns-in-Ok-outputs_now-clause-settles : goal.returns-in-Ok-outputs_now-clause-settles
returns-in-Ok-outputs_now-clause-settles g c given rows was attempt waits =
    let form = c.args.ground.now.checked.now in
    let laid = c.args.ground.now.layout.now in
    let site = c.args.ground.now.site.now in
    let old = state c.args.growth.now c.args.asking.now in
    let mid = state c.answer_call.new.growth c.answer_call.new.asking in
    let after = state c.turn.new.growth c.turn.new.asking in
    let r = row c.args.place.now attempt c.args.answer.now in
    let a = c.in-Ok.ensures.takes c.args.main given rows was attempt waits in
    settles form laid c.args.main given site rows old was r mid c.args.steps.now c.answer_call.new.steps a after c.turn.new.steps c.in-Ok-outputs_now.outputs
    (c.in-Ok-turn.ensures.turns c.args.main given (rows ++ r ∷ []) a.holding) c.in-Ok-outputs_now.ensures.outputs
