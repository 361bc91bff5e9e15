use Rattle.std.proofs.Common.{[]}
use Rattle.plan_steps.specs.Doing.{state}
use Rattle.scatter_plan.proofs.Beginning.{asks_bare, began, begins_past, starts_now}
use Rattle.scatter_plan.proofs.begin.begin.Goals as goal

pub returns-in-Err-turn : goal.returns-in-Err-turn
returns-in-Err-turn g c =
    let form = c.args.ground.now.checked.now in
    let laid = c.args.ground.now.layout.now in
    let site = c.args.ground.now.site.now in
    let q = c.empty-asking in
    let s = starts_now form laid c.args.main c.args.inputs.now site c.in-Ok.growth q.result (asks_bare q.result q.ensures.ready q.ensures.calls q.ensures.jobs) c.in-Ok.ensures.enters.1 in
    record {
      begins =
          begins_past form laid c.args.main c.args.inputs.now site (Unit {0}) (state c.in-Ok.growth q.result) s.holding (state c.turn.new.growth c.turn.new.asking) c.args.steps.now c.turn.new.steps c.in-Err-turn.fault
          (c.in-Err-turn.ensures.turns c.args.main c.args.inputs.now [] s.holding);
    }

pub returns-in-Ok-outputs_now : goal.returns-in-Ok-outputs_now
returns-in-Ok-outputs_now g c =
    let form = c.args.ground.now.checked.now in
    let laid = c.args.ground.now.layout.now in
    let site = c.args.ground.now.site.now in
    let q = c.empty-asking in
    let s = starts_now form laid c.args.main c.args.inputs.now site c.in-Ok.growth q.result (asks_bare q.result q.ensures.ready q.ensures.calls q.ensures.jobs) c.in-Ok.ensures.enters.1 in
    record {
      begins =
          began form laid c.args.main c.args.inputs.now site (state c.in-Ok.growth q.result) s.holding c.turn.new.growth c.turn.new.asking c.in-Ok-outputs_now.outputs c.args.steps.now c.turn.new.steps
          c.in-Ok-turn.ensures.sound c.in-Ok-turn.ensures.asking (c.in-Ok-turn.ensures.turns c.args.main c.args.inputs.now [] s.holding) c.in-Ok-outputs_now.ensures.outputs;
    }
