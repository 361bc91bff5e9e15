use Rattle.std.proofs.lemmas.Result.{err_from_is_err_and}
use Rattle.value_net.specs.Nets.{view}
use Rattle.plan_steps.specs.Doing.{state}
use Rattle.scatter_plan.proofs.TurnLoop.{begins, ends, next, none_of, past, taken_of}
use Rattle.scatter_plan.proofs.Turns as turns
use Rattle.scatter_plan.proofs.turning.turn.Goals as goal

pub loop-init : goal.loop-init
loop-init g c = begins c.args.ground.now.checked.now c.args.ground.now.layout.now c.args.ground.now.site.now c.args.steps.now c.args.growth.now c.args.asking.now c.requires.sound c.requires.asking

pub do_step-requires-clause-there : goal.do_step-requires-clause-there
do_step-requires-clause-there g c =
    let e = c.requires.holds in
    let k = c.loop.invariant.holds e.0 e.1 e.2 e.3 in
    let taken = taken_of c.in_ok-step.field-0 c.in-Some.step (view c.loop.growth.entered.net) (view c.pop.new.self) c.in-Some.is c.in_ok-step.ensures.popped in
    turns.rule_there c.args.ground.now.checked.now c.args.ground.now.layout.now e.0 e.1 c.args.ground.now.site.now e.2 (state c.loop.growth c.loop.asking) k.holding c.in-Some.step (view c.pop.new.self) taken

pub do_step-requires-clause-step : goal.do_step-requires-clause-step
do_step-requires-clause-step g c =
    let e = c.requires.holds in
    let k = c.loop.invariant.holds e.0 e.1 e.2 e.3 in
    let taken = taken_of c.in_ok-step.field-0 c.in-Some.step (view c.loop.growth.entered.net) (view c.pop.new.self) c.in-Some.is c.in_ok-step.ensures.popped in
    turns.step_there c.args.ground.now.checked.now c.args.ground.now.layout.now e.0 e.1 c.args.ground.now.site.now e.2 (state c.loop.growth c.loop.asking) k.holding c.in-Some.step (view c.pop.new.self) taken

pub do_step-requires-clause-can : goal.do_step-requires-clause-can
do_step-requires-clause-can g c =
    let e = c.requires.holds in
    let k = c.loop.invariant.holds e.0 e.1 e.2 e.3 in
    let taken = taken_of c.in_ok-step.field-0 c.in-Some.step (view c.loop.growth.entered.net) (view c.pop.new.self) c.in-Some.is c.in_ok-step.ensures.popped in
    turns.can c.args.ground.now.checked.now c.args.ground.now.layout.now e.0 e.1 c.args.ground.now.site.now e.2 (state c.loop.growth c.loop.asking) k.holding c.in-Some.step (view c.pop.new.self) taken

pub do_step-requires-clause-count : goal.do_step-requires-clause-count
do_step-requires-clause-count g c = let e = c.requires.holds in (c.loop.invariant.holds e.0 e.1 e.2 e.3).holding.few_count

pub loop-preserved : goal.loop-preserved
loop-preserved g c =
    let taken = taken_of c.in_ok-step.field-0 c.in-Some.step (view c.loop.growth.entered.net) (view c.pop.new.self) c.in-Some.is c.in_ok-step.ensures.popped in
    next c.args.ground.now.checked.now c.args.ground.now.layout.now c.args.ground.now.site.now (state c.args.growth.now c.args.asking.now) c.args.steps.now c.loop.growth c.loop.asking c.loop.steps c.loop.invariant
    c.in-Some.step (view c.pop.new.self) taken c.flows_see.ensures c.do_step.new.growth c.do_step.new.asking c.do_step.new.steps c.in_ok-do_step.ensures.done c.in_ok-do_step.ensures.steps c.in_ok-do_step.ensures.sound
    c.in_ok-do_step.ensures.asking c.in_ok-do_step.ensures.count c.in_ok-do_step.ensures.jobs

pub returns-in_default-clause-turns : goal.returns-in_default-clause-turns
returns-in_default-clause-turns g c main given rows was =
    let p = none_of c.in_ok-step.field-0 (view c.loop.growth.entered.net) (view c.pop.new.self) c.in_default.is c.in_ok-step.ensures.popped in
    ends c.args.ground.now.checked.now c.args.ground.now.layout.now c.args.ground.now.site.now (state c.args.growth.now c.args.asking.now) c.args.steps.now c.loop.growth c.loop.asking c.loop.steps c.loop.invariant
    (view c.pop.new.self) p.0 p.1 main given rows was

pub returns-in_err-do_step-clause-turns : goal.returns-in_err-do_step-clause-turns
returns-in_err-do_step-clause-turns g c main given rows was =
    let taken = taken_of c.in_ok-step.field-0 c.in-Some.step (view c.loop.growth.entered.net) (view c.pop.new.self) c.in-Some.is c.in_ok-step.ensures.popped in
    let p = err_from_is_err_and c.from_residual-in_err-do_step.result c.from_residual-in_err-do_step.ensures.1 in
    rw (p.1, p.2) (past c.args.ground.now.checked.now c.args.ground.now.layout.now c.args.ground.now.site.now (state c.args.growth.now c.args.asking.now) c.args.steps.now c.loop.growth c.loop.asking c.loop.steps c.loop.invariant
    c.in-Some.step (view c.pop.new.self) taken c.flows_see.ensures c.in_err-do_step.field-0.0 c.in_err-do_step.ensures.done main given rows was)
