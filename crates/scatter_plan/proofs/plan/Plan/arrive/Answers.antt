use Rattle.scatter_plan.specs.Calls.{row}
use Rattle.plan_steps.specs.Doing.{state}
use Rattle.scatter_plan.proofs.Told.{arrived, many_arrived}
use Rattle.scatter_plan.proofs.plan.Plan.arrive.Goals as goal

pub returns-in-Ok-clause-arrives : goal.returns-in-Ok-clause-arrives
returns-in-Ok-clause-arrives g c rows told =
    arrived c.args.self.now c.requires.made rows told (row c.args.place.now c.args._attempt c.args.answer.now) c.settle.new.growth c.settle.new.asking c.in-Ok.outputs c.args.steps.now c.settle.new.steps
    c.in-Ok.ensures.sound c.in-Ok.ensures.asking (c.in-Ok.ensures.settles c.args.self.now.origin.inputs rows told.held.settled.holding c.args._attempt c.requires.waits)

pub returns-in-Err-clause-many : goal.returns-in-Err-clause-many
returns-in-Err-clause-many g c rows told same =
    many_arrived c.args.self.now c.requires.made rows told (row c.args.place.now c.args._attempt c.args.answer.now) (Unit {0}) (state c.settle.new.growth c.settle.new.asking) c.args.steps.now c.settle.new.steps c.in-Err.fault
    (c.in-Err.ensures.settles c.args.self.now.origin.inputs rows told.held.settled.holding c.args._attempt c.requires.waits) same
