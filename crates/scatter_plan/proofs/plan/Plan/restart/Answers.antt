use Rattle.std.proofs.Common.{false, refl}
use Rattle.scatter_plan.specs.declared.plan.Plan.{Plan}
use Rattle.scatter_plan.proofs.Told.{renewed}
use Rattle.scatter_plan.proofs.plan.Plan.restart.Goals as goal

pub returns-clause-told : goal.returns-clause-told
returns-clause-told g c =
    let p : Plan = record { origin = c.args.self.now.origin; begun = c.in-Ok.begun; spent = false } in
    renewed p c.requires.made refl c.args.steps.now c.begin_of.new.steps c.in-Ok.ensures.begins
