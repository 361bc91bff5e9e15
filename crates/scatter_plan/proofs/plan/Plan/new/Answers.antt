use Rattle.std.proofs.Common.{refl, subst, sym}
use Rattle.scatter_plan.specs.declared.plan.Plan.{Plan}
use Rattle.scatter_plan.specs.Calls.{GivesBack, IsRenewed}
use Rattle.scatter_plan.specs.Plans.{IsMade}
use Rattle.std.proofs.Common.{[], false}
use Rattle.scatter_plan.proofs.Told.{past_back, renewed}
use Rattle.scatter_plan.proofs.plan.Plan.new.Goals as goal

pub returns-in-Ok-begin_of-clause-plan : goal.returns-in-Ok-begin_of-clause-plan
returns-in-Ok-begin_of-clause-plan g c =
    let p : Plan =
    record {
      origin = record { checked = c.args.checked; inputs = c.args.inputs; site = c.args.site; layout = c.in-Ok.layout; main = c.in-Some.main };
      begun = c.in-Ok-begin_of.begun;
      spent = false;
    } in
    let made : IsMade p = record { main_is = c.in-Some.is; laid = c.in-Ok.ensures; fit = λ f e. c.requires.fit c.in-Some.main f c.in-Some.is e } in
    let r : IsRenewed [] c.args.steps.now c.begin_of.new.steps p = renewed p made refl c.args.steps.now c.begin_of.new.steps c.in-Ok-begin_of.ensures.begins in
    record { checked = refl; inputs = refl; site = refl; made = made; told = r.told; paid = r.paid }

pub returns-in-Err-TooMany-clause-back : goal.returns-in-Err-TooMany-clause-back
returns-in-Err-TooMany-clause-back g c =
    subst (GivesBack c.args.checked c.args.inputs c.args.site) (sym c.given_back.ensures) (
      refl,
      refl,
      refl,
      past_back c.args.checked c.in-Ok.layout c.in-Some.main c.args.inputs c.args.site c.args.steps.now c.begin_of.new.steps c.in-Err-TooMany.field-0 c.in-Some.is c.in-Err-TooMany.field-0-is c.in-Err-TooMany.ensures.begins,
    )
