use Rattle.std.proofs.Common.{◌<◌, ◌^◌, [], ◌∷◌, ◌++◌, length, refl, subst, arith}
use Rattle.wdl_base.specs.declared.place.Segment.TheVariants as segment
use Rattle.wdl_typed.specs.Flow.{args_met}
use Rattle.value_net.specs.Nets.{view}
use Rattle.plan_steps.specs.Doing.{state}
use Rattle.plan_steps.specs.Values.{own_env}
use Rattle.plan_bodies.proofs.Counts.{cells_few}
use Rattle.plan_bodies.proofs.Reach.{reached_as}
use Rattle.wdl_task.specs.declared.fault.CallFault.{CallFault}
use Rattle.wdl_task.specs.declared.fault.CallFault.TheVariants.{Bad}
use Rattle.wdl_task.specs.Tells.{Fails}
use Rattle.plan_steps.proofs.Standing.{bad_call, can_moved}
use Rattle.plan_steps.proofs.call.call.Goals as goal

pub args_of-requires-clause-reached : goal.args_of-requires-clause-reached
args_of-requires-clause-reached g c =
    let few : length (view c.args.growth.now.entered.net).values < 2 ^ 64 = cells_few c.args.growth.now.entered.net in
    reached_as (length (view c.args.growth.now.entered.net).values) (2 ^ 64) c.args.bases.now c.args.line.now.needs c.args.line.now.needs (omega (arith, few)) refl c.requires.reached

pub call_target-requires-clause-can : goal.call_target-requires-clause-can
call_target-requires-clause-can g c =
    can_moved c.args.ground.now.checked.now c.args.ground.now.layout.now c.args.bases.now c.args.line.now (state c.args.growth.now c.args.asking.now) c.in-Ok.args c.args.place.now c.in_ok-place.place
    (c.args.place.now ++ segment.Call c.args.call.now.name ∷ []) c.in_ok-place.place c.args.call.now.target c.in_ok-place.ensures (c.requires.can c.in-Ok.args c.in-Ok.ensures.value)

pub returns-in-Err-Bad-clause-called : goal.returns-in-Err-Bad-clause-called
returns-in-Err-Bad-clause-called g c =
    let net = view c.args.growth.now.entered.net in
    let met = args_met (own_env net c.args.bases.now c.args.line.now.needs) c.args.call.now.args in
    let fails : Fails met (Bad c.in-Err-Bad.name c.in-Err-Bad.why) = subst (λ (f : CallFault). Fails met f) c.in-Err-Bad.field-0-is c.in-Err-Bad.ensures.value in
    bad_call c.args.ground.now.checked.now c.args.ground.now.layout.now c.args.bases.now c.args.line.now (state c.args.growth.now c.args.asking.now) c.args.ground.now.site.now c.args.place.now
    (c.args.place.now ++ segment.Call c.args.call.now.name ∷ []) c.in_ok-place.place c.args.step c.args.call.now.target c.push_failing.new.faults met met c.in-Err-Bad.name c.in-Err-Bad.why refl fails
    c.in_ok-place.ensures (rw c.in-Err-Bad.field-0-is at c.in_ok-push_failing-in-Err-Bad.ensures)
