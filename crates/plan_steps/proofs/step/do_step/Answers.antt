use Rattle.std.proofs.Common.{◌≡◌, refl, subst, sym, ◌∙◌}
use Rattle.std.proofs.lemmas.Option.{same_Some}
use Rattle.plan_growth.specs.declared.rule.Rule.{Rule}
use Rattle.plan_steps.specs.Doing.{state}
use Rattle.plan_growth.specs.declared.rule.Rule.TheVariants as rule
use Rattle.plan_steps.specs.Passes.{Passes}
use Rattle.plan_steps.specs.Stepping.{CanTake, Did, IsPastStep}
use Rattle.plan_steps.proofs.Standing.{passes_as}
use Rattle.plan_steps.proofs.step.do_step.Goals as goal

pub take_statement-requires-clause-can : goal.take_statement-requires-clause-can
take_statement-requires-clause-can g c = let h = subst (λ (r : Rule). CanTake c.args.ground.now.checked.now c.args.ground.now.layout.now (state c.args.growth.now c.args.asking.now) c.args.step r) c.in-Statement.is (c.requires.can c.rule.result.now c.rule.ensures) in h

pub take_input-requires-clause-can : goal.take_input-requires-clause-can
take_input-requires-clause-can g c = let h = subst (λ (r : Rule). CanTake c.args.ground.now.checked.now c.args.ground.now.layout.now (state c.args.growth.now c.args.asking.now) c.args.step r) c.in-Input.is (c.requires.can c.rule.result.now c.rule.ensures) in h

pub take_output-requires-clause-can : goal.take_output-requires-clause-can
take_output-requires-clause-can g c = let h = subst (λ (r : Rule). CanTake c.args.ground.now.checked.now c.args.ground.now.layout.now (state c.args.growth.now c.args.asking.now) c.args.step r) c.in-Output.is (c.requires.can c.rule.result.now c.rule.ensures) in h

pub gather-requires-clause-into : goal.gather-requires-clause-into
gather-requires-clause-into g c = let h = subst (λ (r : Rule). CanTake c.args.ground.now.checked.now c.args.ground.now.layout.now (state c.args.growth.now c.args.asking.now) c.args.step r) c.in-Gathers.is (c.requires.can c.rule.result.now c.rule.ensures) in h.cell

pub gather-requires-clause-set : goal.gather-requires-clause-set
gather-requires-clause-set g c = let h = subst (λ (r : Rule). CanTake c.args.ground.now.checked.now c.args.ground.now.layout.now (state c.args.growth.now c.args.asking.now) c.args.step r) c.in-Gathers.is (c.requires.can c.rule.result.now c.rule.ensures) in h.set

pub end-requires-clause-into : goal.end-requires-clause-into
end-requires-clause-into g c = let h = subst (λ (r : Rule). CanTake c.args.ground.now.checked.now c.args.ground.now.layout.now (state c.args.growth.now c.args.asking.now) c.args.step r) c.in-Ends.is (c.requires.can c.rule.result.now c.rule.ensures) in h.cell

pub copy-requires-clause-into : goal.copy-requires-clause-into
copy-requires-clause-into g c = let h = subst (λ (r : Rule). CanTake c.args.ground.now.checked.now c.args.ground.now.layout.now (state c.args.growth.now c.args.asking.now) c.args.step r) c.in-Copies.is (c.requires.can c.rule.result.now c.rule.ensures) in h.0.cell

pub copy-requires-clause-one : goal.copy-requires-clause-one
copy-requires-clause-one g c = let h = subst (λ (r : Rule). CanTake c.args.ground.now.checked.now c.args.ground.now.layout.now (state c.args.growth.now c.args.asking.now) c.args.step r) c.in-Copies.is (c.requires.can c.rule.result.now c.rule.ensures) in h.1

pub copy-requires-clause-set : goal.copy-requires-clause-set
copy-requires-clause-set g c = let h = subst (λ (r : Rule). CanTake c.args.ground.now.checked.now c.args.ground.now.layout.now (state c.args.growth.now c.args.asking.now) c.args.step r) c.in-Copies.is (c.requires.can c.rule.result.now c.rule.ensures) in h.0.set

pub returns-in-Input-clause-done : goal.returns-in-Input-clause-done
returns-in-Input-clause-done g c = λ r there.
    let same : rule.Input c.in-Input.instance c.in-Input.input ≡ r = sym c.in-Input.is ∙ same_Some _ _ (sym c.rule.ensures ∙ there) in
    let ground = c.args.ground.now in
    let old = state c.args.growth.now c.args.asking.now in
    let new = state c.take_input.new.growth c.args.asking.now in
    subst (λ (x : Rule). Passes (Did ground.checked.now ground.layout.now ground.site.now old new c.args.step x) (IsPastStep ground.checked.now ground.layout.now old c.args.step x) c.take_input.result) same
    (passes_as _ _ _ _ c.take_input.result (λ d. (d, refl)) (λ q. q) c.take_input.ensures.done)
