use Rattle.std.proofs.Common.{◌≤◌, ℕ, ◌+◌, OnOk, length, sym, subst, ◌∙◌}
use Rattle.std.proofs.lemmas.Option.{same_Some}
use Rattle.plan_steps.specs.Arriving.{CanConclude, Concluded}
use Rattle.plan_steps.specs.Doing.{field}
use Rattle.plan_steps.proofs.Concluding.{statement_same}
use Rattle.plan_steps.proofs.arrival.conclude_step.Goals as goal

pub returns-clause-done : goal.returns-clause-done
returns-clause-done g c = λ i k there.
    let e = statement_same c.in-Statement.instance c.in-Statement.statement i k (sym c.in-Statement.is ∙ same_Some _ _ (sym c.rule.ensures ∙ there)) in
    let ground = c.args.ground.now in
    subst (λ (n : ℕ). OnOk c.conclude_statement.result (Concluded ground.checked.now ground.layout.now (field c.args.growth.now) i n c.args.prepared.now c.args.answer.now (field c.conclude_statement.new.growth))) e.1
    (subst (λ (n : ℕ). OnOk c.conclude_statement.result (Concluded ground.checked.now ground.layout.now (field c.args.growth.now) n c.in-Statement.statement c.args.prepared.now c.args.answer.now (field c.conclude_statement.new.growth))) e.0 c.conclude_statement.ensures.done)

pub returns-clause-steps : goal.returns-clause-steps
returns-clause-steps g c = λ i k there.
    let e = statement_same c.in-Statement.instance c.in-Statement.statement i k (sym c.in-Statement.is ∙ same_Some _ _ (sym c.rule.ensures ∙ there)) in
    let ground = c.args.ground.now in
    subst (λ (n : ℕ). (h : CanConclude ground.checked.now ground.layout.now (field c.args.growth.now) i n c.args.prepared.now) → c.conclude_statement.new.steps ≤ c.args.steps.now + length h.task.outputs) e.1
    (subst (λ (n : ℕ). (h : CanConclude ground.checked.now ground.layout.now (field c.args.growth.now) n c.in-Statement.statement c.args.prepared.now) → c.conclude_statement.new.steps ≤ c.args.steps.now + length h.task.outputs) e.0 c.conclude_statement.ensures.steps)
