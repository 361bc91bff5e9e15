use Rattle.std.proofs.Common.{ap, not, ◌∙◌}
use Rattle.workflow_stages.proofs.Started.{is_nothing, is_something, mainless_in, type_main}
use Rattle.workflow_stages.proofs.prepare.main_in.Goals as goal

pub returns-in-Err-clause-outcome : goal.returns-in-Err-clause-outcome
returns-in-Err-clause-outcome g c = type_main _ _ c.in-Err.unchecked.status c.in-Err.unchecked.paths c.in-Err.ensures.outcome

pub returns-then-is_none-clause-outcome : goal.returns-then-is_none-clause-outcome
returns-then-is_none-clause-outcome g c =
    mainless_in _ _ c.in-Ok.located.checked c.in-Ok.ensures.outcome.0 (is_nothing c.main_flow.result _ c.main_flow.ensures.value c.if-is_none.ensures)
    c.stop_without_main.result.status c.stop_without_main.result.paths c.stop_without_main.ensures.value

pub returns-clause-outcome : goal.returns-clause-outcome
returns-clause-outcome g c =
    let h = c.in-Ok.ensures.outcome in
    let main = is_something c.main_flow.result _ c.main_flow.ensures.value (c.is_none.ensures ∙ ap not c.if-is_none.false) in
    record { is_typed = h.0; named = h.1; flow = main.0; main = main.1 }
