use Rattle.workflow_stages.proofs.Counts.{works}
use Rattle.workflow_texts.proofs.Excluded.{writes_object}
use Rattle.workflow_texts.proofs.translating.object.Goals as goal

pub returns-in-Ok-clause-value : goal.returns-in-Ok-clause-value
returns-in-Ok-clause-value g c =
    let p = c.in-Ok.prepared in
    let h = c.in-Ok.ensures.outcome in
    writes_object _ _ _ _ p.checked p.paths c.args.inputs.now p.given h.0 h.1 c.object_in.result c.object_in.ensures.value

pub returns-in-Ok-clause-counted : goal.returns-in-Ok-clause-counted
returns-in-Ok-clause-counted g c = works _ _ _ c.in-Ok.ensures.counted
