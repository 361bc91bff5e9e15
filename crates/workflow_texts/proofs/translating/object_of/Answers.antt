use Rattle.workflow_texts.proofs.Excluded.{form_object_work}
use Rattle.workflow_texts.proofs.translating.object_of.Goals as goal

pub returns-in-Ok-clause-value : goal.returns-in-Ok-clause-value
returns-in-Ok-clause-value g c =
    form_object_work c.args.checked c.args.paths c.args.given.now c.in-Ok.field-0 c.object_line.result c.work_of.result c.in-Ok.ensures.value c.object_line.ensures.value c.work_of.ensures.value
