use Rattle.workflow_texts.proofs.Excluded.{form_work}
use Rattle.workflow_texts.proofs.translating.document_of.Goals as goal

pub returns-in-Ok-clause-value : goal.returns-in-Ok-clause-value
returns-in-Ok-clause-value g c =
    form_work c.args.lowered c.args.paths c.in-Ok.subset c.as_slice.result.now c.as_slice-in-Ok.result.now c.document_text-text.result c.work_of.result c.in-Ok.ensures.value c.as_slice.ensures c.as_slice-in-Ok.ensures
    c.document_text-text.ensures.value c.work_of.ensures.value
