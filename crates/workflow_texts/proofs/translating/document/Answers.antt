use Rattle.workflow_stages.proofs.Counts.{works}
use Rattle.workflow_texts.proofs.Excluded.{writes_document}
use Rattle.workflow_texts.proofs.translating.document.Goals as goal

pub returns-in-Ok-clause-value : goal.returns-in-Ok-clause-value
returns-in-Ok-clause-value g c =
    writes_document _ _ _ _ c.in-Ok.located.checked c.in-Ok.located.paths c.document_in.result c.in-Ok.ensures.outcome c.document_in.ensures.value

pub returns-in-Ok-clause-counted : goal.returns-in-Ok-clause-counted
returns-in-Ok-clause-counted g c = works _ _ _ c.in-Ok.ensures.counted
