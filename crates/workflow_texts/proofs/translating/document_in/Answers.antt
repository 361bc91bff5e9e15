use Rattle.workflow_texts.proofs.Excluded.{document_work}
use Rattle.workflow_texts.proofs.translating.document_in.Goals as goal

pub returns-in-Ok-clause-value : goal.returns-in-Ok-clause-value
returns-in-Ok-clause-value g c =
    document_work c.args.located.checked c.in-Ok.lowered c.args.located.paths c.document_of.result c.in-Ok.ensures c.document_of.ensures.value
