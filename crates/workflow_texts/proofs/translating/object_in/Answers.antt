use Rattle.workflow_texts.proofs.Excluded.{object_work}
use Rattle.workflow_texts.proofs.translating.object_in.Goals as goal

pub returns-in-Ok-clause-value : goal.returns-in-Ok-clause-value
returns-in-Ok-clause-value g c =
    object_work c.args.prepared.checked c.in-Ok.lowered c.args.prepared.paths c.args.prepared.given c.object_of.result c.in-Ok.ensures c.object_of.ensures.value
