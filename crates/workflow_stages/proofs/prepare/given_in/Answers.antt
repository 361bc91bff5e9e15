use Rattle.workflow_stages.proofs.Counts.{reads}
use Rattle.workflow_stages.proofs.Given.{gives_in}
use Rattle.workflow_stages.proofs.prepare.given_in.Goals as goal

pub returns-in-Ok-clause-value : goal.returns-in-Ok-clause-value
returns-in-Ok-clause-value g c =
    gives_in _ _ _ _ c.args.checked.now c.as_slice.result.now (rw c.as_slice.ensures c.in-Ok.ensures.value) c.given_of.result c.given_of.ensures.value c.given_of.ensures.fit

pub returns-in-Ok-clause-counted : goal.returns-in-Ok-clause-counted
returns-in-Ok-clause-counted g c = reads c.given_of.result _ _ c.in-Ok.ensures.counted
