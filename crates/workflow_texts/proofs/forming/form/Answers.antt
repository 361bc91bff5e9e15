use Rattle.workflow_stages.proofs.Counts.{works}
use Rattle.workflow_texts.proofs.Formed.{is_there, writes_form}
use Rattle.workflow_texts.proofs.forming.form.Goals as goal

pub form_in-requires : goal.form_in-requires
form_in-requires g c = let m = c.in-Ok.ensures.outcome in record { main = is_there _ m.1 m.2.main }

pub returns-in-Ok-clause-value : goal.returns-in-Ok-clause-value
returns-in-Ok-clause-value g c =
    writes_form _ _ _ _ c.in-Ok.located.checked c.in-Ok.located.paths c.in-Ok.ensures.outcome c.form_in.result c.form_in.ensures.value

pub returns-in-Ok-clause-counted : goal.returns-in-Ok-clause-counted
returns-in-Ok-clause-counted g c = works _ _ _ c.in-Ok.ensures.counted
