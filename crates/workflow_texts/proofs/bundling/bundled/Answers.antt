use Rattle.workflow_stages.proofs.Counts.{works}
use Rattle.workflow_stages.proofs.Started.{gather_main}
use Rattle.workflow_texts.proofs.Bundles.{mainless, unread, writes_bundle}
use Rattle.workflow_texts.proofs.bundling.bundled.Goals as goal

pub returns-in-Err-clause-value : goal.returns-in-Err-clause-value
returns-in-Err-clause-value g c =
    unread _ _ _ _ c.in-Err.unread.status c.in-Err.unread.paths (gather_main _ _ _ _ c.in-Err.unread.status c.in-Err.unread.paths c.in-Err.ensures.outcome)

pub returns-in-Ok-main_in-clause-value : goal.returns-in-Ok-main_in-clause-value
returns-in-Ok-main_in-clause-value g c =
    writes_bundle _ _ _ _ c.in-Ok.library c.in-Ok.ensures.outcome c.in-Ok-main_in.located.checked c.in-Ok-main_in.located.paths c.in-Ok-main_in.ensures.outcome
    c.bundle_in.result c.bundle_in.ensures.value

pub returns-in-Ok-main_in-clause-counted : goal.returns-in-Ok-main_in-clause-counted
returns-in-Ok-main_in-clause-counted g c = works c.bundle_in.result _ _ c.in-Ok.ensures.counted

pub returns-clause-value : goal.returns-clause-value
returns-clause-value g c =
    mainless _ _ _ _ c.in-Ok.library c.in-Ok.ensures.outcome c.in-Err-main_in.stop.status c.in-Err-main_in.stop.paths c.in-Err-main_in.ensures.outcome
