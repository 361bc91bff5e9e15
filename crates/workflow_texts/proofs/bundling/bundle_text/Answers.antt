use Rattle.workflow_texts.proofs.Bundles.{has_text, no_text}
use Rattle.workflow_texts.proofs.bundling.bundle_text.Goals as goal

pub returns-in-Ok : goal.returns-in-Ok
returns-in-Ok c = record { value = has_text c.args.library.now c.in-Ok.document c.text_of.result c.in-Ok.ensures.0 c.in-Ok.ensures.1 c.text_of.ensures.value }

pub returns-in-Err : goal.returns-in-Err
returns-in-Err c = record { value = no_text c.args.library.now c.in-Err.fault c.in-Err.ensures }
