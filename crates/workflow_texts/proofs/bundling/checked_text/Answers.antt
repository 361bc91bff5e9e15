use Rattle.workflow_texts.proofs.Bundles.{no_checked_text}
use Rattle.workflow_texts.proofs.bundling.checked_text.Goals as goal

pub returns-in-Err : goal.returns-in-Err
returns-in-Err c = record { value = no_checked_text c.args.library.now c.args.checked.now c.args.file.now c.in-Err.fault c.in-Err.ensures.value }
