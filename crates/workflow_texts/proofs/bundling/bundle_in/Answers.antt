use Rattle.workflow_texts.proofs.Bundles.{ruled_out}
use Rattle.workflow_texts.proofs.bundling.bundle_in.Goals as goal

pub returns-in-Err-Bad-clause-value : goal.returns-in-Err-Bad-clause-value
returns-in-Err-Bad-clause-value g c =
    ruled_out c.args.library.now c.args.located.checked c.args.file.now c.args.located.paths c.in-Err-Bad.rule c.in-Err-Bad.span (rw c.in-Err-Bad.field-0-is at c.in-Err-Bad.ensures.value)
    c.outside.result.status c.outside.result.paths c.outside.ensures.value
