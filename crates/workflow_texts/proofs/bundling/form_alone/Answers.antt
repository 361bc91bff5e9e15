use Rattle.workflow_texts.proofs.Bundles.{form_alone, starved_alone}
use Rattle.workflow_texts.proofs.bundling.form_alone.Goals as goal

pub returns-in_default : goal.returns-in_default
returns-in_default c = record { value = starved_alone c.args.file.now c.args.text.now c.stop_of.result c.stop_of.ensures.status }

pub returns : goal.returns
returns c = record {
  value = form_alone c.args.file.now c.args.text.now _ _ _ _ c.checked_of.result c.in-Ok.ensures.files c.in-Ok.ensures.fails c.checked_of.ensures.outcome;
}
