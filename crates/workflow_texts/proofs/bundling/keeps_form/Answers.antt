use Rattle.std.proofs.Common.{sym, ◌∙◌}
use Rattle.workflow_texts.proofs.Bundles.{compares, other_form}
use Rattle.workflow_texts.proofs.bundling.keeps_form.Goals as goal

pub returns-in-Ok : goal.returns-in-Ok
returns-in-Ok c = record {
  value = compares c.args.checked.now c.args.file.now c.args.text.now c.in-Ok.form c.same_but_names.result c.in-Ok.ensures.value.2 c.same_but_names.ensures;
}

pub returns-else-is_starved : goal.returns-else-is_starved
returns-else-is_starved c = record {
  value = other_form c.args.checked.now c.args.file.now c.args.text.now c.in-Err.ensures.value.0 c.in-Err.ensures.value.1 c.in-Err.stop.status c.in-Err.stop.paths (sym c.is_starved.ensures ∙ c.if-is_starved.false) c.in-Err.ensures.value.2;
}
