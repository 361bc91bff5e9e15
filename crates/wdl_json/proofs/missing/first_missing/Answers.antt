use Rattle.std.proofs.Common.{◌∙◌}
use Rattle.std.specs.Option.{option_copied}
use Rattle.serde_json.specs.View.{members_view}
use Rattle.wdl_json.specs.Inputs.{is_missing}
use Rattle.wdl_json.proofs.Firsts.{first_step}
use Rattle.wdl_json.proofs.missing.first_missing.Goals as goal

pub loop-input-preserved : goal.loop-input-preserved
loop-input-preserved c =
    first_step (is_missing c.args.flow.now (members_view c.args.members.now.entries)) c.args.inputs.now c.loop-input.input-index c.input-item.result c.in_ok-missing.missing
    (option_copied c.loop-input.first) (option_copied c.sooner_if-first.result) c.loop-input-test.true c.input-item.is c.in_ok-missing.ensures c.sooner_if-first.ensures
    ∙ c.loop-input.invariant
