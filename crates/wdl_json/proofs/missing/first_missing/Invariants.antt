use Rattle.std.proofs.Common.{◌≡◌, drop}
use Rattle.std.specs.Option.{option_copied}
use Rattle.serde_json.specs.View.{members_view}
use Rattle.wdl_json.specs.Inputs.{first_of, is_missing}
use Rattle.wdl_json.specs.Sooner.{joined}
use Rattle.wdl_json.proofs.missing.first_missing.Given as goal

abbrev pub invariant-loop-input : goal.invariant-loop-input
invariant-loop-input l =
    joined (option_copied l.first) (first_of (is_missing l.flow (members_view l.members.entries)) (drop l.input-index l.inputs)) ≡ first_of (is_missing l.flow (members_view l.members.entries)) l.inputs
