use Rattle.std.proofs.Common.{◌≡◌, drop}
use Rattle.serde_json.specs.Data.{no_members}
use Rattle.serde_json.specs.View.{members_view}
use Rattle.wdl_json.specs.Outputs.{with_outputs}
use Rattle.wdl_json.proofs.outputs.outputs_json.Given as goal

abbrev pub invariant-loop-bind : goal.invariant-loop-bind
invariant-loop-bind l = with_outputs l.flow (drop l.bind-index l.outs) (members_view l.members.entries) ≡ with_outputs l.flow l.outs no_members
