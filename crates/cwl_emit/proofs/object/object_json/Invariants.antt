use Rattle.std.proofs.Common.{◌≡◌, drop}
use Rattle.serde_json.specs.Data.{no_members}
use Rattle.serde_json.specs.View.{members_view}
use Rattle.cwl_emit.specs.Objects.{with_given}
use Rattle.cwl_emit.proofs.object.object_json.Given as goal

abbrev pub invariant-loop-bind : goal.invariant-loop-bind
invariant-loop-bind l = with_given (drop l.bind-index l.given) (members_view l.members.entries) ≡ with_given l.given no_members
