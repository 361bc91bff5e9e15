use Rattle.std.proofs.Common.{◌≡◌}
use Rattle.serde_json.specs.View.{members_view}
use Rattle.wdl_json.specs.Inputs.{unknown}
use Rattle.wdl_json.proofs.unknown.unknown_fault.Given as goal

abbrev pub invariant-loop-name : goal.invariant-loop-name
invariant-loop-name l = unknown l.flow l.inputs (members_view l.name-iterator) ≡ unknown l.flow l.inputs (members_view l.members.entries)
